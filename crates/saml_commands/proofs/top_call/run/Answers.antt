use Rattle.std.proofs.Common.{◌≡◌, Some, sym, ap, subst, ◌∙◌}
use Rattle.std.specs.Option.{option_map}
use Rattle.saml_commands.specs.Running.{command_of, DoesServe, OfCommand, Answers}
use Rattle.saml_commands.specs.Views.{command_view}
use Rattle.saml_commands.proofs.Answering.{answered}
use Rattle.saml_commands.proofs.Completeness.{Laws}
use Rattle.saml_commands.proofs.Serving.{weaker_after, done, carried, accepted_done}
use Rattle.saml_commands.proofs.top_call.run.Goals as goal

pub returns-in-Some-clause-ends : goal.returns-in-Some-clause-ends
returns-in-Some-clause-ends g c =
    let words = c.args.words.now in
    let left = (g.D.Disk.shows c.run_command.new.disk).left_since in
    let told = g.F.Files.holds c.args.files.now in
    let old = g.K.Sink.taken c.args.out.now in
    let new = g.K.Sink.taken c.run_command.new.out in
    let command = command_view c.in-Some.command in
    let is : command_of words ≡ Some command = sym c.command_of.ensures.command ∙ ap (option_map command_view) c.in-Some.is in
    let (ran, does, carries, ends, leaves) = c.run_command.ensures.ends in (
      ran,
      done left words told command is _ ran _ does,
      carried left words told command is _ ran _ carries,
      weaker_after ran (OfCommand told ran command) (Answers words told ran) old new c.run_command.result (answered words told ran command is) ends,
      leaves,
    )

pub returns-in-Some-clause-complete : goal.returns-in-Some-clause-complete
returns-in-Some-clause-complete g c = λ accepted no_read no_write.
    let laws : Laws = record {
      opened = c.a_form_has_one_verdict.ensures.opened;
      set_up = c.a_config_has_one_outcome.ensures.set_up;
      never_both = c.a_config_has_one_outcome.ensures.never_both;
    } in
    let words = c.args.words.now in
    let left = (g.D.Disk.shows c.run_command.new.disk).left_since in
    let told = g.F.Files.holds c.args.files.now in
    let old = g.K.Sink.taken c.args.out.now in
    let new = g.K.Sink.taken c.run_command.new.out in
    let command = command_view c.in-Some.command in
    let is : command_of words ≡ Some command = sym c.command_of.ensures.command ∙ ap (option_map command_view) c.in-Some.is in
    let (ran, does, carries, ends, leaves) = c.run_command.ensures.ends in
    accepted_done laws left words told command is accepted _ ran _ old new c.run_command.result does ends
    (λ e. no_read (c.run_command.ensures.read_fault e)) (λ e. no_write (c.run_command.ensures.write_fault e))

pub returns-in-Some-clause-untouched : goal.returns-in-Some-clause-untouched
returns-in-Some-clause-untouched g c =
    let command = command_view c.in-Some.command in
    let is : command_of c.args.words.now ≡ Some command = sym c.command_of.ensures.command ∙ ap (option_map command_view) c.in-Some.is in
    λ idle. c.run_command.ensures.untouched (λ serves. idle (subst DoesServe (sym is) serves))
