use Rattle.std.proofs.Common.{[], take, drop, sym, ◌∙◌, ap}
use Rattle.std.proofs.lemmas.List.{append-nil, take-append-drop}
use Rattle.std.proofs.lemmas.Bool.{true≢false}
use Rattle.saml_outside.specs.Sinks.{then_bytes}
use Rattle.saml_commands.proofs.Passed.{step_appends}
use Rattle.saml_commands.proofs.printing.SinkOctets.flush.Goals as goal

pub returns-in-Err-clause-appends : goal.returns-in-Err-clause-appends
returns-in-Err-clause-appends g c =
    let n = c.in-Err.field-0.sent in
    let kept = c.args.self.now.kept.now.items in
    step_appends _ _ [] (take n kept) (drop n kept) (record {
      whole = c.if-self.false;
      split = append-nil kept ∙ sym (take-append-drop n kept);
      taken = c.in-Err.ensures.puts.1 ∙ ap (λ bytes. then_bytes (g.K.Sink.taken c.args.self.now.out.now) (take n bytes)) c.deref.ensures.value;
      kept = λ clash. absurd (true≢false clash);
      never_falls = c.put.ensures.never_falls;
      rose = λ failed. c.in-Err.ensures.failed;
    })
