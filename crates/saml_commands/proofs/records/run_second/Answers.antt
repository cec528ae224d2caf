use Rattle.std.proofs.Common.{◌≡◌, ℕ, Option, Result, Ok, Err, codes, refl, sym, ap, ◌∙◌, subst}
use Rattle.crash_disk.specs.declared.file_no.FileNo.TheVariants.{One}
use Rattle.gate_journal.specs.Format.{Committed}
use Rattle.saml_commands.specs.Answers.{Foreign}
use Rattle.saml_commands.specs.Records.{OfBoth, OfFirst, held_as}
use Rattle.saml_commands.proofs.Answering.{weaker, with_answer}
use Rattle.saml_commands.proofs.RecordAnswers.{taken}
use Rattle.saml_commands.proofs.records.run_second.Goals as goal

pub returns-in-Ok-held_in-clause-ends : goal.returns-in-Ok-held_in-clause-ends
returns-in-Ok-held_in-clause-ends g c =
    let rules = g.S.Standing.rules in
    let line = g.S.Lines.line in
    let told = g.F.Files.holds c.args.files.now in
    let bytes = c.take_file.new.bytes.items in
    let held : Ok c.in-Ok-held_in.one ≡ held_as c.in-Ok.fits bytes = sym c.in-Ok-held_in.is ∙ c.held_in.ensures ∙ ap (held_as c.in-Ok.fits) c.deref.ensures.value in
    weaker (OfBoth rules line c.args.zero (Ok c.in-Ok-held_in.one)) (OfFirst rules line told (Ok c.args.zero)) (g.K.Sink.taken c.args.out.now) (g.K.Sink.taken c.print_both.new.out) c.print_both.result
    (λ answer h. taken (OfBoth rules line c.args.zero) told (codes "journal.1") c.in-Ok.fits bytes c.in-Ok.ensures.ok answer (subst (λ (r : Result (Option Committed) ℕ). OfBoth rules line c.args.zero r answer) held h))
    c.print_both.ensures.ends

pub returns-clause-ends : goal.returns-clause-ends
returns-clause-ends g c =
    let rules = g.S.Standing.rules in
    let line = g.S.Lines.line in
    let told = g.F.Files.holds c.args.files.now in
    let bytes = c.take_file.new.bytes.items in
    let wrong = Foreign One c.in-Err-held_in.place in
    let held : Err c.in-Err-held_in.place ≡ held_as c.in-Ok.fits bytes = sym c.in-Err-held_in.is ∙ c.held_in.ensures ∙ ap (held_as c.in-Ok.fits) c.deref.ensures.value in
    with_answer (OfFirst rules line told (Ok c.args.zero)) (g.K.Sink.taken c.args.out.now) (g.K.Sink.taken c.print.new.out) c.print.result wrong
    (taken (OfBoth rules line c.args.zero) told (codes "journal.1") c.in-Ok.fits bytes c.in-Ok.ensures.ok wrong (subst (λ (r : Result (Option Committed) ℕ). OfBoth rules line c.args.zero r wrong) held refl))
    c.print.ensures.ends
