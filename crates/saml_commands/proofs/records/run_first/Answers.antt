use Rattle.std.proofs.Common.{◌≡◌, ℕ, List, Option, Result, Ok, Err, codes, refl, sym, ap, ◌∙◌, subst}
use Rattle.crash_disk.specs.declared.file_no.FileNo.TheVariants.{Zero}
use Rattle.saml_outside.specs.Files.{File}
use Rattle.gate_journal.specs.Format.{Committed}
use Rattle.saml_commands.specs.Answers.{Foreign}
use Rattle.saml_commands.specs.Records.{OfFirst, OfLedger, held_as}
use Rattle.saml_commands.proofs.Answering.{weaker, with_answer}
use Rattle.saml_commands.proofs.RecordAnswers.{taken}
use Rattle.saml_commands.proofs.records.run_first.Goals as goal

pub returns-in-Ok-held_in-clause-ends : goal.returns-in-Ok-held_in-clause-ends
returns-in-Ok-held_in-clause-ends g c =
    let rules = g.S.Standing.rules in
    let line = g.S.Lines.line in
    let told = g.F.Files.holds c.args.files.now in
    let between = g.F.Files.holds c.take_file.new.files in
    let zero = c.in-Ok-held_in.zero in
    let bytes = c.take_file.new.bytes.items in
    let held : Ok zero ≡ held_as c.in-Ok.fits bytes = sym c.in-Ok-held_in.is ∙ c.held_in.ensures ∙ ap (held_as c.in-Ok.fits) c.deref.ensures.value in
    weaker (OfFirst rules line between (Ok zero)) (OfLedger rules line told) (g.K.Sink.taken c.args.out.now) (g.K.Sink.taken c.run_second.new.out) c.run_second.result
    (λ answer h. taken (OfFirst rules line told) told (codes "journal.0") c.in-Ok.fits bytes c.in-Ok.ensures.ok answer
    (subst (λ (r : Result (Option Committed) ℕ). OfFirst rules line told r answer) held (subst (λ (t : Option (List File)). OfFirst rules line t (Ok zero) answer) c.in-Ok.ensures.same h)))
    c.run_second.ensures.ends

pub returns-clause-ends : goal.returns-clause-ends
returns-clause-ends g c =
    let rules = g.S.Standing.rules in
    let line = g.S.Lines.line in
    let told = g.F.Files.holds c.args.files.now in
    let bytes = c.take_file.new.bytes.items in
    let wrong = Foreign Zero c.in-Err-held_in.place in
    let held : Err c.in-Err-held_in.place ≡ held_as c.in-Ok.fits bytes = sym c.in-Err-held_in.is ∙ c.held_in.ensures ∙ ap (held_as c.in-Ok.fits) c.deref.ensures.value in
    with_answer (OfLedger rules line told) (g.K.Sink.taken c.args.out.now) (g.K.Sink.taken c.print.new.out) c.print.result wrong
    (taken (OfFirst rules line told) told (codes "journal.0") c.in-Ok.fits bytes c.in-Ok.ensures.ok wrong (subst (λ (r : Result (Option Committed) ℕ). OfFirst rules line told r wrong) held refl))
    c.print.ensures.ends
