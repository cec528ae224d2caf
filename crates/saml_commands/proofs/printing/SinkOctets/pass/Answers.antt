use Rattle.std.proofs.Common.{[], ◌++◌, take, sym, ◌∙◌, ap}
use Rattle.std.proofs.lemmas.List.{append-nil}
use Rattle.std.proofs.lemmas.Bool.{true≢false}
use Rattle.saml_commands.proofs.Passed.{step_appends}
use Rattle.saml_commands.proofs.printing.SinkOctets.pass.Goals as goal

pub returns-in-Ok-clause-ok : goal.returns-in-Ok-clause-ok
returns-in-Ok-clause-ok g c =
    let bytes = c.args.bytes.now in
    step_appends _ _ bytes bytes [] (record {
      whole = c.requires.whole;
      split = ap (λ kept. kept ++ bytes) c.requires.none ∙ sym (append-nil bytes);
      taken = c.in-Ok.ensures.puts;
      kept = λ _. c.requires.none;
      never_falls = c.put.ensures.never_falls;
      rose = λ clash. absurd (true≢false (sym clash ∙ c.requires.whole));
    })

pub returns-in-Err-clause-err : goal.returns-in-Err-clause-err
returns-in-Err-clause-err g c =
    let n = c.in-Err.field-0.sent in
    let bytes = take n c.args.bytes.now in (
      n,
      step_appends _ _ bytes bytes [] (record {
        whole = c.requires.whole;
        split = ap (λ kept. kept ++ bytes) c.requires.none ∙ sym (append-nil bytes);
        taken = c.in-Err.ensures.puts.1;
        kept = λ clash. absurd (true≢false clash);
        never_falls = c.put.ensures.never_falls;
        rose = λ failed. c.in-Err.ensures.failed;
      }),
    )
