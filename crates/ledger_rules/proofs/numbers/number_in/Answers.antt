use Rattle.std.proofs.Common.{◌∙◌, ap, arith}
use Rattle.std.specs.Int.{w64, from_be_bytes}
use Rattle.std.specs.Prelude.{Some}
use Rattle.std.specs.Result.{result_ok}
use Rattle.std.proofs.lemmas.Nat.{from_be_bytes-to_be_bytes_8}
use Rattle.std.proofs.lemmas.Option.{none-some}
use Rattle.ledger_rules.proofs.Fronts.{has_number-long, number_read, number_written}
use Rattle.ledger_rules.proofs.numbers.number_in.Goals as goal

pub returns-in_err-digits : goal.returns-in_err-digits
returns-in_err-digits c n small is =
    let long = has_number-long n c.as_bytes.result.now (rw c.as_bytes.ensures.value is) in
    absurd (omega (arith, c.in_err-digits.ensures.lookup.0))

pub returns-in_err-ok : goal.returns-in_err-ok
returns-in_err-ok c n small is =
    let read = number_read n c.as_bytes.result.now c.in_ok-digits.digits.now (rw c.as_bytes.ensures.value is) c.in_ok-digits.ensures.lookup.0.2 in
    let written = number_written _ _ _ _ c.decode_to_slice.ensures.value read in
    absurd (none-some tt (c.in_err-ok.ensures.value ∙ ap result_ok written.0))

pub returns : goal.returns
returns c n small is =
    let read = number_read n c.as_bytes.result.now c.in_ok-digits.digits.now (rw c.as_bytes.ensures.value is) c.in_ok-digits.ensures.lookup.0.2 in
    let written = number_written _ _ _ _ c.decode_to_slice.ensures.value read in
    ap Some (c.from_be_bytes.ensures ∙ ap (from_be_bytes w64) written.1 ∙ from_be_bytes-to_be_bytes_8 n small)
