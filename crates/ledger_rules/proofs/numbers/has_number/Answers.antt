use Rattle.std.proofs.Common.{◌≡◌, ap, ◌∙◌}
use Rattle.std.specs.Int.{w64, to_be_bytes}
use Rattle.hex.specs.Hex.{encode_lower}
use Rattle.ledger_rules.specs.Numbers.{has_number}
use Rattle.ledger_rules.proofs.Fronts.{has_number-got, number_text-written}
use Rattle.ledger_rules.proofs.numbers.has_number.Goals as goal

pub returns : goal.returns
returns c =
    let n = c.args.number in
    let digits : c.encode_to_slice.new.output ≡ encode_lower (to_be_bytes w64 n) =
    rw (← c.to_be_bytes.ensures) (rw c.unwrap.ensures at c.encode_to_slice.ensures.written) in
    let front = number_text-written n _ _ c.as_slice.ensures digits in
    c.eq.ensures ∙ has_number-got c.as_bytes.result.now n c.get.result c.as_slice.result c.get.ensures.lookup front
    ∙ ap (has_number n) c.as_bytes.ensures.value
