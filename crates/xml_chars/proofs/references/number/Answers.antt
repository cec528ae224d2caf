use Rattle.std.proofs.Common.{arith, inl, inr, sym, subst, true, ◌≡◌}
use Rattle.xml_spec.specs.Characters.{InRanges, char_ranges}
use Rattle.xml_chars.proofs.Numbers.{Leads, cut_fails, surrogate_fails, other_char_fails, number_read}
use Rattle.xml_chars.proofs.references.number.Goals as goal
use Rattle.xml_chars.proofs.references.number.Goals.{then-count-eq0-via-then-count-eq0, then-count-eq0-via-else-count-eq0+then-count-bytes, then-count-eq0-via-else-count-eq0+else-count-bytes+then-bytes-count-ne59}

pub returns-then-count-eq0 : goal.returns-then-count-eq0
returns-then-count-eq0 c =
    let e = c.leading_digits-count.ensures in
    let l : Leads c.args.radix c.leading_digits-count.result.0 c.args.bytes.now = record { base = c.requires.high; within = e.within; digits = e.digits; all_of_them = e.all_of_them } in
    cut_fails l (elim c.then-count-eq0.branch [
      | then-count-eq0-via-then-count-eq0 w ↦ inl w.if-count-eq0.true
      | then-count-eq0-via-else-count-eq0+then-count-bytes w ↦ inr (inl w.if-count-bytes.true)
      | then-count-eq0-via-else-count-eq0+else-count-bytes+then-bytes-count-ne59 w ↦ inr (inr (omega arith, w.if-bytes-count-ne59.true))
    ])

pub returns-in_err-character : goal.returns-in_err-character
returns-in_err-character c =
    let e = c.leading_digits-count.ensures in
    let l : Leads c.args.radix c.leading_digits-count.result.0 c.args.bytes.now = record { base = c.requires.high; within = e.within; digits = e.digits; all_of_them = e.all_of_them } in
    rw c.from_residual.ensures (surrogate_fails c.leading_digits-count.result.1 l e.value c.in_err-character.ensures.cases)

pub returns-then-is_char : goal.returns-then-is_char
returns-then-is_char c =
    let e = c.leading_digits-count.ensures in
    let l : Leads c.args.radix c.leading_digits-count.result.0 c.args.bytes.now = record { base = c.requires.high; within = e.within; digits = e.digits; all_of_them = e.all_of_them } in
    rw c.in_ok-character.ensures.value.1 (number_read c.leading_digits-count.result.1 l e.value (omega arith) (omega arith) c.if-bytes-count-ne59.false
    (subst (InRanges char_ranges) c.in_ok-character.ensures.value.1 (c.is_char.ensures.0 c.if-is_char.true)))

pub returns-else-is_char : goal.returns-else-is_char
returns-else-is_char c =
    let e = c.leading_digits-count.ensures in
    let l : Leads c.args.radix c.leading_digits-count.result.0 c.args.bytes.now = record { base = c.requires.high; within = e.within; digits = e.digits; all_of_them = e.all_of_them } in
    other_char_fails c.leading_digits-count.result.1 l e.value
    (λ allowed. let test : c.is_char.result ≡ true = c.is_char.ensures.1 (subst (InRanges char_ranges) (sym c.in_ok-character.ensures.value.1) allowed) in cc)
