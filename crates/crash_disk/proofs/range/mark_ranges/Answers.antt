use Rattle.std.proofs.Common.{◌≡◌, inl, inr, ◌+◌, true, false, [], ◌∷◌, take, get_or, ◌∙◌, ap, arith, if◌then◌else◌}
use Rattle.std.proofs.lemmas.List.{take_more}
use Rattle.std.proofs.lemmas.Bool.Decides.{nat_tests}
use Rattle.crash_disk.specs.Ranges.{is_in}
use Rattle.crash_disk.specs.declared.range.Range.{Range}
use Rattle.crash_disk.proofs.RangeLaws.{is_in-push, place_in}
use Rattle.crash_disk.proofs.range.mark_ranges.Goals as goal

pub loop-range-preserved : goal.loop-range-preserved
loop-range-preserved c i low =
    let ranges = c.args.ranges.now in
    let at = c.loop-range.range-index in
    let range : Range = get_or ranges at (record { start = 0; end = 0 }) in
    let more = take_more ranges at (record { start = 0; end = 0 }) c.loop-range-test.true in
    let joined : is_in i (take (at + 1) ranges) ≡ (if is_in i (take at ranges) then true else is_in i (range ∷ [])) = ap (is_in i) more ∙ is_in-push i (take at ranges) range in
    let before = c.loop-range.invariant i low in
    elim (place_in i range) [
      | inl inside ↦
          let now = c.mark_range.ensures.inside i inside.0 inside.1 (omega arith) in
          let here : is_in i (range ∷ []) ≡ true = grind (arith, nat_tests) in
          grind (arith, nat_tests)
      | inr beyond ↦
          let now = c.mark_range.ensures.outside i beyond in
          let here : is_in i (range ∷ []) ≡ false = elim beyond [ inl early ↦ grind (arith, nat_tests) | inr late ↦ grind (arith, nat_tests) ] in
          grind (arith, nat_tests)
    ]
