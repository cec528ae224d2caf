use Rattle.std.proofs.Common.{inl, inr, take, get_or, sym, ◌∙◌, subst}
use Rattle.std.proofs.lemmas.List.{take_more}
use Rattle.crash_disk.specs.Ranges.{IsOutside}
use Rattle.crash_disk.specs.declared.range.Range.{Range}
use Rattle.crash_disk.proofs.RangeLaws.{IsOutside-push, place_in}
use Rattle.crash_disk.proofs.range.copy_ranges.Goals as goal

pub loop-range-preserved : goal.loop-range-preserved
loop-range-preserved c i was =
    let ranges = c.args.ranges.now in
    let at = c.loop-range.range-index in
    let range : Range = get_or ranges at (record { start = 0; end = 0 }) in
    let more = take_more ranges at (record { start = 0; end = 0 }) c.loop-range-test.true in
    elim (place_in i range) [
      | inl inside ↦ c.copy_range.ensures.inside i inside.0 inside.1
      | inr beyond ↦
          c.copy_range.ensures.outside i beyond
          ∙ c.loop-range.invariant i (λ out. was (subst (λ (l : _). IsOutside i l) (sym more) (IsOutside-push i (take at ranges) range out beyond)))
    ]
