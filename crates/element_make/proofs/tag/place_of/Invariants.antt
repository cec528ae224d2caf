use Rattle.std.proofs.Common.{◌≡◌, ◌<◌, ℕ, false, slice_index_or}
use Rattle.std.specs.Ordering.{is_le}
use Rattle.xml_spec.specs.Canonical.{byte_order}
use Rattle.element_make.specs.declared.tag.Lent.{Lent}
use Rattle.element_make.proofs.tag.place_of.Given as goal

abbrev pub invariant-loop-place : goal.invariant-loop-place
invariant-loop-place l =
    (k : ℕ) → (d : Lent) → k < l.place → is_le (byte_order l.attribute.name.now (slice_index_or l.others k d).name.now) ≡ false
