use Rattle.std.proofs.Common.{◌≡◌, ℕ, ◌-◌, ◌<◌, ◌≤◌, length, true, false, slice_index_or}
use Rattle.std.specs.Ordering.{is_le}
use Rattle.xml_spec.specs.Canonical.{expanded_order}
use Rattle.excl_c14n.specs.Shown.{expanded_of}
use Rattle.excl_c14n.specs.declared.order.Expanded.{Expanded}
use Rattle.excl_c14n.proofs.order.place_of.Given as goal

abbrev pub invariant-loop-low : goal.invariant-loop-low
invariant-loop-low l = record {
  between : l.low ≤ l.high;
  within : l.high ≤ length l.names;
  above :
      (k : ℕ) → (d : Expanded) → k < l.low → is_le (expanded_order (expanded_of l.doc.tree l.name) (expanded_of l.doc.tree (slice_index_or l.names k d))) ≡ false;
  place :
      (d : Expanded) → l.high < length l.names →
      is_le (expanded_order (expanded_of l.doc.tree l.name) (expanded_of l.doc.tree (slice_index_or l.names l.high d))) ≡ true;
}

abbrev pub decreases-loop-low : goal.decreases-loop-low
decreases-loop-low l = l.high - l.low
