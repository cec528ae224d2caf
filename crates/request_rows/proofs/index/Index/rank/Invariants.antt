use Rattle.std.proofs.Common.{◌-◌, ◌≡◌, ℕ, ◌<◌, ◌≤◌, length, slice_index, false}
use Rattle.std.specs.Ordering.{is_lt}
use Rattle.std.specs.declared.cmp.Ordering.TheVariants.{Less}
use Rattle.request_rows.specs.Order.{keys_of}
use Rattle.request_rows.specs.Indexed.{key_texts, entry_order}
use Rattle.request_rows.proofs.index.Index.rank.Given as goal

-- what lies in front of `low` comes before, and what lies behind `high` does not
abbrev pub invariant-loop-low : goal.invariant-loop-low
invariant-loop-low l =
    (l.low ≤ l.high)
    × (l.high ≤ length l.self.places.items)
    × ((k : ℕ) → k < l.low
    → entry_order (keys_of l.by l.lists.asked.items l.lists.opened.items) (slice_index l.self.places.items k) (key_texts l.key) l.place ≡ Less)
    × ((k : ℕ) → l.high ≤ k → k < length l.self.places.items
    → is_lt (entry_order (keys_of l.by l.lists.asked.items l.lists.opened.items) (slice_index l.self.places.items k) (key_texts l.key) l.place) ≡ false)
    × (0 < l.step)

abbrev pub decreases-loop-low : goal.decreases-loop-low
decreases-loop-low l = l.high - l.low
