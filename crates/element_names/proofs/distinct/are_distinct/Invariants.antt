use Rattle.std.proofs.Common.{◌≡◌, ℕ, ◌+◌, ◌<◌, false, get_or}
use Rattle.element_names.specs.Keys.{Key, same_key}
use Rattle.element_names.proofs.distinct.are_distinct.Given as goal

-- the neighbours so far differ
abbrev pub invariant-pairs : goal.invariant-pairs
invariant-pairs l = (k : ℕ) (d : Key) → k + 1 < l.i → same_key (get_or l.keys k d) (get_or l.keys (k + 1) d) ≡ false
