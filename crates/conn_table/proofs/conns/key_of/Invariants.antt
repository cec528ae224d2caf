use Rattle.std.proofs.Common.{◌≡◌, ℕ, Some, Contains}
use Rattle.slab.specs.Slab.{get}
use Rattle.conn_table.specs.Kept.{Kept}
use Rattle.conn_table.proofs.conns.key_of.Given as goal

-- a connection of this number is among those that are left, and each that is left is in the slab
abbrev pub invariant-loop-key : goal.invariant-loop-key
invariant-loop-key l =
    (goal.iterator-loop-key).can_next l.key-iterator ×
    (goal.iterator-loop-key).is_finite l.key-iterator ×
    ((key : ℕ) (kept : Kept) → get l.connections key ≡ Some kept → kept.conn ≡ l.conn → Contains l.key-iterator (key, kept)) ×
    ((key : ℕ) (kept : Kept) → Contains l.key-iterator (key, kept) → get l.connections key ≡ Some kept)
