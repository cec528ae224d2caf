-- How the code keeps the table.
use Rattle.std.specs.Prelude.{◌≡◌, ℕ, ◌≤◌, List, map, filter_map, Option, Some}
use Rattle.std.specs.FinMap as map
use Rattle.slab.specs.Slab.{Slab, get}
use Rattle.http_wire.specs.Awaiting.{Awaited, IsAwaited, KeepsHead}
use Rattle.conn_table.specs.declared.limits.TheConstants.{CONNECTION_LIMIT}
use Rattle.conn_table.specs.Table.{Table}

-- a connection that is kept: its number, and all bytes that it has brought since it was started
pub record Kept : Type 0 where
  pub conn : ℕ
  pub bytes : List ℕ

-- the bytes of a connection were looked at: what is known of them is true, and the head of a whole request is kept
pub record IsLookedAt (awaited : Awaited) (bytes : List ℕ) : Type 0 where
  pub known : IsAwaited awaited bytes
  pub kept : KeepsHead awaited bytes

-- the table of the connections in these slots
abbrev pub table_of : List (Option Kept) → Table
table_of slots = map.from_entries (map (λ kept. (kept.conn, kept.bytes)) (filter_map (λ slot. slot) slots))

-- no connection stands in two slots
abbrev pub AreDistinct : Slab Kept → Type 0
AreDistinct slab = (a b : ℕ) (one other : Kept) → get slab a ≡ Some one → get slab b ≡ Some other → one.conn ≡ other.conn → a ≡ b

-- no connection stands in two slots, and there are no more than CONNECTION_LIMIT
pub record IsSound (slab : Slab Kept) : Type 0 where
  pub distinct : AreDistinct slab
  pub limit : map.len (table_of slab.slots) ≤ CONNECTION_LIMIT
