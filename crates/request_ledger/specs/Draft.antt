-- The IDs that a record draws.
use Rattle.std.specs.Prelude.{ℕ, List, Option, IsSome, slice_get}
use Rattle.std.specs.Option.{option_map}
use Rattle.ledger_records.specs.declared.sp_record.SpRecord.{SpRecord}
use Rattle.ledger_rules.specs.Numbers.{Drawn}
use Rattle.request_ledger.specs.Record.{drawn}

-- the ID that a record draws at a place, counted from 0
abbrev pub drawn_id : SpRecord → ℕ → Option (List ℕ)
drawn_id r k = option_map (λ (d : Drawn). d.id) (slice_get (drawn r) k)

abbrev pub IsDrawn : SpRecord → ℕ → Type 0
IsDrawn r k = IsSome (drawn_id r k)
