-- Which records are kept where others are left out.
use Rattle.std.specs.Prelude.{ℕ}
use Rattle.record_ledger.specs.Compacting as any
use Rattle.hub_ledger.specs.Record.{hub_rules}
use Rattle.hub_ledger.specs.Ledger.{Held}

-- A ledger made anew at a moment: the records that are kept, in the other file, with the next generation, the same next
-- number and the larger of the horizon and that moment.
abbrev pub IsCompacted : ℕ → Held → Held → Type 0
IsCompacted = any.IsCompacted hub_rules

-- what a compaction makes of a ledger
abbrev pub Compacts : ℕ → Held → Held → Type 0
Compacts = any.Compacts hub_rules
