-- Which records are kept where others are left out.
use Rattle.std.specs.Prelude.{ℕ, List}
use Rattle.ledger_records.specs.declared.sp_record.SpRecord.{SpRecord}
use Rattle.record_ledger.specs.Compacting as any
use Rattle.request_ledger.specs.Record.{request_rules}
use Rattle.request_ledger.specs.Ledger.{Held}

-- These records are kept at a moment, in their order: those with a visible row, each that one of these names, and each that
-- names one.
abbrev pub AreKept : (now horizon : ℕ) (records kept : List SpRecord) → Type 0
AreKept = any.AreKept request_rules

-- A ledger made anew at a moment: the records that are kept, in the other file, with the next generation, the same next
-- number and the larger of the horizon and that moment.
abbrev pub IsCompacted : ℕ → Held → Held → Type 0
IsCompacted = any.IsCompacted request_rules

-- what a compaction makes of a ledger
abbrev pub Compacts : ℕ → Held → Held → Type 0
Compacts = any.Compacts request_rules
