-- What a service provider's ledger is, and what the images of its disk stand for.
use Rattle.std.specs.Prelude.{ℕ, Option, Result}
use Rattle.crash_disk.specs.Disk.{Image}
use Rattle.gate_journal.specs.Format.{Fault}
use Rattle.ledger_records.specs.declared.sp_record.SpRecord.{SpRecord}
use Rattle.record_ledger.specs.Ledger as any
use Rattle.request_ledger.specs.RowsOf.{SpRows, rows_of}
use Rattle.request_ledger.specs.Record.{request_rules}
use Rattle.request_ledger.specs.Standing.{StandingView}

-- a journal whose payloads are records of the ledger
abbrev pub Held : Type 0
Held = any.Held SpRecord

-- What an image stands for: a ledger, no journal yet, or a fault.
abbrev pub ledger_in : Image → Result (Option Held) Fault
ledger_in = any.ledger_in request_rules

-- an opened ledger
abbrev pub OpenedLedger : Type 0
OpenedLedger = any.OpenedLedger SpRecord StandingView

abbrev pub rows_in : OpenedLedger → SpRows
rows_in ledger = rows_of ledger.held.records

-- The next number to be drawn: the larger of the header's and one more than the greatest number that a record drew.
abbrev pub next_number : Held → ℕ
next_number = any.next_number request_rules
