-- What a hub's ledger is, and what the images of its disk stand for.
use Rattle.std.specs.Prelude.{ℕ, Option, Result}
use Rattle.crash_disk.specs.Disk.{Image}
use Rattle.gate_journal.specs.Format.{Fault}
use Rattle.ledger_records.specs.declared.hub_record.HubRecord.{HubRecord}
use Rattle.record_ledger.specs.Ledger as any
use Rattle.hub_ledger.specs.RowsOf.{HubRows, rows_of}
use Rattle.hub_ledger.specs.Record.{hub_rules}
use Rattle.hub_ledger.specs.Standing.{StandingView}

-- a journal whose payloads are records of the ledger
abbrev pub Held : Type 0
Held = any.Held HubRecord

-- What an image stands for: a ledger, no journal yet, or a fault.
abbrev pub ledger_in : Image → Result (Option Held) Fault
ledger_in = any.ledger_in hub_rules

-- an opened ledger
abbrev pub OpenedLedger : Type 0
OpenedLedger = any.OpenedLedger HubRecord StandingView

abbrev pub rows_in : OpenedLedger → HubRows
rows_in ledger = rows_of ledger.held.records

-- The next number to be drawn: the larger of the header's and one more than the greatest number that a record drew.
abbrev pub next_number : Held → ℕ
next_number = any.next_number hub_rules
