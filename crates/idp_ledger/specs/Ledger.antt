-- What an identity provider's ledger is, and what the images of its disk stand for.
use Rattle.std.specs.Prelude.{ℕ, Option, Result}
use Rattle.crash_disk.specs.Disk.{Image}
use Rattle.gate_journal.specs.Format.{Fault}
use Rattle.ledger_records.specs.declared.idp_record.IdpRecord.{IdpRecord}
use Rattle.record_ledger.specs.Ledger as any
use Rattle.idp_rows.specs.RowsOf.{IdpRows, rows_of}
use Rattle.idp_ledger.specs.Record.{idp_rules}
use Rattle.idp_ledger.specs.Standing.{idp_row_rules}
use Rattle.idp_rows.specs.Kept.{StandingView}

-- a journal whose payloads are records of the ledger
abbrev pub Held : Type 0
Held = any.Held IdpRecord

-- What an image stands for: a ledger, no journal yet, or a fault.
abbrev pub ledger_in : Image → Result (Option Held) Fault
ledger_in = any.ledger_in idp_rules

-- an opened ledger
abbrev pub OpenedLedger : Type 0
OpenedLedger = any.OpenedLedger IdpRecord StandingView

abbrev pub rows_in : OpenedLedger → IdpRows
rows_in ledger = rows_of ledger.held.records

-- The next number to be drawn: the larger of the header's and one more than the greatest number that a record drew.
abbrev pub next_number : Held → ℕ
next_number = any.next_number idp_rules

-- No memory that was made ready is given up.
abbrev pub KeepsSpare : OpenedLedger → OpenedLedger → Type 0
KeepsSpare = any.KeepsSpare idp_row_rules
