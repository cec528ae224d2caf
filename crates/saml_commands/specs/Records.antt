-- What `records ROLE` answers: a line for each record of the journal in the folder.
use Rattle.std.specs.Prelude.{◌≡◌, ℕ, ◌⊎◌, Bool, true, false, List, [], Option, None, Some, Result, Ok, Err, codes, if◌then◌else◌}
use Rattle.saml_outside.specs.Files.{File, Reads}
use Rattle.saml_outside.specs.declared.reading.FileRead.TheVariants as reads
use Rattle.crash_disk.specs.declared.file_no.FileNo.TheVariants.{Zero}
use Rattle.gate_journal.specs.Format.{Committed, Fault, file_of, joined}
use Rattle.record_ledger.specs.Rules.{RecordRules}
use Rattle.record_ledger.specs.Ledger.{Held, of_journal}
use Rattle.request_ledger.specs.Record.{request_rules}
use Rattle.idp_ledger.specs.Record.{idp_rules}
use Rattle.hub_ledger.specs.Record.{hub_rules}
use Rattle.record_lines.specs.Judging.{lines}
use Rattle.record_lines.specs.Lines.{sp_line, idp_line}
use Rattle.record_lines.specs.HubLines.{hub_line}
use Rattle.saml_commands.specs.declared.command.Role.{Role}
use Rattle.saml_commands.specs.declared.command.Role.TheVariants as roles
use Rattle.saml_commands.specs.declared.limits.TheConstants.{GREATEST_JOURNAL}
use Rattle.saml_commands.specs.Answers.{Answer, Printed, Foreign}

-- A file of the journal is answered with what it holds: an absent one counts as an empty one, and one that is too long is
-- wrong at the place of the greatest length, whatever its bytes are.
abbrev pub OfJournalFile : (Result (Option Committed) ℕ → Answer → Type 0) → Option (List File) → List ℕ → Answer → Type 0
OfJournalFile meaning told name answer =
    ((bytes : List ℕ) × Reads told name GREATEST_JOURNAL reads.Whole bytes × meaning (file_of bytes) answer)
    ⊎ (Reads told name GREATEST_JOURNAL reads.Absent [] × meaning (file_of []) answer)
    ⊎ (Reads told name GREATEST_JOURNAL reads.TooLong [] × meaning (Err GREATEST_JOURNAL) answer)

module _ {R : Type 0} (rules : RecordRules R) (line : R → List ℕ) where
  -- What the files stand for: nothing is printed where they hold no journal yet, a line for each record where they hold a
  -- ledger, and else only the file and the place of what is wrong.
  abbrev pub ledger_answer : Result (Option (Held R)) Fault → Answer
  ledger_answer (Ok None) = Printed []
  ledger_answer (Ok (Some held)) = Printed (lines line held.records)
  ledger_answer (Err fault) = Foreign fault.file fault.place

  abbrev pub OfBoth : Option Committed → Result (Option Committed) ℕ → Answer → Type 0
  OfBoth zero one answer = answer ≡ ledger_answer (of_journal rules (joined (Ok zero) one))

  -- File 0 is looked at first, and file 1 where file 0 is not wrong by itself.
  abbrev pub OfFirst : Option (List File) → Result (Option Committed) ℕ → Answer → Type 0
  OfFirst told (Ok zero) answer = OfJournalFile (OfBoth zero) told (codes "journal.1") answer
  OfFirst told (Err place) answer = answer ≡ Foreign Zero place

  abbrev pub OfLedger : Option (List File) → Answer → Type 0
  OfLedger told answer = OfJournalFile (OfFirst told) told (codes "journal.0") answer

-- whose records are asked for
abbrev pub OfRecords : Role → Option (List File) → Answer → Type 0
OfRecords roles.Sp told answer = OfLedger request_rules sp_line told answer
OfRecords roles.Idp told answer = OfLedger idp_rules idp_line told answer
OfRecords roles.Hub told answer = OfLedger hub_rules hub_line told answer

-- what a call read of a file of the journal: whether it is not too long, and its bytes
abbrev pub IsTaken : Option (List File) → List ℕ → Bool → List ℕ → Type 0
IsTaken told name true bytes = Reads told name GREATEST_JOURNAL reads.Whole bytes ⊎ Reads told name GREATEST_JOURNAL reads.Absent bytes
IsTaken told name false bytes = Reads told name GREATEST_JOURNAL reads.TooLong bytes

-- what such a file holds
abbrev pub held_as : Bool → List ℕ → Result (Option Committed) ℕ
held_as fits bytes = if fits then file_of bytes else Err GREATEST_JOURNAL
