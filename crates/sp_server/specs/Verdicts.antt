-- What a compaction leaves as it was: the verdict on each form.
use Rattle.std.specs.Prelude.{ℕ, ◌≤◌, ◌↔◌, List}
use Rattle.request_ledger.specs.Compacting.{IsCompacted}
use Rattle.request_ledger.specs.Ledger.{Held}
use Rattle.request_ledger.specs.Record.{AreRecords}
use Rattle.request_ledger.specs.RowsOf.{rows_of}
use Rattle.sp_rules.specs.Verdict.{IsVerdict}
use Rattle.sp_rules.specs.declared.config.SpConfig.{SpConfig}
use Rattle.sp_server.specs.Step.{rows_seen}

-- this is the number of the verdict on a form over a ledger
abbrev pub IsVerdictOver : SpConfig → Held → (now : ℕ) → (body : List ℕ) → ℕ → Type 0
IsVerdictOver config held now body number =
    IsVerdict config (rows_seen (rows_of held.records)) held.header.horizon now body number

-- From the moment of a compaction on each form has the verdict that it had without.
abbrev pub CompactionsChangeNoVerdict : Type 0
CompactionsChangeNoVerdict =
    (config : SpConfig) (now later : ℕ) (old new : Held) (body : List ℕ) (number : ℕ) → AreRecords old.records
    → IsCompacted now old new → now ≤ later
    → IsVerdictOver config new later body number ↔ IsVerdictOver config old later body number
