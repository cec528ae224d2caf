use Rattle.std.specs.Prelude.{All, IfSome, vec_capacity}
use Rattle.std.proofs.Common.{◌≡◌, ℕ, ◌+◌, ◌^◌, ◌<◌, ◌≤◌, List, ◌++◌, length}
use Rattle.crash_disk.specs.declared.change.Change.{Change}
use Rattle.crash_disk.proofs.Following.{Made}
use Rattle.gate_journal.specs.Calls.{filling, writing_bodies}
use Rattle.gate_journal.specs.Format.{bodies_of}
use Rattle.gate_journal.specs.Making.{IsBlankBeside, IsClosed, IsFilling}
use Rattle.gate_journal.proofs.Running.{Run}
use Rattle.gate_journal.proofs.remaking.fill.Given as goal

abbrev pub invariant-loop-record : goal.invariant-loop-record
invariant-loop-record g l = record {
  written : (front : List ℕ) × (front ++ bodies_of l.left ≡ bodies_of l.records) × (l.at ≡ 72 + length front) × ((other : List ℕ) → IfSome (g.D.Disk.shows l.fn.disk).told (IsClosed l.file other)
      → Run g.D.Disk.shows (IsBlankBeside l.file other) l.fn.disk l.disk (IsFilling l.file l.fields front other));
  calls : (front : List Change) × (front ++ writing_bodies l.file l.at l.left ≡ filling l.file l.fields l.records)
      × Made g.D.Disk.shows (λ _. front) l.fn.disk l.disk;
  each : All (λ payload. length payload ≤ 1048576) l.left;
  room : All (λ payload. length payload + 5 ≤ vec_capacity l.body) l.left;
  kept : (g.D.Disk.shows l.disk).faults ≡ (g.D.Disk.shows l.fn.disk).faults;
  in_range : (g.D.Disk.shows l.disk).faults < 2 ^ 64;
}

abbrev pub decreases-loop-record : goal.decreases-loop-record
decreases-loop-record g l = length l.left
