use Rattle.std.proofs.Common.{ℕ, List, ◌<◌, ◌≤◌, length, get_or}
use Rattle.gate_journal.proofs.remaking.longest_of.Given as goal

abbrev pub invariant-loop-record : goal.invariant-loop-record
invariant-loop-record l = (k : ℕ) (d : List ℕ) → k < l.record-index → length (get_or l.records k d) ≤ l.longest
