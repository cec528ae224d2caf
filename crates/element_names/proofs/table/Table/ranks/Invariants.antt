use Rattle.std.proofs.Common.{◌≡◌, ◌≤◌, length, drop}
use Rattle.element_names.proofs.Ranking.{AreWritten}
use Rattle.element_names.proofs.table.Table.ranks.Given as goal

abbrev pub invariant-loop-number : goal.invariant-loop-number
invariant-loop-number l = record {
  left : l.number-iterator ≡ drop l.rank l.initial.number-iterator;
  within : l.rank ≤ length l.initial.number-iterator;
  count : length l.ranks.items ≡ length l.self;
  written : AreWritten l.initial.number-iterator l.rank l.ranks.items;
}
