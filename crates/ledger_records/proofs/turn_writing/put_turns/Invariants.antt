use Rattle.std.proofs.Common.{◌≡◌, ◌++◌, length, take}
use Rattle.std.specs.List.{flat_map, AllByRecursion}
use Rattle.ledger_records.specs.Fields.{count, turn, IsTurn}
use Rattle.ledger_records.proofs.turn_writing.put_turns.Given as goal

-- the items before the index are put
abbrev pub invariant-loop-value : goal.invariant-loop-value
invariant-loop-value l = record {
  put : l.out ≡ l.fn.out ++ count (length l.listed) ++ flat_map turn (take l.value-index l.value-items);
  held : AllByRecursion IsTurn (take l.value-index l.value-items);
}
