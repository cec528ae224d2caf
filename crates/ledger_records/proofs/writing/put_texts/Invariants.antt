use Rattle.std.proofs.Common.{◌≡◌, ◌++◌, length, take}
use Rattle.std.specs.List.{flat_map, AllByRecursion}
use Rattle.std.specs.Prelude.{IsUtf8}
use Rattle.ledger_records.specs.Fields.{count, text}
use Rattle.ledger_records.proofs.writing.put_texts.Given as goal

-- the items before the index are put
abbrev pub invariant-loop-value : goal.invariant-loop-value
invariant-loop-value l = record {
  put : l.out ≡ l.fn.out ++ count (length l.values) ++ flat_map text (take l.value-index l.value-items);
  held : AllByRecursion IsUtf8 (take l.value-index l.value-items);
}
