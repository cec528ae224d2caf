use Rattle.std.proofs.Common.{take}
use Rattle.record_ledger.specs.Loading.{IsLoaded}
use Rattle.record_ledger.proofs.opening.load.Given as goal

abbrev pub invariant-loop-i : goal.invariant-loop-i
invariant-loop-i g l = IsLoaded g.S.Standing.rules g.S.Standing.row_rules.stands l.version (take l.i l.payload-items) l.loaded.standing l.loaded.payloads.items
