use Rattle.std.proofs.Common.{◌≡◌, take}
use Rattle.idp_rows.specs.Finding.{parts_of}
use Rattle.idp_ledger.proofs.rounds.parts.Given as goal

-- the parts of the rows before the index
abbrev pub invariant-loop-row : goal.invariant-loop-row
invariant-loop-row l = l.parts.items ≡ parts_of l.cookies (take l.row-index l.row-items)
