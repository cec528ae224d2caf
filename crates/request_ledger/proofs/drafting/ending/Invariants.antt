use Rattle.std.proofs.Common.{◌≡◌, take}
use Rattle.request_ledger.specs.Drafts.{ending}
use Rattle.request_ledger.proofs.drafting.ending.Given as goal

abbrev pub invariant-loop-row : goal.invariant-loop-row
invariant-loop-row l = l.tokens ≡ ending l.now l.horizon l.issuer l.name l.indexes (take l.row-index l.row-items)
