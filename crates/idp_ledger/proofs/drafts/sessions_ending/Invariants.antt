use Rattle.std.proofs.Common.{◌≡◌, ◌&&◌, true, take}
use Rattle.std.specs.List.{list_any}
use Rattle.idp_rows.specs.Finding.{is_ending, has_issued}
use Rattle.idp_ledger.specs.Ledger.{rows_in}
use Rattle.idp_ledger.proofs.RowTexts.{ending_of}
use Rattle.idp_ledger.proofs.drafts.sessions_ending.Given as goal

abbrev pub invariant-loop-place : goal.invariant-loop-place
invariant-loop-place l =
    (l.cookies ≡ ending_of l.now l.ledger.held.header.horizon l.peer l.name l.indexes (rows_in l.ledger).issues (take l.place l.row-items))
    × (l.partial ≡ list_any (λ row. is_ending l.now l.ledger.held.header.horizon l.peer l.name l.indexes (rows_in l.ledger).issues row && has_issued true (rows_in l.ledger).issues row.cookie l.peer) (take l.place l.row-items))
