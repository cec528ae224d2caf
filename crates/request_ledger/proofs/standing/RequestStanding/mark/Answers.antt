use Rattle.std.proofs.Common.{◌≡◌, true, map, sym, subst}
use Rattle.std.specs.Str.{bytes_eq}
use Rattle.ledger_records.specs.declared.sp_record.SpRecord.{SpRecord}
use Rattle.ledger_records.specs.declared.sp_record.SpRecord.TheVariants as kinds
use Rattle.request_rows.specs.declared.row.AskedRow.{AskedRow}
use Rattle.request_rows.specs.Indexed.{room}
use Rattle.request_ledger.specs.RowsOf.{is_among, rows_after}
use Rattle.request_ledger.specs.Record.{is_next}
use Rattle.request_ledger.specs.Standing.{StandingView, HasMarkRoom, HaveNumbers, AreSpent}
use Rattle.request_ledger.proofs.StandingRows.{fresh_request}
use Rattle.request_ledger.proofs.SpentMarks.{spent_asked, spent_closed}
use Rattle.request_ledger.proofs.standing.RequestStanding.mark.Goals as goal

pub put_mark-requires : goal.put_mark-requires
put_mark-requires c = subst (HasMarkRoom (room c.args.spent.now)) c.in-Asked.is c.requires.room

pub returns-in-Asked : goal.returns-in-Asked
returns-in-Asked c =
    let now = c.args.self.now in
    let r = c.in-Asked.field-0 in
    let listed = c.self.inside.asked.listed in
    let have : HaveNumbers now.next listed (map (λ (row : AskedRow). row.request) now.rows.asked) =
    subst (λ (v : StandingView). HaveNumbers v.next listed (map (λ (row : AskedRow). row.request) v.rows.asked)) c.self.view_is c.self.invariant.0 in
    let first = fresh_request now.rows now.next r (subst (λ (e : SpRecord). is_next now.rows now.next e ≡ true) c.in-Asked.is c.requires.is) in
    let more = spent_asked now.next listed c.args.spent.now.items now.rows r have first.least_is first.below first.has c.requires.spent in
    subst (λ (e : SpRecord). AreSpent c.put_mark.new.spent.items (rows_after now.rows e)) (sym c.in-Asked.is)
    (subst (λ marks. AreSpent marks (rows_after now.rows (kinds.Asked r))) (sym c.put_mark.ensures) more)

pub returns-in-Left : goal.returns-in-Left
returns-in-Left c =
    let rows = c.args.self.now.rows in
    let r = c.in-Left.field-0 in
    subst (λ (e : SpRecord). AreSpent c.args.spent.now.items (rows_after rows e)) (sym c.in-Left.is)
    (spent_closed c.args.spent.now.items rows (λ row. bytes_eq r.token row.token) c.requires.spent)

pub returns-in-Ended : goal.returns-in-Ended
returns-in-Ended c =
    let rows = c.args.self.now.rows in
    let r = c.in-Ended.field-0 in
    subst (λ (e : SpRecord). AreSpent c.args.spent.now.items (rows_after rows e)) (sym c.in-Ended.is)
    (spent_closed c.args.spent.now.items rows (λ row. is_among row.token r.tokens) c.requires.spent)
