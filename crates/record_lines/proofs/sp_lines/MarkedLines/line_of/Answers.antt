use Rattle.std.specs.Prelude.{codes, IfOk}
use Rattle.std.proofs.Common.{◌≡◌, List, ℕ, sym, subst}
use Rattle.ledger_records.specs.declared.sp_record.SpRecord.{SpRecord}
use Rattle.record_lines.specs.Lines.{Field, line, sp_line}
use Rattle.record_lines.proofs.sp_lines.MarkedLines.line_of.Goals as goal

pub returns-in-Confirmed : goal.returns-in-Confirmed
returns-in-Confirmed c =
    let result = c.line_of-in-Confirmed.result in
    subst (λ (e : SpRecord). IfOk result (λ (text : List ℕ). text ≡ sp_line e)) (sym c.in-Confirmed.is)
    (subst (λ (fields : List Field). IfOk result (λ (text : List ℕ). text ≡ line c.in-Confirmed.r.moment (codes "Confirmed") fields)) c.confirmed.ensures c.line_of-in-Confirmed.ensures)
