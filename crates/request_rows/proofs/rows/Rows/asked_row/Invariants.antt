use Rattle.request_rows.specs.Rows.{visible}
use Rattle.request_rows.proofs.Finding.{NoneShown}
use Rattle.request_rows.proofs.rows.Rows.asked_row.Given as goal

abbrev pub invariant-loop-place : goal.invariant-loop-place
invariant-loop-place l = NoneShown (λ row. visible row.until l.now l.horizon) l.self-inside.lists.asked.items l.places l.place-index
