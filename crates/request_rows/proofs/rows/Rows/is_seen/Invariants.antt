use Rattle.request_rows.specs.Rows.{visible}
use Rattle.request_rows.proofs.Finding.{NoneShown}
use Rattle.request_rows.proofs.rows.Rows.is_seen.Given as goal

abbrev pub invariant-loop-place : goal.invariant-loop-place
invariant-loop-place l = NoneShown (λ row. visible row.assertion_until l.now l.horizon) l.self-inside.lists.opened.items l.places l.place-index
