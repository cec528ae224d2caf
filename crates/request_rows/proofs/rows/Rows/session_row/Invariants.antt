use Rattle.std.proofs.Common.{not, ◌&&◌}
use Rattle.request_rows.specs.Rows.{visible}
use Rattle.request_rows.proofs.Finding.{NoneShown}
use Rattle.request_rows.proofs.rows.Rows.session_row.Given as goal

abbrev pub invariant-loop-place : goal.invariant-loop-place
invariant-loop-place l = NoneShown (λ row. not row.closed && visible row.until l.now l.horizon) l.self-inside.lists.opened.items l.places l.place-index
