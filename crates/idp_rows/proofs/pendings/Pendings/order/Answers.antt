use Rattle.std.proofs.Common.{ℕ, List, map, ap, subst}
use Rattle.idp_rows.specs.declared.row.PendingRow.{PendingRow}
use Rattle.ledger_rules.specs.Order.{one_text, IsOrder}
use Rattle.idp_rows.proofs.RowOrders.{order_is}
use Rattle.idp_rows.proofs.pendings.Pendings.order.Goals as goal

abbrev key : PendingRow → List ℕ
key row = row.pending

pub returns : goal.returns
returns c =
    subst (λ rows. IsOrder (map (λ row. one_text (key row)) rows) c.as_slice.result.now) (ap (λ v. v.rows) c.self.view_is)
    (order_is key c.self.inside.rows.items c.self.inside.places.count c.as_slice.result.now c.self.invariant.1 c.as_slice.ensures)
