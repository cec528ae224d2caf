use Rattle.std.proofs.Common.{ℕ, ◌<◌, ◌++◌, ◌∷◌, [], List, length, sym, subst, arith}
use Rattle.std.specs.List.{slice_index}
use Rattle.idp_rows.specs.Kept.{HaveNumbers, ComeInOrder, PendingsView, pending_ids}
use Rattle.idp_rows.specs.declared.row.PendingRow.{PendingRow}
use Rattle.idp_rows.proofs.RowPlaces.{have_more}
use Rattle.idp_rows.proofs.RowOrders.{order_more}
use Rattle.idp_rows.proofs.pendings.Pendings.put.Goals as goal

abbrev key : PendingRow → List ℕ
key row = row.pending

pub invariant_of-self : goal.invariant_of-self
invariant_of-self c =
    let rows = c.self.inside.rows.items in
    let numbers = c.self.inside.numbers.listed in
    let more = numbers ++ c.args.number ∷ [] in
    let below = subst (λ (v : PendingsView). (k : ℕ) → k < length v.numbers → slice_index v.numbers k < c.args.number) (sym c.self.view_is) c.requires.below in (
      subst (λ ns. HaveNumbers ns (pending_ids c.push.new.self.items)) (sym c.put.ensures.listed)
          (subst (λ rows. HaveNumbers more (pending_ids rows)) (sym c.in-Ok.ensures.items)
          (have_more key rows numbers c.self.invariant.0 c.args.number c.args.row c.requires.has)),
      subst (λ rows. ComeInOrder (pending_ids rows) c.put_next.new.self.count) (sym c.in-Ok.ensures.items)
          (order_more key rows numbers c.self.inside.places.count c.put_next.new.self.count c.self.invariant.0 c.self.invariant.1 c.args.number c.args.row
          below (omega arith) c.requires.has c.put_next.ensures.count),
    )
