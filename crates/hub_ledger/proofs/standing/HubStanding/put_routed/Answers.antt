use Rattle.std.proofs.Common.{◌≡◌, ℕ, ◌+◌, ◌<◌, Bool, true, false, List, [], ◌∷◌, ◌++◌, length, sym, ◌∙◌, subst}
use Rattle.ledger_records.specs.declared.hub_record.HubRecord.TheVariants as kinds
use Rattle.hub_ledger.specs.RowsOf.{HubRows, asked_row, below_row}
use Rattle.hub_ledger.specs.Record.{is_next}
use Rattle.hub_ledger.specs.Standing.{StandingView, rows_with}
use Rattle.hub_ledger.proofs.Places.{AreKept, routed_kept}
use Rattle.hub_ledger.proofs.standing.HubStanding.put_routed.Goals as goal

pub invariant_of-self : goal.invariant_of-self
invariant_of-self c =
    let r = c.args.r in
    let inside = c.self.inside in
    let rows : HubRows = rows_with inside.rows.rows inside.below.items in
    let is : is_next rows inside.next (kinds.Routed r) ≡ true =
    subst (λ (v : StandingView). is_next v.rows v.next (kinds.Routed r) ≡ true) (sym c.self.view_is) c.requires.is in
    let few : length rows.asked < 4294967295 = subst (λ (v : StandingView). length v.rows.asked < 4294967295) (sym c.self.view_is) c.requires.few.asked in
    let kept = routed_kept inside.next inside.numbers.listed inside.spent.items rows c.self.invariant r is few in
    let after : HubRows = record rows { asked = rows.asked ++ asked_row r ∷ []; below = rows.below ++ below_row r ∷ [] } in
    let now : after ≡ rows_with c.put_asked.new.self.rows c.put_last.new.values.items =
    (λ i. record after { asked = rows.asked ++ record (asked_row r) { target = sym c.new.ensures i } ∷ [] })
    ∙ (λ i. rows_with (sym c.put_asked.ensures.rows i).rows (sym c.put_last.ensures.items i)) in
    subst (AreKept (r.first + 2) c.put.new.self.listed c.put_last-2.new.values.items) now
    (subst (λ (spent : List Bool). AreKept (r.first + 2) c.put.new.self.listed spent after) (sym c.put_last-2.ensures.items)
    (subst (λ (numbers : List ℕ). AreKept (r.first + 2) numbers (inside.spent.items ++ false ∷ []) after) (sym c.put.ensures.listed) kept))
