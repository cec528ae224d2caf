use Rattle.std.proofs.Common.{◌≡◌, ◌+◌, ◌<◌, true, false, not, [], ◌∷◌, ◌++◌, length, set, sym, ap, ◌∙◌, subst, arith}
use Rattle.std.specs.List.{list_any}
use Rattle.std.specs.Str.{bytes_eq}
use Rattle.std.proofs.lemmas.Bool.{and_parts, false≢true}
use Rattle.ledger_records.specs.declared.hub_record.HubRecord.TheVariants as kinds
use Rattle.record_ledger.proofs.Numbers.{all_fresh}
use Rattle.request_rows.specs.declared.row.AskedRow.{AskedRow}
use Rattle.request_rows.specs.Kept.{KeptView}
use Rattle.request_rows.specs.Rows.{is_spent}
use Rattle.hub_ledger.specs.RowsOf.{HubRows, opened_row}
use Rattle.hub_ledger.specs.Record.{drawn, is_next, is_routed}
use Rattle.hub_ledger.specs.Standing.{StandingView, IsAskedAt, rows_with}
use Rattle.hub_ledger.proofs.AsSp.{routed_asked}
use Rattle.hub_ledger.proofs.Words.{next_parts}
use Rattle.hub_ledger.proofs.Places.{AreKept, backed_kept}
use Rattle.hub_ledger.proofs.standing.HubStanding.put_backed.Goals as goal

pub unreachable-requires : goal.unreachable-requires
unreachable-requires c =
    let now = c.args.self.now in
    let r = c.args.r in
    let free = (next_parts now.rows now.next (kinds.Backed r) c.requires.is).free in
    let routed = (and_parts (is_routed now.rows.asked now.rows.below r) (not (is_spent now.rows.opened r.request)) free).0 in
    let none = subst (λ t. list_any (λ (row : AskedRow). bytes_eq row.request t) now.rows.asked ≡ false) c.as_str.ensures c.in_default.ensures.none in
    false≢true (sym none ∙ routed_asked now.rows.asked now.rows.below r routed)

pub overflow_add-self : goal.overflow_add-self
overflow_add-self c =
    let now = c.args.self.now in
    let r = c.args.r in
    let fresh = all_fresh now.next (drawn (kinds.Backed r)) (next_parts now.rows now.next (kinds.Backed r) c.requires.is).fresh in
    omega (arith, fresh.1.1.0.small)

pub invariant_of-self : goal.invariant_of-self
invariant_of-self c =
    let r = c.args.r in
    let inside = c.self.inside in
    let place = c.in-Some.place in
    let rows : HubRows = rows_with inside.rows.rows inside.below.items in
    let is : is_next rows inside.next (kinds.Backed r) ≡ true =
    subst (λ (v : StandingView). is_next v.rows v.next (kinds.Backed r) ≡ true) (sym c.self.view_is) c.requires.is in
    let few : length rows.opened < 4294967295 = subst (λ (v : StandingView). length v.rows.opened < 4294967295) (sym c.self.view_is) c.requires.few.opened in
    let at : IsAskedAt rows.asked r.request place =
    subst (λ (v : StandingView). IsAskedAt v.rows.asked r.request place) (sym c.self.view_is)
    (subst (λ t. IsAskedAt c.args.self.now.rows.asked t place) c.as_str.ensures c.in-Some.ensures.some) in
    let kept = backed_kept inside.next inside.numbers.listed inside.spent.items rows c.self.invariant r is few place at in
    let after : HubRows = record rows { opened = rows.opened ++ opened_row r ∷ [] } in
    let now : after ≡ rows_with c.put_opened.new.self.rows inside.below.items =
    (λ i. record after { opened = rows.opened ++ record (opened_row r) { token = sym c.new.ensures i; key = sym c.number.ensures i } ∷ [] })
    ∙ (λ i. rows_with (sym c.put_opened.ensures.rows i).rows inside.below.items) in
    subst (AreKept (r.first + 3) inside.numbers.listed (set inside.spent.items place true)) now kept

pub returns : goal.returns
returns c =
    let r = c.args.r in
    let inside = c.self.inside in
    let view = c.args.self.now in
    let rows : HubRows = rows_with inside.rows.rows inside.below.items in
    let after : HubRows = record rows { opened = rows.opened ++ opened_row r ∷ [] } in
    let now : after ≡ rows_with c.put_opened.new.self.rows inside.below.items =
    (λ i. record after { opened = rows.opened ++ record (opened_row r) { token = sym c.new.ensures i; key = sym c.number.ensures i } ∷ [] })
    ∙ (λ i. rows_with (sym c.put_opened.ensures.rows i).rows inside.below.items) in
    let fresh = all_fresh view.next (drawn (kinds.Backed r)) (next_parts view.rows view.next (kinds.Backed r) c.requires.is).fresh in
    record {
      rows = sym now ∙ ap (λ (v : StandingView). record (v.rows) { opened = v.rows.opened ++ opened_row r ∷ [] }) c.self.view_is;
      indexed = ap (λ (k : KeptView). k.is_indexed) c.put_opened.ensures.rows ∙ ap (λ (v : StandingView). v.is_indexed) c.self.view_is;
      next = omega (arith, fresh.0.greater);
    }
