use Rattle.std.proofs.Common.{not, ◌&&◌, ◌∙◌, map, sym, ap, subst}
use Rattle.request_rows.specs.Rows.{visible, session_row}
use Rattle.ledger_rules.specs.Order.{one_text}
use Rattle.request_rows.specs.Indexed.{ArePlacesOf}
use Rattle.request_rows.proofs.Finding.{is_found, is_nowhere, none_more, session_tests}
use Rattle.request_rows.proofs.rows.Rows.session_row.Goals as goal

pub returns-then-is_live : goal.returns-then-is_live
returns-then-is_live c =
    let rows = c.self.inside.lists.opened.items in
    let token = c.args.token.now in
    let places = subst (λ key. ArePlacesOf (map (λ row. one_text row.token) rows) key c.places_of-places.result.now) c.one.ensures c.places_of-places.ensures in
    let found = is_found (λ row. one_text row.token) (one_text token) _ _ (session_tests token c.args.now c.args.horizon) rows
    c.places_of-places.result.now places c.loop-place.place-index c.loop-place.invariant c.loop-place-test.true c.index-row.result.now c.index-row.ensures
    (sym c.is_live.ensures ∙ c.if-is_live.true) in
    sym found ∙ ap (λ v. session_row v.opened token c.args.now c.args.horizon) c.self.view_is

pub loop-place-preserved : goal.loop-place-preserved
loop-place-preserved c =
    none_more (λ row. one_text row.token) _ (λ row. not row.closed && visible row.until c.args.now c.args.horizon) c.self.inside.lists.opened.items c.places_of-places.result.now c.places_of-places.ensures
    c.loop-place.place-index c.loop-place.invariant c.loop-place-test.true c.index-row.result.now c.index-row.ensures
    (sym c.is_live.ensures ∙ c.if-is_live.false)

pub returns : goal.returns
returns c =
    let rows = c.self.inside.lists.opened.items in
    let token = c.args.token.now in
    let places = subst (λ key. ArePlacesOf (map (λ row. one_text row.token) rows) key c.places_of-places.result.now) c.one.ensures c.places_of-places.ensures in
    let nowhere = is_nowhere (λ row. one_text row.token) (one_text token) _ _ (session_tests token c.args.now c.args.horizon) rows
    c.places_of-places.result.now places c.loop-place.place-index c.loop-place.invariant c.loop-place-test.false in
    sym nowhere ∙ ap (λ v. session_row v.opened token c.args.now c.args.horizon) c.self.view_is
