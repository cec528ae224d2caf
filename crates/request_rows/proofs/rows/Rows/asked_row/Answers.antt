use Rattle.std.proofs.Common.{◌∙◌, map, sym, ap, subst}
use Rattle.request_rows.specs.Rows.{visible, asked_row}
use Rattle.ledger_rules.specs.Order.{one_text}
use Rattle.request_rows.specs.Indexed.{ArePlacesOf}
use Rattle.request_rows.proofs.Finding.{is_found, is_nowhere, none_more, asked_tests}
use Rattle.request_rows.proofs.rows.Rows.asked_row.Goals as goal

pub returns-then-is_visible : goal.returns-then-is_visible
returns-then-is_visible c =
    let rows = c.self.inside.lists.asked.items in
    let request = c.args.request.now in
    let places = subst (λ key. ArePlacesOf (map (λ row. one_text row.request) rows) key c.places_of-places.result.now) c.one.ensures c.places_of-places.ensures in
    let found = is_found (λ row. one_text row.request) (one_text request) _ _ (asked_tests request c.args.now c.args.horizon) rows
    c.places_of-places.result.now places c.loop-place.place-index c.loop-place.invariant c.loop-place-test.true c.index-row.result.now c.index-row.ensures
    (sym c.is_visible.ensures ∙ c.if-is_visible.true) in
    sym found ∙ ap (λ v. asked_row v.asked request c.args.now c.args.horizon) c.self.view_is

pub loop-place-preserved : goal.loop-place-preserved
loop-place-preserved c =
    none_more (λ row. one_text row.request) _ (λ row. visible row.until c.args.now c.args.horizon) c.self.inside.lists.asked.items c.places_of-places.result.now c.places_of-places.ensures
    c.loop-place.place-index c.loop-place.invariant c.loop-place-test.true c.index-row.result.now c.index-row.ensures
    (sym c.is_visible.ensures ∙ c.if-is_visible.false)

pub returns : goal.returns
returns c =
    let rows = c.self.inside.lists.asked.items in
    let request = c.args.request.now in
    let places = subst (λ key. ArePlacesOf (map (λ row. one_text row.request) rows) key c.places_of-places.result.now) c.one.ensures c.places_of-places.ensures in
    let nowhere = is_nowhere (λ row. one_text row.request) (one_text request) _ _ (asked_tests request c.args.now c.args.horizon) rows
    c.places_of-places.result.now places c.loop-place.place-index c.loop-place.invariant c.loop-place-test.false in
    sym nowhere ∙ ap (λ v. asked_row v.asked request c.args.now c.args.horizon) c.self.view_is
