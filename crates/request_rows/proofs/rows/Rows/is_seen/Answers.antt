use Rattle.std.proofs.Common.{◌∙◌, sym, ap}
use Rattle.request_rows.specs.Rows.{visible, is_seen}
use Rattle.ledger_rules.specs.Order.{KeyTexts}
use Rattle.request_rows.specs.declared.row.OpenedRow.{OpenedRow}
use Rattle.request_rows.proofs.Finding.{is_any, is_none, none_more, seen_tests}
use Rattle.request_rows.proofs.rows.Rows.is_seen.Goals as goal

-- the key of a row
abbrev assertion_of : OpenedRow → KeyTexts
assertion_of row = record { first = row.issuer; second = row.assertion }

pub returns-then-is_visible : goal.returns-then-is_visible
returns-then-is_visible c =
    let issuer = c.args.issuer.now in
    let assertion = c.args.assertion.now in
    let found = is_any assertion_of (record { first = issuer; second = assertion }) _ _ (seen_tests issuer assertion c.args.now c.args.horizon)
    c.self.inside.lists.opened.items c.places_of-places.result.now c.places_of-places.ensures c.loop-place.place-index c.loop-place.invariant c.loop-place-test.true
    c.index.result.now c.index.ensures (sym c.is_visible.ensures ∙ c.if-is_visible.true) in
    sym found ∙ ap (λ v. is_seen v.opened issuer assertion c.args.now c.args.horizon) c.self.view_is

pub loop-place-preserved : goal.loop-place-preserved
loop-place-preserved c =
    none_more assertion_of _ (λ row. visible row.assertion_until c.args.now c.args.horizon) c.self.inside.lists.opened.items
    c.places_of-places.result.now c.places_of-places.ensures c.loop-place.place-index c.loop-place.invariant c.loop-place-test.true
    c.index.result.now c.index.ensures (sym c.is_visible.ensures ∙ c.if-is_visible.false)

pub returns : goal.returns
returns c =
    let issuer = c.args.issuer.now in
    let assertion = c.args.assertion.now in
    let none = is_none assertion_of (record { first = issuer; second = assertion }) _ _ (seen_tests issuer assertion c.args.now c.args.horizon)
    c.self.inside.lists.opened.items c.places_of-places.result.now c.places_of-places.ensures c.loop-place.place-index c.loop-place.invariant c.loop-place-test.false in
    sym none ∙ ap (λ v. is_seen v.opened issuer assertion c.args.now c.args.horizon) c.self.view_is
