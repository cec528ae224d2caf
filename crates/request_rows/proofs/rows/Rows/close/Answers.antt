use Rattle.std.proofs.Common.{◌∙◌, ◌<◌, true, ap, refl, length, arith}
use Rattle.request_rows.specs.Rows.{closed_at}
use Rattle.ledger_rules.specs.Order.{KeyTexts, one_text}
use Rattle.request_rows.specs.declared.row.OpenedRow.{OpenedRow}
use Rattle.request_rows.proofs.Changing.{order_stays, closed_is}
use Rattle.request_rows.proofs.rows.Rows.close.Goals as goal

-- the key of a row by its assertion
abbrev assertion_of : OpenedRow → KeyTexts
assertion_of row = record { first = row.issuer; second = row.assertion }

pub invariant_of-self : goal.invariant_of-self
invariant_of-self c =
    let rows = c.self.inside.lists.opened.items in
    let row = c.index_mut.result.now in (
      c.self.invariant.0,
      order_stays (λ r. one_text r.request) rows c.self.inside.opened_request.places.items c.args.place row (record row { closed = true }) c.self.invariant.1
          c.index_mut.ensures.value refl,
      order_stays assertion_of rows c.self.inside.opened_assertion.places.items c.args.place row (record row { closed = true }) c.self.invariant.2
          c.index_mut.ensures.value refl,
      order_stays (λ r. one_text r.token) rows c.self.inside.opened_token.places.items c.args.place row (record row { closed = true }) c.self.invariant.3
          c.index_mut.ensures.value refl,
    )

pub returns : goal.returns
returns c =
    let size = ap (λ v. length v.opened) c.self.view_is in
    let within : c.args.place < length c.self.inside.lists.opened.items = omega (arith, size, c.requires) in
    let opened = closed_is c.self.inside.lists.opened.items c.args.place c.index_mut.result.now within c.index_mut.ensures.value
    ∙ ap (λ v. closed_at v.opened c.args.place) c.self.view_is in
    λ i. record {
      asked = (c.self.view_is i).asked;
      opened = opened i;
      left = (c.self.view_is i).left;
      spare = (c.self.view_is i).spare;
    }
