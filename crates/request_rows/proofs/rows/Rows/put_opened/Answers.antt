use Rattle.std.proofs.Common.{◌∙◌, ◌++◌, ◌∷◌, [], ap, min, arith}
use Rattle.ledger_rules.specs.Order.{KeyTexts, one_text}
use Rattle.request_rows.specs.Indexed.{room}
use Rattle.request_rows.specs.declared.row.OpenedRow.{OpenedRow}
use Rattle.request_rows.proofs.Adding.{added}
use Rattle.request_rows.proofs.rows.Rows.put_opened.Goals as goal

-- the key of a row by its assertion
abbrev assertion_of : OpenedRow → KeyTexts
assertion_of row = record { first = row.issuer; second = row.assertion }

pub invariant_of-self : goal.invariant_of-self
invariant_of-self c =
    let rows = c.self.inside.lists.opened.items in
    let place = c.len-place.result in (
      c.self.invariant.0,
      added (λ row. one_text row.request) rows c.put_last.new.list.items c.args.row _ c.self.inside.opened_request.places.items
          c.put.new.self.places.items c.rank-by_request.result place c.self.invariant.1 c.rank-by_request.ensures
          (c.one.ensures ∙ ap one_text c.as_str.ensures) (omega arith) c.put_last.ensures.items c.put.ensures.places,
      added assertion_of rows c.put_last.new.list.items c.args.row _ c.self.inside.opened_assertion.places.items
          c.put-2.new.self.places.items c.rank-by_assertion.result place c.self.invariant.2 c.rank-by_assertion.ensures
          (λ i. record { first = c.as_str-2.ensures i; second = c.as_str-3.ensures i }) (omega arith) c.put_last.ensures.items c.put-2.ensures.places,
      added (λ row. one_text row.token) rows c.put_last.new.list.items c.args.row _ c.self.inside.opened_token.places.items
          c.put-3.new.self.places.items c.rank-by_token.result place c.self.invariant.3 c.rank-by_token.ensures
          (c.one-2.ensures ∙ ap one_text c.as_str-4.ensures) (omega arith) c.put_last.ensures.items c.put-3.ensures.places,
    )

pub returns : goal.returns
returns c =
    let opened = c.put_last.ensures.items ∙ ap (λ v. v.opened ++ c.args.row ∷ []) c.self.view_is in
    let before = ap (λ v. v.spare.opened) c.self.view_is in
    record {
      rows = λ i. record {
        asked = (c.self.view_is i).asked;
        opened = opened i;
        left = (c.self.view_is i).left;
        spare = record {
          asked = (c.self.view_is i).spare.asked;
          opened = min (min (room c.put_last.new.list) (room c.put.new.self.places)) (min (room c.put-2.new.self.places) (room c.put-3.new.self.places));
          left = (c.self.view_is i).spare.left;
        };
      };
      room =
          let push = c.put_last.ensures.room in
          let one = c.put.ensures.room in
          let two = c.put-2.ensures.room in
          let three = c.put-3.ensures.room in
          omega (arith, before, push, one, two, three);
    }
