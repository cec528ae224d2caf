use Rattle.std.proofs.Common.{◌∙◌, ◌++◌, ◌∷◌, [], ap, min, arith}
use Rattle.ledger_rules.specs.Order.{one_text}
use Rattle.request_rows.specs.Indexed.{room}
use Rattle.request_rows.proofs.Adding.{added}
use Rattle.request_rows.proofs.rows.Rows.put_asked.Goals as goal

pub invariant_of-self : goal.invariant_of-self
invariant_of-self c = (
  added (λ row. one_text row.request) c.self.inside.lists.asked.items c.put_last.new.list.items c.args.row _ c.self.inside.asked_request.places.items
      c.put.new.self.places.items c.rank-by_request.result c.len-place.result c.self.invariant.0 c.rank-by_request.ensures
      (c.one.ensures ∙ ap one_text c.as_str.ensures) (omega arith) c.put_last.ensures.items c.put.ensures.places,
  c.self.invariant.1,
  c.self.invariant.2,
  c.self.invariant.3,
)

pub returns : goal.returns
returns c =
    let asked = c.put_last.ensures.items ∙ ap (λ v. v.asked ++ c.args.row ∷ []) c.self.view_is in
    let before = ap (λ v. v.spare.asked) c.self.view_is in
    record {
      rows = λ i. record {
        asked = asked i;
        opened = (c.self.view_is i).opened;
        left = (c.self.view_is i).left;
        spare = record {
          asked = min (room c.put_last.new.list) (room c.put.new.self.places);
          opened = (c.self.view_is i).spare.opened;
          left = (c.self.view_is i).spare.left;
        };
      };
      room = let push = c.put_last.ensures.room in let put = c.put.ensures.room in omega (arith, before, push, put);
    }
