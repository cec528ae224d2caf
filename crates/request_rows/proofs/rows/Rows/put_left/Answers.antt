use Rattle.std.proofs.Common.{◌∙◌, ◌++◌, ◌∷◌, [], ap, arith}
use Rattle.request_rows.specs.Indexed.{room}
use Rattle.request_rows.proofs.rows.Rows.put_left.Goals as goal

pub returns : goal.returns
returns c =
    let left = c.put_last.ensures.items ∙ ap (λ v. v.left ++ c.args.row ∷ []) c.self.view_is in
    let before = ap (λ v. v.spare.left) c.self.view_is in
    record {
      rows = λ i. record {
        asked = (c.self.view_is i).asked;
        opened = (c.self.view_is i).opened;
        left = left i;
        spare = record {
          asked = (c.self.view_is i).spare.asked;
          opened = (c.self.view_is i).spare.opened;
          left = room c.put_last.new.list;
        };
      };
      room = let push = c.put_last.ensures.room in omega (arith, before, push);
    }
