use Rattle.std.proofs.Common.{◌∙◌, ◌<◌, ap, length, arith}
use Rattle.request_rows.specs.Rows.{confirmed_at}
use Rattle.request_rows.proofs.Changing.{confirmed_is}
use Rattle.request_rows.proofs.rows.Rows.confirm.Goals as goal

pub returns : goal.returns
returns c =
    let size = ap (λ v. length v.left) c.self.view_is in
    let within : c.args.place < length c.self.inside.left.items = omega (arith, size, c.requires) in
    let left = confirmed_is c.self.inside.left.items c.args.place c.index_mut.result.now within c.index_mut.ensures.value
    ∙ ap (λ v. confirmed_at v.left c.args.place) c.self.view_is in
    λ i. record {
      asked = (c.self.view_is i).asked;
      opened = (c.self.view_is i).opened;
      left = left i;
      spare = (c.self.view_is i).spare;
    }
