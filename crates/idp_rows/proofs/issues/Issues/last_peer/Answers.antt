use Rattle.std.proofs.Common.{◌≡◌, ◌∙◌, get_or, ap, sym}
use Rattle.std.proofs.lemmas.Option.{get_or_from_slice_get}
use Rattle.idp_rows.specs.declared.row.IssuedRow.{IssuedRow}
use Rattle.idp_rows.proofs.IssueLaws.{is_last, last_peer_at}
use Rattle.idp_rows.proofs.issues.Issues.last_peer.Goals as goal

pub returns : goal.returns
returns c cookie is =
    let row = c.index.result.now in
    let rows = c.args.self.now.rows in
    let at = is_last rows cookie c.args.last is in
    let read = c.index.ensures ∙ ap (λ v. get_or v.rows c.args.last row) c.self.view_is in
    let same : at.row ≡ row = sym (get_or_from_slice_get rows c.args.last at.row row at.there) ∙ sym read in
    c.as_str.ensures ∙ ap (λ (r : IssuedRow). r.peer) (sym same) ∙ last_peer_at rows cookie c.args.last at.row is at.there
