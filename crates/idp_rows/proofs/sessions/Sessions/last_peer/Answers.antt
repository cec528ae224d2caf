use Rattle.std.proofs.Common.{◌∙◌, ap, sym, subst}
use Rattle.idp_rows.specs.Kept.{IsRowAt}
use Rattle.idp_rows.specs.Finding.{last_peer}
use Rattle.idp_rows.specs.declared.row.SessionRow.{SessionRow}
use Rattle.idp_rows.proofs.IssueLaws.{is_last, last_read}
use Rattle.idp_rows.proofs.sessions.Sessions.last_peer.Goals as goal

pub last_peer-requires : goal.last_peer-requires
last_peer-requires c =
    let id = c.args.cookie.now in
    let at = subst (λ rows. IsRowAt (λ (row : SessionRow). row.cookie) rows id c.in_ok-place.place) (sym (ap (λ v. v.rows) c.self.view_is)) c.in_ok-place.ensures.some in
    let is = last_read c.self.inside.rows.items c.self.inside.last.items c.self.inside.issues.rows c.self.invariant.1 id c.in_ok-place.place at c.index.result.now c.index.ensures in
    (is_last c.self.inside.issues.rows id c.index.result.now is).within

pub returns-clause-some : goal.returns-clause-some
returns-clause-some c =
    let id = c.args.cookie.now in
    let at = subst (λ rows. IsRowAt (λ (row : SessionRow). row.cookie) rows id c.in_ok-place.place) (sym (ap (λ v. v.rows) c.self.view_is)) c.in_ok-place.ensures.some in
    let is = last_read c.self.inside.rows.items c.self.inside.last.items c.self.inside.issues.rows c.self.invariant.1 id c.in_ok-place.place at c.index.result.now c.index.ensures in
    c.last_peer.ensures id is ∙ ap (λ v. last_peer v.issues id) c.self.view_is
