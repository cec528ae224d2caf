use Rattle.std.specs.Prelude.{Some, not, slice_get}
use Rattle.std.proofs.Common.{◌≡◌, refl, subst, ap}
use Rattle.http_wire.specs.Views.{request_view}
use Rattle.idp_rules.specs.Config.{IsUsable}
use Rattle.idp_rules.specs.declared.config.IdpConfig.{IdpConfig}
use Rattle.idp_server.proofs.Telling.{tells_by}
use Rattle.idp_server.proofs.role.IdpRole.reply_to_response.Goals as goal

pub returns-in-Some : goal.returns-in-Some
returns-in-Some c =
    let usable = subst IsUsable c.self.view_is c.self.invariant in
    let by = rw c.in-Some.is at c.in_ok-reply.ensures in
    tells_by c.args.self.now c.args.ledger.now.held (request_view c.args.request.now) c.args.now c.args.response
    c.at.result.now _ _ _ c.in-Some.reply c.requires.route
    (record {
      place = c.args.peer;
      there =
          subst (λ (s : IdpConfig). slice_get s.peers c.args.peer ≡ Some c.at.result.now) c.self.view_is c.at.ensures;
      obeyed = c.requires.obeyed;
    }) refl refl (ap not c.is_in_part-partial.ensures) usable.peers
    (c.each_moment_is_told.ensures.assertion c.args.now c.args.now c.requires.moment c.requires.moment) by
