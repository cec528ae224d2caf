use Rattle.idp_server.proofs.Roles.{idp_laws}
use Rattle.idp_server.proofs.replying.IdpRoleRole.laws_hold.Goals as goal

pub returns : goal.returns
returns c =
    idp_laws c.each_login_has_an_answer.ensures.issued c.each_login_has_an_answer.ensures.refused c.args.self.now
    c.args.now c.requires c.has_usable_config.ensures c.compactions_change_no_answer.ensures
