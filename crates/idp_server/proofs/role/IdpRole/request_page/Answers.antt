use Rattle.std.specs.Prelude.{IfOk}
use Rattle.std.proofs.Common.{◌≡◌, sym, subst}
use Rattle.idp_rules.specs.declared.config.IdpConfig.{IdpConfig}
use Rattle.idp_server.specs.Messages.{IsRequestTo}
use Rattle.idp_server.proofs.Shown.{request_page_of}
use Rattle.idp_server.proofs.role.IdpRole.request_page.Goals as goal

pub returns : goal.returns
returns c =
    let config = c.self.inside.config in
    let setup_is : config ≡ c.args.self.now = c.self.view_is in
    let turn = c.args.turn.now in
    subst (λ (s : IdpConfig). IfOk c.leaving_answer.result
    (λ bytes. IsRequestTo s turn.peer c.args.id.now turn.name turn.indexes c.args.now bytes)) setup_is
    (request_page_of config turn c.args.id.now c.args.now c.in-Some.place c.at.result.now c.as_str.result.now
    c.as_str-2.result.now c.as_str-3.result.now c.leaving_answer.result
    c.as_str.ensures c.as_str-2.ensures c.as_str-3.ensures (sym c.in-Some.ensures.place) c.at.ensures
    c.leaving_answer.ensures)
