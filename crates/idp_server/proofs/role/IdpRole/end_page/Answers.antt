use Rattle.std.specs.Prelude.{IfOk}
use Rattle.std.proofs.Common.{◌≡◌, sym, subst}
use Rattle.idp_rules.specs.declared.config.IdpConfig.{IdpConfig}
use Rattle.idp_server.specs.Messages.{IsRoundEnd}
use Rattle.idp_server.proofs.Shown.{end_page_of}
use Rattle.idp_server.proofs.role.IdpRole.end_page.Goals as goal

pub returns : goal.returns
returns c =
    let config = c.self.inside.config in
    let setup_is : config ≡ c.args.self.now = c.self.view_is in
    subst (λ (s : IdpConfig). IfOk c.ending_answer.result
    (λ bytes. IsRoundEnd s c.args.message.now c.args.asker.now c.args.partial c.args.now bytes)) setup_is
    (end_page_of config c.args.message.now c.args.asker.now c.in-Some.asker c.args.partial c.args.now
    c.in-Some-place_of.place c.at.result.now c.as_str.result.now c.as_str-2.result.now
    c.as_str-3.result.now c.as_str-4.result.now _ c.ending_answer.result c.in-Some.is c.as_str.ensures
    c.as_str-2.ensures c.as_str-3.ensures c.as_str-4.ensures c.chars_if_any.ensures
    (sym c.in-Some-place_of.ensures.place) c.at.ensures c.ending_answer.ensures)
