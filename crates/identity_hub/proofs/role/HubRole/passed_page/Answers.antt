use Rattle.std.specs.Prelude.{IfOk}
use Rattle.std.proofs.Common.{◌≡◌, List, ℕ, sym, subst, ap, ◌∙◌}
use Rattle.idp_answers.specs.Stating.{Stated, stated_login}
use Rattle.identity_hub.specs.declared.config.HubConfig.{HubConfig}
use Rattle.identity_hub.specs.Logins.{login_of}
use Rattle.identity_hub.specs.Replies.{HasLogin, IsPassedPage}
use Rattle.identity_hub.proofs.Forms.{page_of}
use Rattle.identity_hub.proofs.role.HubRole.passed_page.Goals as goal

pub returns : goal.returns
returns c =
    let config = c.self.inside.config in
    let setup_is : config ≡ c.args.self.now = c.self.view_is in
    let backed = c.backed-passed.result.now in
    subst (λ (s : HubConfig). IfOk c.issued_answer.result (IsPassedPage s c.args.peer c.args.entry.now c.args.now))
    setup_is
    (page_of config c.args.peer c.args.entry.now c.at.result.now backed c.as_slice.result.now c.in_ok-login.login
    c.as_str-2.result.now c.as_str-3.result.now _ c.args.now c.issued_answer.result
    (subst (λ (s : HubConfig). HasLogin s c.args.peer c.args.entry.now) (sym setup_is) c.requires.shown)
    c.backed-passed.ensures c.at.ensures
    (record {
      key_is = c.as_slice.ensures;
      login_is =
          c.in_ok-login.ensures.is
          ∙ ap (λ (s : Stated). stated_login c.as_str.result.now s) c.statement_of-statement.ensures
          ∙ ap (λ (e : List ℕ). login_of e backed) c.as_str.ensures;
      message_is = c.as_str-2.ensures;
      consumer_is = c.as_str-3.ensures;
      relay_is = c.chars_if_any.ensures;
    }) c.issued_answer.ensures)
