use Rattle.std.specs.Prelude.{IfOk}
use Rattle.std.specs.Option.{option_map}
use Rattle.std.proofs.Common.{◌≡◌, Bor, List, ℕ, sym, subst, ap, ◌∙◌}
use Rattle.http_wire.specs.declared.answer.Answer.TheVariants.{Full}
use Rattle.idp_rules.specs.declared.config.IdpConfig.{IdpConfig}
use Rattle.idp_answers.specs.Stating.{Stated, stated_login}
use Rattle.idp_server.specs.Logins.{login_of}
use Rattle.idp_server.specs.Replies.{HasAssertion, IsAssertionPage}
use Rattle.idp_server.proofs.Shown.{page_of}
use Rattle.idp_server.proofs.role.IdpRole.assertion_page.Goals as goal

pub returns : goal.returns
returns c =
    let config = c.self.inside.config in
    let setup_is : config ≡ c.args.self.now = c.self.view_is in
    let issued = c.issued-issued.result.now in
    let cookie = option_map (λ (text : Bor (List ℕ)). text.now) c.args.cookie in
    subst (λ (s : IdpConfig). IfOk c.issued_answer.result
    (λ bytes. IsAssertionPage s c.args.peer cookie c.args.entry.now c.args.now (Full bytes))) setup_is
    (page_of config c.args.peer c.args.entry.now c.at.result.now issued c.as_slice.result.now c.in_ok-login.login
    c.as_str-2.result.now c.as_str-3.result.now
    _ cookie c.args.now c.issued_answer.result
    (subst (λ (s : IdpConfig). HasAssertion s c.args.peer c.args.entry.now) (sym setup_is) c.requires.shown)
    c.issued-issued.ensures c.at.ensures
    (record {
      key_is = c.as_slice.ensures;
      login_is =
          c.in_ok-login.ensures.is
          ∙ ap (λ (s : Stated). stated_login c.as_str.result.now s) c.statement_of-statement.ensures
          ∙ ap (λ (e : List ℕ). login_of e issued) c.as_str.ensures;
      message_is = c.as_str-2.ensures;
      consumer_is = c.as_str-3.ensures;
      relay_is = c.chars_if_any.ensures;
    }) c.issued_answer.ensures)
