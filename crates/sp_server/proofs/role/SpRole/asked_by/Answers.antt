use Rattle.std.proofs.Common.{◌≡◌, ℕ, ap, subst, ◌∙◌}
use Rattle.logout_answers.specs.Answers as answers
use Rattle.logout_profile.specs.declared.logout.Logout.{Logout}
use Rattle.logout_profile.specs.declared.logout.Logout.TheVariants as logouts
use Rattle.sp_server.specs.Peer.{idp_at, second_key, logout_address, IsObeyed}
use Rattle.sp_server.specs.Step.{Setup}
use Rattle.sp_server.proofs.Obeying.{obeyed_of}
use Rattle.sp_server.proofs.role.SpRole.asked_by.Goals as goal

pub returns-in-Ask-clause-ok : goal.returns-in-Ask-clause-ok
returns-in-Ask-clause-ok c =
    let config = c.self.inside.config in
    let now = c.args.now in
    let body = c.args.body.now in
    let address : c.as_str-2.result.now ≡ logout_address config =
    c.as_str-2.ensures ∙ c.in_ok-address.ensures ∙ ap answers.logout_address c.as_str.ensures in
    let one : IsObeyed config now body c.in_ok-logout.logout =
    obeyed_of _ (idp_at config now) _ (second_key config now) _ (logout_address config) config.skew now body
    c.in_ok-logout.logout c.in_ok-idp_at.ensures c.second_key-second.ensures address
    c.in_ok-logout.ensures.accepted in
    let asked : IsObeyed config now body (logouts.Ask c.in-Ask.request c.in-Ask.peer c.in-Ask.relay) =
    subst (λ (l : Logout). IsObeyed config now body l) c.in-Ask.is one in
    let place : c.in-Ask.peer ≡ 0 =
    c.what_an_obeyed_form_says.ensures.asks (idp_at config now) _ _ config.skew now body c.in-Ask.request c.in-Ask.peer
    c.in-Ask.relay asked in
    let first =
    subst (λ (k : ℕ). IsObeyed config now body (logouts.Ask c.in-Ask.request k c.in-Ask.relay)) place asked in (
      subst (λ (s : Setup). IsObeyed s.config now body (logouts.Ask c.in-Ask.request 0 c.in-Ask.relay)) c.self.view_is
          first,
      c.what_an_obeyed_form_says.ensures.id _ _ _ _ now body c.in-Ask.request _ _ first,
    )
