use Rattle.std.specs.Prelude.{None}
use Rattle.std.proofs.Common.{List, ℕ, refl, ap, subst, ◌∙◌}
use Rattle.std.proofs.lemmas.Result.{err_from_is_err_and}
use Rattle.http_wire.specs.declared.answer.Answer.TheVariants.{Fixed}
use Rattle.http_wire.specs.Views.{request_view}
use Rattle.peer_keys.specs.declared.peers.LogoutPeer.{LogoutPeer}
use Rattle.idp_rules.specs.Verdict.{IsRefused}
use Rattle.verdict_codes.specs.Codes.{number_of}
use Rattle.verdict_codes.specs.declared.codes.Verdict.{Verdict}
use Rattle.provider_node.proofs.Judged.{judged_for}
use Rattle.identity_hub.specs.declared.config.HubConfig.{HubConfig}
use Rattle.identity_hub.specs.Config.{sign_on}
use Rattle.identity_hub.specs.Step.{Answers, ByRefusal}
use Rattle.identity_hub.proofs.role.HubRole.reply_sign_on.Goals as goal

pub returns-in_err-asked : goal.returns-in_err-asked
returns-in_err-asked c =
    let p = err_from_is_err_and c.from_residual-in_err-asked.result c.from_residual-in_err-asked.ensures.1 in
    let peers = c.as_slice-peers.result.now in
    let address = c.as_str.result.now in
    let request = request_view c.args.request.now in
    let own : (verdict : Verdict) → IsRefused peers address request.body verdict
    → IsRefused c.args.self.now.peers (sign_on c.args.self.now) request.body verdict =
    λ verdict refused.
    subst (λ (ps : List LogoutPeer). IsRefused ps (sign_on c.args.self.now) request.body verdict)
    (c.as_slice-peers.ensures ∙ ap (λ (s : HubConfig). s.peers) c.self.view_is)
    (subst (λ (a : List ℕ). IsRefused peers a request.body verdict) (c.as_str.ensures ∙ c.in_ok-address.ensures)
    refused) in
    rw (p.1, p.2)
    (judged_for (IsRefused peers address request.body)
    (λ verdict. Answers c.args.self.now c.args.ledger.now.held request c.args.now (Fixed (number_of verdict)) None)
    c.in_err-asked.field-0.0 (λ verdict is. ByRefusal verdict c.requires.route (own verdict is) refl refl)
    c.in_err-asked.ensures.refused)
