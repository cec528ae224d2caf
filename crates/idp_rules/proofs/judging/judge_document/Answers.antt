use Rattle.std.proofs.Common.{ℕ, List, Option, ◌∙◌, ap, subst}
use Rattle.std.specs.Prelude.{unwrap_or}
use Rattle.fault_verdicts.specs.Judging.{judged_of, IsJudged}
use Rattle.fault_verdicts.specs.Verdicts.{of_signature}
use Rattle.fault_verdicts.specs.declared.judged.Judged.{Judged}
use Rattle.fault_verdicts.specs.declared.judged.Judged.TheVariants as judgements
use Rattle.peer_keys.specs.declared.peers.LogoutPeer.{LogoutPeer}
use Rattle.idp_rules.specs.Asking.{Posts, IsAuthentic}
use Rattle.idp_rules.specs.Verdict.{IsRefused}
use Rattle.idp_rules.specs.Views.{IsForged}
use Rattle.idp_rules.proofs.Deciding.{handed_on, told_signed, peer_there, not_request, not_sent, is_forged, is_asked}
use Rattle.idp_rules.proofs.judging.judge_document.Goals as goal

-- whatever form was posted, its refusal is right
abbrev IsRightFor : List LogoutPeer → List ℕ → List ℕ → Option (List ℕ) → Judged → Type 0
IsRightFor peers address message relay judged =
    (body : List ℕ) → Posts body message relay → IsJudged (IsRefused peers address body) judged

pub returns-in_err-request-clause-refused : goal.returns-in_err-request-clause-refused
returns-in_err-request-clause-refused c =
    handed_on (IsRightFor c.args.peers.now c.args.address.now c.args.doc.now.text c.args.relay) c.from_residual.result c.in_err-request.field-0.0 c.from_residual.ensures.1
    (λ body posted. not_request c.args.peers.now c.args.address.now body c.args.doc.now c.args.relay posted c.root.ensures.spelled c.root.result.0 c.in_err-request.field-0.0 c.root.ensures.number c.in_err-request.ensures.refused)

pub returns-in_err-place-clause-refused : goal.returns-in_err-place-clause-refused
returns-in_err-place-clause-refused c =
    handed_on (IsRightFor c.args.peers.now c.args.address.now c.args.doc.now.text c.args.relay) c.from_residual-in_err-place.result (judgements.Code c.in_err-place.field-0.0) c.from_residual-in_err-place.ensures.1
    (λ body posted. not_sent c.args.peers.now c.args.address.now body c.args.doc.now c.args.relay posted c.root.ensures.spelled c.root.result.0 c.in_ok-request.request c.root.ensures.number c.in_ok-request.ensures.ok c.is_signed-signed.result
    (told_signed c.args.doc.now.tree c.root.result.0 c.is_signed-signed.result c.root.ensures.number c.is_signed-signed.ensures) c.in_err-place.field-0.0 c.in_err-place.ensures.refused)

pub returns-in_err-authenticate-clause-refused : goal.returns-in_err-authenticate-clause-refused
returns-in_err-authenticate-clause-refused c =
    let sender = c.in_ok-place.ensures.ok in
    handed_on (IsRightFor c.args.peers.now c.args.address.now c.args.doc.now.text c.args.relay) c.from_residual-in_err-authenticate.result
    (judged_of (of_signature c.in_err-authenticate.field-0.0)) c.from_residual-in_err-authenticate.ensures.1
    (λ body posted. is_forged c.args.peers.now c.args.address.now body c.args.doc.now c.args.relay posted c.root.ensures.spelled c.root.result.0 c.in_ok-request.request
    c.root.ensures.number c.in_ok-request.ensures.ok c.is_signed-signed.result
    (told_signed c.args.doc.now.tree c.root.result.0 c.is_signed-signed.result c.root.ensures.number c.is_signed-signed.ensures) c.in_ok-place.place sender
    c.in_err-authenticate.field-0.0
    (subst (λ (peer : LogoutPeer). IsForged peer c.args.doc.now.tree c.in_err-authenticate.field-0.0)
    (peer_there c.args.peers.now c.in_ok-place.place sender.peer c.index-peers-place.result sender.peer_is c.index-peers-place.is)
    c.in_err-authenticate.ensures.refused))

pub returns-in_err-consumer-clause-refused : goal.returns-in_err-consumer-clause-refused
returns-in_err-consumer-clause-refused c =
    handed_on (IsRightFor c.args.peers.now c.args.address.now c.args.doc.now.text c.args.relay) c.from_residual-in_err-consumer.result judgements.NoMemory c.from_residual-in_err-consumer.ensures.1
    (λ body posted. tt)

pub returns-clause-accepted : goal.returns-clause-accepted
returns-clause-accepted c = λ body posted.
    let sender = c.in_ok-place.ensures.ok in
    let here = peer_there c.args.peers.now c.in_ok-place.place sender.peer c.index-peers-place.result sender.peer_is c.index-peers-place.is in
    let there = peer_there c.args.peers.now c.in_ok-place.place sender.peer c.index-peers-place-2.result sender.peer_is c.index-peers-place-2.is in
    is_asked c.args.peers.now c.args.address.now body c.args.doc.now c.args.relay posted c.root.ensures.spelled c.root.result.0 c.in_ok-request.request
    c.root.ensures.number c.in_ok-request.ensures.ok c.is_signed-signed.result
    (told_signed c.args.doc.now.tree c.root.result.0 c.is_signed-signed.result c.root.ensures.number c.is_signed-signed.ensures) c.in_ok-place.place sender
    _ (subst (λ (peer : LogoutPeer). IsAuthentic peer c.args.doc.now.tree) here c.in_ok-authenticate.ensures.ok)
    (λ i. record {
      peer = c.in_ok-place.place;
      request = c.in_ok-request.request.id;
      consumer = (c.in_ok-consumer.ensures ∙ ap (λ (peer : LogoutPeer). unwrap_or c.in_ok-request.request.consumer peer.peer.service) there) i;
      relay = c.args.relay;
      force = c.in_ok-request.request.force;
      passive = c.in_ok-request.request.passive;
    })
