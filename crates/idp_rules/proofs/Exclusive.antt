-- A form has one verdict.
use Rattle.std.proofs.Common.{◌≡◌, ℕ, Bool, true, false, List, Option, None, Some, Result, Ok, inl, inr, sym, ◌∙◌, ap, subst}
use Rattle.std.specs.Prelude.{slice_get}
use Rattle.xml_spec.specs.Tree.{Nodes}
use Rattle.xml_spec.proofs.Documents.{one_tree}
use Rattle.saml_tree.specs.Documents.{IsSpelled}
use Rattle.saml_tree.specs.Documents as documents
use Rattle.saml_tree.specs.declared.node.TreeFault.{TreeFault}
use Rattle.post_binding.specs.Form.{form}
use Rattle.post_binding.specs.declared.posted.Field.TheVariants.{Request}
use Rattle.protocol_messages.specs.Messages.{IsAuthnRequest}
use Rattle.protocol_messages.specs.declared.authn.AuthnRequest.{AuthnRequest}
use Rattle.protocol_messages.proofs.OneMessage.{one_authn}
use Rattle.sig_reference.specs.Signature.{IsUnvouched}
use Rattle.sig_reference.specs.declared.fault.SigFault.{SigFault}
use Rattle.verdict_codes.specs.declared.codes.Verdict.{Verdict}
use Rattle.verdict_codes.specs.declared.codes.Verdict.TheVariants as verdicts
use Rattle.fault_verdicts.specs.Verdicts.{of_document, of_signature}
use Rattle.peer_keys.specs.Peers.{place_of}
use Rattle.peer_keys.specs.declared.peers.LogoutPeer.{LogoutPeer}
use Rattle.idp_rules.specs.declared.asked.Asked.{Asked}
use Rattle.idp_rules.specs.Asking.{Carried, Carries, Posts, is_signed, is_destination, is_wanted_at, IsAuthentic, asked_of, IsAsked}
use Rattle.idp_rules.specs.Verdict.{form_refusal, IsRefused, by_form, by_document, by_root, by_issuer, by_destination, by_consumer, by_signature}
use Rattle.fault_verdicts.proofs.Faults.{spelled_not_refused, one_refusal, vouched_not_unvouched, one_fault}
use Rattle.fault_verdicts.proofs.Stages.{IsOne, Staged, staged_one, staged_none}

some_one : {X : Type 0} (o : Option X) (x y : X) → o ≡ Some x → o ≡ Some y → x ≡ y
some_one o x y e h = let both : Some x ≡ Some y = sym e ∙ h in cc

ok_one : {X E : Type 0} (r : Result X E) (x y : X) → r ≡ Ok x → r ≡ Ok y → x ≡ y
ok_one r x y e h = cc

not_both : (b : Bool) → b ≡ false → b ≡ true → ⊥
not_both b f t = let both : false ≡ true = sym f ∙ t in cc

-- WHAT IS CARRIED IS ONE

posts_one : (body : List ℕ) (one other : List ℕ × Option (List ℕ)) → Posts body one.0 one.1 → Posts body other.0 other.1 → one ≡ other
posts_one body one other p q =
    let same = ok_one (form body) (record { field = Request; message = one.0; relay = one.1 }) (record { field = Request; message = other.0; relay = other.1 }) p q in
    λ i. ((same i).message, (same i).relay)

-- a peer and its place
abbrev From : List LogoutPeer → AuthnRequest → ℕ × LogoutPeer → Type 0
From peers request from = (place_of request.issuer peers ≡ Some from.0) × (slice_get peers from.0 ≡ Some from.1)

from_one : (peers : List LogoutPeer) (request : AuthnRequest) (one other : ℕ × LogoutPeer) → From peers request one → From peers request other → one ≡ other
from_one peers request one other a b =
    let place = some_one (place_of request.issuer peers) one.0 other.0 a.0 b.0 in
    let peer = some_one (slice_get peers other.0) one.1 other.1 (subst (λ (n : ℕ). slice_get peers n ≡ Some one.1) place a.1) b.1 in
    λ i. (place i, peer i)

-- THE STAGES, the last first

-- 11 to 14
abbrev Forged14 : LogoutPeer → Nodes → Verdict → Type 0
Forged14 peer tree v = (fault : SigFault) × (is_signed tree ≡ true) × IsUnvouched peer.key_in tree 0 fault × (of_signature fault ≡ Some v)

-- a condition that fails with a verdict, or holds
abbrev Fails : Bool → Verdict → Verdict → Type 0
Fails holds verdict v = (holds ≡ false) × (v ≡ verdict)

abbrev Holds : Bool → Unit {0} → Type 0
Holds holds _ = holds ≡ true

-- 43
abbrev Consumer43 : Nodes → AuthnRequest → LogoutPeer → Verdict → Type 0
Consumer43 tree request peer =
    Staged (Fails (is_wanted_at peer request) verdicts.WrongConsumer) (Holds (is_wanted_at peer request)) (λ _. Forged14 peer tree)

-- 42
abbrev Destination42 : List ℕ → Nodes → AuthnRequest → ℕ × LogoutPeer → Verdict → Type 0
Destination42 address tree request from =
    Staged (Fails (is_destination address (is_signed tree) request.destination) verdicts.RequestDestination)
    (Holds (is_destination address (is_signed tree) request.destination)) (λ _. Consumer43 tree request from.1)

-- 41
abbrev Unknown : List LogoutPeer → AuthnRequest → Verdict → Type 0
Unknown peers request v = (place_of request.issuer peers ≡ None) × (v ≡ verdicts.UnknownIssuer)

abbrev Issuer41 : List LogoutPeer → List ℕ → Nodes → AuthnRequest → Verdict → Type 0
Issuer41 peers address tree request = Staged (Unknown peers request) (From peers request) (Destination42 address tree request)

-- 40
abbrev NoRequest : Nodes → Verdict → Type 0
NoRequest tree v = ((request : AuthnRequest) → ¬ (IsAuthnRequest tree 0 request)) × (v ≡ verdicts.NotAuthnRequest)

abbrev Root40 : List LogoutPeer → List ℕ → Nodes → Verdict → Type 0
Root40 peers address tree = Staged (NoRequest tree) (IsAuthnRequest tree 0) (Issuer41 peers address tree)

-- 4 to 7
abbrev NoDocument : List ℕ → Verdict → Type 0
NoDocument message v = (fault : TreeFault) × documents.IsRefused message fault × (of_document fault ≡ Some v)

abbrev Document7 : List LogoutPeer → List ℕ → List ℕ × Option (List ℕ) → Verdict → Type 0
Document7 peers address posted = Staged (NoDocument posted.0) (IsSpelled posted.0) (Root40 peers address)

-- 1 to 3
abbrev Form3 : List LogoutPeer → List ℕ → List ℕ → Verdict → Type 0
Form3 peers address body =
    Staged (λ v. form_refusal (form body) ≡ Some v) (λ (posted : List ℕ × Option (List ℕ)). Posts body posted.0 posted.1) (Document7 peers address)

-- NOTHING FAILS AND PASSES

fails_or_holds : (holds : Bool) (verdict v : Verdict) (u : Unit {0}) → Fails holds verdict v → Holds holds u → ⊥
fails_or_holds holds verdict v u f h = not_both holds f.0 h

unit_one : (holds : Bool) (one other : Unit {0}) → Holds holds one → Holds holds other → one ≡ other
unit_one holds one other a b = λ i. tt

known_too : (peers : List LogoutPeer) (request : AuthnRequest) (v : Verdict) (from : ℕ × LogoutPeer) → Unknown peers request v → From peers request from → ⊥
known_too peers request v from n h = let both : None ≡ Some from.0 = sym n.0 ∙ h.0 in cc

no_request_too : (tree : Nodes) (v : Verdict) (request : AuthnRequest) → NoRequest tree v → IsAuthnRequest tree 0 request → ⊥
no_request_too tree v request n r = n.0 request r

no_document_too : (message : List ℕ) (v : Verdict) (tree : Nodes) → NoDocument message v → IsSpelled message tree → ⊥
no_document_too message v tree n s = spelled_not_refused message tree n.0 v s n.1 n.2

no_form_too : (body : List ℕ) (v : Verdict) (posted : List ℕ × Option (List ℕ)) → form_refusal (form body) ≡ Some v → Posts body posted.0 posted.1 → ⊥
no_form_too body v posted e p = let both : None ≡ Some v = sym (ap form_refusal p) ∙ e in cc

-- EACH IS ONE

forged_one : (peer : LogoutPeer) (tree : Nodes) → IsOne (Forged14 peer tree)
forged_one peer tree v w a b =
    some_one (of_signature b.0) v w (ap of_signature (sym (one_fault peer.key_in tree 0 a.0 b.0 v w a.2 b.2 a.3 b.3)) ∙ a.3) b.3

consumer_one : (tree : Nodes) (request : AuthnRequest) (peer : LogoutPeer) → IsOne (Consumer43 tree request peer)
consumer_one tree request peer =
    let holds = is_wanted_at peer request in
    staged_one (Fails holds verdicts.WrongConsumer) (Holds holds) (λ _. Forged14 peer tree) (λ v w a b. a.1 ∙ sym b.1)
    (fails_or_holds holds verdicts.WrongConsumer) (unit_one holds) (λ _. forged_one peer tree)

destination_one : (address : List ℕ) (tree : Nodes) (request : AuthnRequest) (from : ℕ × LogoutPeer) → IsOne (Destination42 address tree request from)
destination_one address tree request from =
    let holds = is_destination address (is_signed tree) request.destination in
    staged_one (Fails holds verdicts.RequestDestination) (Holds holds) (λ _. Consumer43 tree request from.1) (λ v w a b. a.1 ∙ sym b.1)
    (fails_or_holds holds verdicts.RequestDestination) (unit_one holds) (λ _. consumer_one tree request from.1)

issuer_one : (peers : List LogoutPeer) (address : List ℕ) (tree : Nodes) (request : AuthnRequest) → IsOne (Issuer41 peers address tree request)
issuer_one peers address tree request =
    staged_one (Unknown peers request) (From peers request) (Destination42 address tree request) (λ v w a b. a.1 ∙ sym b.1) (known_too peers request)
    (from_one peers request) (destination_one address tree request)

root_one : (peers : List LogoutPeer) (address : List ℕ) (tree : Nodes) → IsOne (Root40 peers address tree)
root_one peers address tree =
    staged_one (NoRequest tree) (IsAuthnRequest tree 0) (Issuer41 peers address tree) (λ v w a b. a.1 ∙ sym b.1) (no_request_too tree) (one_authn tree 0)
    (issuer_one peers address tree)

document_one : (peers : List LogoutPeer) (address : List ℕ) (posted : List ℕ × Option (List ℕ)) → IsOne (Document7 peers address posted)
document_one peers address posted =
    staged_one (NoDocument posted.0) (IsSpelled posted.0) (Root40 peers address)
    (λ v w a b. some_one (of_document b.0) v w (ap of_document (sym (one_refusal posted.0 a.0 b.0 v w a.1 b.1 a.2 b.2)) ∙ a.2) b.2)
    (no_document_too posted.0) (λ s t a b. one_tree posted.0 s t a.spells b.spells) (root_one peers address)

form_one : (peers : List LogoutPeer) (address body : List ℕ) → IsOne (Form3 peers address body)
form_one peers address body =
    staged_one (λ v. form_refusal (form body) ≡ Some v) (λ (posted : List ℕ × Option (List ℕ)). Posts body posted.0 posted.1) (Document7 peers address)
    (some_one (form_refusal (form body))) (no_form_too body) (posts_one body) (document_one peers address)

-- A REFUSAL COMES IN ITS STAGE

abbrev At41 : List LogoutPeer → List ℕ → Carried → Verdict → Type 0
At41 peers address c = Issuer41 peers address c.tree c.request

behind_carried : (peers : List LogoutPeer) (address body : List ℕ) (v : Verdict) (c : Carried) → Carries body c → At41 peers address c v →
    Form3 peers address body v
behind_carried peers address body v c k later = inr ((c.message, c.relay), k.posted, inr (c.tree, k.spelled, inr (c.request, k.request, later)))

staged : (peers : List LogoutPeer) (address body : List ℕ) (v : Verdict) → IsRefused peers address body v → Form3 peers address body v
staged peers address body v (by_form e) = inl e
staged peers address body v (by_document message relay fault p r e) = inr ((message, relay), p, inl (fault, r, e))
staged peers address body v (by_root message relay tree p s n e) = inr ((message, relay), p, inr (tree, s, inl (n, e)))
staged peers address body v (by_issuer c k none is) = behind_carried peers address body v c k (inl (none, is))
staged peers address body v (by_destination c place peer k from d is) =
    behind_carried peers address body v c k (inr ((place, peer), (from.known, from.peer_is), inl (d, is)))
staged peers address body v (by_consumer c place peer k from d w is) =
    behind_carried peers address body v c k (inr ((place, peer), (from.known, from.peer_is), inr (tt, d, inl (w, is))))
staged peers address body v (by_signature c place peer fault k from d w s u e) =
    behind_carried peers address body v c k (inr ((place, peer), (from.known, from.peer_is), inr (tt, d, inr (tt, w, (fault, s, u, e)))))

pub refused_once : (peers : List LogoutPeer) (address body : List ℕ) (v w : Verdict) → IsRefused peers address body v → IsRefused peers address body w → v ≡ w
refused_once peers address body v w a b = form_one peers address body v w (staged peers address body v a) (staged peers address body w b)

-- WHAT IS ASKED IS NOT REFUSED

authentic_not_forged : (peer : LogoutPeer) (tree : Nodes) → IsAuthentic peer tree → (v : Verdict) → Forged14 peer tree v → ⊥
authentic_not_forged peer tree authentic v f =
    let vouched = authentic f.1 in
    vouched_not_unvouched peer.key_in tree 0 vouched.0 f.0 v vouched.1 f.2 f.3

pub asked_not_refused : (peers : List LogoutPeer) (address body : List ℕ) (asked : Asked) (v : Verdict) → IsAsked peers address body asked →
    IsRefused peers address body v → ⊥
asked_not_refused peers address body asked v a r =
    let c = a.carried in
    let o = a.asks in
    let k = o.carries in
    let destined = is_destination address (is_signed c.tree) c.request.destination in
    let wanted = is_wanted_at a.peer c.request in
    staged_none (λ v. form_refusal (form body) ≡ Some v) (λ (posted : List ℕ × Option (List ℕ)). Posts body posted.0 posted.1) (Document7 peers address)
    (no_form_too body) (posts_one body) (c.message, c.relay) k.posted
    (staged_none (NoDocument c.message) (IsSpelled c.message) (Root40 peers address) (no_document_too c.message)
    (λ s t a b. one_tree c.message s t a.spells b.spells) c.tree k.spelled
    (staged_none (NoRequest c.tree) (IsAuthnRequest c.tree 0) (Issuer41 peers address c.tree) (no_request_too c.tree) (one_authn c.tree 0) c.request k.request
    (staged_none (Unknown peers c.request) (From peers c.request) (Destination42 address c.tree c.request) (known_too peers c.request)
    (from_one peers c.request) (a.place, a.peer) (o.known, o.peer_is)
    (staged_none (Fails destined verdicts.RequestDestination) (Holds destined) (λ _. Consumer43 c.tree c.request a.peer)
    (fails_or_holds destined verdicts.RequestDestination) (unit_one destined) tt o.destination
    (staged_none (Fails wanted verdicts.WrongConsumer) (Holds wanted) (λ _. Forged14 a.peer c.tree) (fails_or_holds wanted verdicts.WrongConsumer)
    (unit_one wanted) tt o.wanted (authentic_not_forged a.peer c.tree o.authentic))))))
    v (staged peers address body v r)

-- WHAT IS ASKED IS ONE

carried_one : (body : List ℕ) (c d : Carried) → Carries body c → Carries body d → c ≡ d
carried_one body c d a b =
    let posted = posts_one body (c.message, c.relay) (d.message, d.relay) a.posted b.posted in
    let spelled = subst (λ (m : List ℕ). IsSpelled m c.tree) (ap (λ (p : List ℕ × Option (List ℕ)). p.0) posted) a.spelled in
    let tree = one_tree d.message c.tree d.tree spelled.spells b.spelled.spells in
    let request = one_authn d.tree 0 c.request d.request (subst (λ (t : Nodes). IsAuthnRequest t 0 c.request) tree a.request) b.request in
    λ i. record { message = (posted i).0; relay = (posted i).1; tree = tree i; request = request i }

pub asked_one : (peers : List LogoutPeer) (address body : List ℕ) (one other : Asked) → IsAsked peers address body one → IsAsked peers address body other →
    one ≡ other
asked_one peers address body one other a b =
    let carried = carried_one body a.carried b.carried a.asks.carries b.asks.carries in
    let from =
    from_one peers b.carried.request (a.place, a.peer) (b.place, b.peer)
    (subst (λ (c : Carried). From peers c.request (a.place, a.peer)) carried (a.asks.known, a.asks.peer_is)) (b.asks.known, b.asks.peer_is) in
    a.is ∙ (λ i. asked_of (carried i) (from i).0 (from i).1) ∙ sym b.is
