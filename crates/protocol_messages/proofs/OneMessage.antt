-- What an element says as a message is determined by the element.
use Rattle.std.proofs.Common.{◌≡◌, ℕ, List, Option, Some, None, refl, sym, ap, ◌∙◌}
use Rattle.xml_spec.specs.Tree.{Nodes}
use Rattle.xml_spec.specs.Names.{ExpandedName}
use Rattle.saml_time.specs.Instant.{Tells, moment}
use Rattle.saml_time.proofs.LawLemmas.{one_instant}
use Rattle.protocol_messages.specs.declared.authn.AuthnRequest.{AuthnRequest}
use Rattle.protocol_messages.specs.declared.response.ResponseHead.{ResponseHead}
use Rattle.protocol_messages.specs.declared.logout.LogoutRequest.{LogoutRequest}
use Rattle.protocol_messages.specs.declared.logout.LogoutResponse.{LogoutResponse}
use Rattle.protocol_messages.specs.Messages.{Tell, IsMessage, IsAuthnRequest, IsResponse, IsLogoutRequest, IsLogoutResponse}

one_moment : (text : List ℕ) (a b : ℕ) → Tells text a → Tells text b → a ≡ b
one_moment text a b p q = sym p.means ∙ ap moment (one_instant text p.instant q.instant p.spells q.spells) ∙ q.means

one_told : (text : Option (List ℕ)) (a b : Option ℕ) → Tell text a → Tell text b → a ≡ b
one_told None None None p q = refl
one_told None (Some a) b p q = absurd p
one_told None None (Some b) p q = absurd q
one_told (Some text) None b p q = absurd p
one_told (Some text) (Some a) None p q = absurd q
one_told (Some text) (Some a) (Some b) p q = ap Some (one_moment text a b p q)

same_some : {A : Type 0} (o : Option A) (a b : A) → o ≡ Some a → o ≡ Some b → a ≡ b
same_some o a b p q = let both : Some a ≡ Some b = sym p ∙ q in cc

pub one_kind : (tree : Nodes) (k : ℕ) (one other id another : List ℕ) (issued moment : ℕ) → IsMessage tree k one id issued
    → IsMessage tree k other another moment → one ≡ other
one_kind tree k one other id another issued moment p q = ap (λ (n : ExpandedName). n.local) (sym p.name ∙ q.name)

one_id : (tree : Nodes) (k : ℕ) (local a b : List ℕ) (x y : ℕ) → IsMessage tree k local a x → IsMessage tree k local b y → a ≡ b
one_id tree k local a b x y p q = same_some _ a b p.identified q.identified

one_issue : (tree : Nodes) (k : ℕ) (local a b : List ℕ) (x y : ℕ) → IsMessage tree k local a x → IsMessage tree k local b y → x ≡ y
one_issue tree k local a b x y p q = let both : Some x ≡ Some y = one_told _ (Some x) (Some y) p.told q.told in cc

pub one_authn : (tree : Nodes) (k : ℕ) (m n : AuthnRequest) → IsAuthnRequest tree k m → IsAuthnRequest tree k n → m ≡ n
one_authn tree k m n p q =
    let id = one_id tree k _ m.id n.id m.issued n.issued p.is q.is in
    let issuer = same_some _ m.issuer n.issuer p.issuer q.issuer in
    let destination : m.destination ≡ n.destination = sym p.destination ∙ q.destination in
    let consumer : m.consumer ≡ n.consumer = sym p.consumer ∙ q.consumer in
    let binding : m.other_binding ≡ n.other_binding = sym p.binding ∙ q.binding in
    let force = same_some _ m.force n.force p.force q.force in
    let passive = same_some _ m.passive n.passive p.passive q.passive in
    let issued = one_issue tree k _ m.id n.id m.issued n.issued p.is q.is in
    λ i. record { id = id i; issuer = issuer i; destination = destination i; consumer = consumer i; other_binding = binding i; force = force i; passive = passive i; issued = issued i }

pub one_response : (tree : Nodes) (k : ℕ) (m n : ResponseHead) → IsResponse tree k m → IsResponse tree k n → m ≡ n
one_response tree k m n p q =
    let id = one_id tree k _ m.id n.id p.issued q.issued p.is q.is in
    let issuer = same_some _ m.issuer n.issuer p.issuer q.issuer in
    let destination : m.destination ≡ n.destination = sym p.destination ∙ q.destination in
    let request : m.request ≡ n.request = sym p.request ∙ q.request in
    let success = same_some _ m.success n.success p.success q.success in
    let signature : m.has_signature ≡ n.has_signature = sym p.signature ∙ q.signature in
    let assertions : m.assertions ≡ n.assertions = sym p.assertions ∙ q.assertions in
    λ i. record { id = id i; issuer = issuer i; destination = destination i; request = request i; success = success i; has_signature = signature i; assertions = assertions i }

pub one_logout_request : (tree : Nodes) (k : ℕ) (m n : LogoutRequest) → IsLogoutRequest tree k m → IsLogoutRequest tree k n → m ≡ n
one_logout_request tree k m n p q =
    let id = one_id tree k _ m.id n.id p.issued q.issued p.is q.is in
    let issuer = same_some _ m.issuer n.issuer p.issuer q.issuer in
    let destination : m.destination ≡ n.destination = sym p.destination ∙ q.destination in
    let until = one_told _ m.until n.until p.until q.until in
    let name = same_some _ m.name n.name p.name q.name in
    let indexes : m.indexes ≡ n.indexes = sym p.indexes ∙ q.indexes in
    λ i. record { id = id i; issuer = issuer i; destination = destination i; until = until i; name = name i; indexes = indexes i }

pub one_logout_response : (tree : Nodes) (k : ℕ) (m n : LogoutResponse) → IsLogoutResponse tree k m → IsLogoutResponse tree k n → m ≡ n
one_logout_response tree k m n p q =
    let id = one_id tree k _ m.id n.id p.issued q.issued p.is q.is in
    let issuer = same_some _ m.issuer n.issuer p.issuer q.issuer in
    let destination : m.destination ≡ n.destination = sym p.destination ∙ q.destination in
    let request = same_some _ m.request n.request p.request q.request in
    let outcome = same_some _ m.outcome n.outcome p.outcome q.outcome in
    λ i. record { id = id i; issuer = issuer i; destination = destination i; request = request i; outcome = outcome i }
