-- A form has one verdict.
use Rattle.std.proofs.Common.{◌≡◌, ℕ, true, cond, List, Option, None, Some, Result, Ok, inl, inr, sym, ◌∙◌, ap, subst}
use Rattle.std.specs.Prelude.{slice_get}
use Rattle.xml_spec.specs.Tree.{Nodes}
use Rattle.xml_spec.proofs.Documents.{one_tree}
use Rattle.saml_tree.specs.Documents.{IsSpelled}
use Rattle.saml_tree.specs.Documents as documents
use Rattle.saml_tree.specs.declared.node.TreeFault.{TreeFault}
use Rattle.post_binding.specs.Form.{form}
use Rattle.post_binding.specs.declared.posted.Field.{Field}
use Rattle.post_binding.specs.declared.posted.Field.TheVariants as fields
use Rattle.post_binding.specs.declared.posted.Posted.{Posted}
use Rattle.protocol_messages.proofs.OneMessage.{one_logout_request, one_logout_response}
use Rattle.sig_reference.specs.declared.fault.SigFault.{SigFault}
use Rattle.peer_keys.specs.Peers.{place_of}
use Rattle.peer_keys.specs.declared.peers.LogoutPeer.{LogoutPeer}
use Rattle.verdict_codes.specs.declared.codes.Verdict.{Verdict}
use Rattle.verdict_codes.specs.declared.codes.Verdict.TheVariants as verdicts
use Rattle.fault_verdicts.specs.Verdicts.{of_document, of_signature}
use Rattle.logout_profile.specs.declared.message.Message.{Message}
use Rattle.logout_profile.specs.declared.message.Message.TheVariants as messages
use Rattle.logout_profile.specs.declared.logout.Logout.{Logout}
use Rattle.logout_profile.specs.Carrying.{IsMessage, issuer_of, destination_of, until_of, logout_of, Posts}
use Rattle.logout_profile.specs.Keys.{keys_of, IsVouched, IsNotVouched}
use Rattle.logout_profile.specs.Verdict.{IsPeer, is_sent_to, is_in_time, form_refusal, message_refusal, IsRefused, IsAccepted, by_form, by_document, by_root, by_issuer, by_signature, by_message}
use Rattle.fault_verdicts.proofs.Faults.{spelled_not_refused, one_refusal}
use Rattle.logout_profile.proofs.Faults.{one_key, vouched_not_refused, not_vouched_one}
use Rattle.fault_verdicts.proofs.Stages.{IsOne, Staged, staged_one, staged_none}

some_one : {X : Type 0} (o : Option X) (x y : X) → o ≡ Some x → o ≡ Some y → x ≡ y
some_one o x y e h = let both : Some x ≡ Some y = sym e ∙ h in cc

ok_one : {X E : Type 0} (r : Result X E) (x y : X) → r ≡ Ok x → r ≡ Ok y → x ≡ y
ok_one r x y e h = cc

-- an element is one message at most
one_message : (field : Field) (tree : Nodes) (m n : Message) → IsMessage field tree 0 m → IsMessage field tree 0 n → m ≡ n
one_message fields.Request tree (messages.Ask m) (messages.Ask n) p q = ap messages.Ask (one_logout_request tree 0 m n p q)
one_message fields.Request tree (messages.Ask m) (messages.Reply n) p q = absurd q
one_message fields.Request tree (messages.Reply m) n p q = absurd p
one_message fields.Response tree (messages.Ask m) n p q = absurd p
one_message fields.Response tree (messages.Reply m) (messages.Ask n) p q = absurd q
one_message fields.Response tree (messages.Reply m) (messages.Reply n) p q = ap messages.Reply (one_logout_response tree 0 m n p q)

one_peer : (peers : List LogoutPeer) (entity : List ℕ) (one other : ℕ × LogoutPeer) → IsPeer peers entity one.0 one.1 → IsPeer peers entity other.0 other.1 →
    one ≡ other
one_peer peers entity one other p q =
    let place : one.0 ≡ other.0 = some_one (place_of entity peers) one.0 other.0 p.stands q.stands in
    let peer : one.1 ≡ other.1 =
    some_one (slice_get peers other.0) one.1 other.1 (subst (λ n. slice_get peers n ≡ Some one.1) place p.is) q.is in
    λ i. (place i, peer i)

-- what stands in a form
abbrev Stood : Type 0
Stood = Field × List ℕ × Option (List ℕ)

abbrev posted_of : Stood → Posted
posted_of s = record { field = s.0; message = s.1; relay = s.2 }

abbrev Stands : List ℕ → Stood → Type 0
Stands body s = Posts body s.0 s.1 s.2

stands_one : (body : List ℕ) (s t : Stood) → Stands body s → Stands body t → s ≡ t
stands_one body s t p q =
    let same : posted_of s ≡ posted_of t = ok_one (form body) (posted_of s) (posted_of t) p q in
    ap (λ (x : Posted). (x.field, x.message, x.relay)) same

-- THE STAGES, the last first

module _ (peers : List LogoutPeer) (second : Option (List ℕ)) (address : List ℕ) (skew now : ℕ) where
  -- 32 and 35
  abbrev Message35 : Message → Verdict → Type 0
  Message35 message v = message_refusal address skew now message ≡ Some v

  -- 11 to 14
  abbrev NoKey : Nodes → LogoutPeer → Verdict → Type 0
  NoKey tree peer v = (fault : SigFault) × IsNotVouched (keys_of peer second) tree fault × (of_signature fault ≡ Some v)

  abbrev Signature14 : Nodes → Message → LogoutPeer → Verdict → Type 0
  Signature14 tree message peer = Staged (NoKey tree peer) (IsVouched (keys_of peer second) tree) (λ _. Message35 message)

  -- 31
  abbrev NoPeer : Message → Verdict → Type 0
  NoPeer message v = (place_of (issuer_of message) peers ≡ None) × (v ≡ verdicts.UnknownPeer)

  abbrev Issuer31 : Nodes → Message → Verdict → Type 0
  Issuer31 tree message =
      Staged (NoPeer message) (λ (p : ℕ × LogoutPeer). IsPeer peers (issuer_of message) p.0 p.1) (λ p. Signature14 tree message p.1)

  -- 30
  abbrev NoMessage : Field → Nodes → Verdict → Type 0
  NoMessage field tree v = ((message : Message) → ¬ (IsMessage field tree 0 message)) × (v ≡ verdicts.NotLogout)

  abbrev Root30 : Field → Nodes → Verdict → Type 0
  Root30 field tree = Staged (NoMessage field tree) (IsMessage field tree 0) (Issuer31 tree)

  -- 4 to 7
  abbrev NoDocument : List ℕ → Verdict → Type 0
  NoDocument text v = (fault : TreeFault) × documents.IsRefused text fault × (of_document fault ≡ Some v)

  abbrev Document7 : Stood → Verdict → Type 0
  Document7 s = Staged (NoDocument s.1) (IsSpelled s.1) (Root30 s.0)

  -- 1 to 3
  abbrev NoForm : List ℕ → Verdict → Type 0
  NoForm body v = form_refusal (form body) ≡ Some v

  abbrev Form3 : List ℕ → Verdict → Type 0
  Form3 body = Staged (NoForm body) (Stands body) Document7

  -- WHAT FAILS DOES NOT PASS

  key_too : (tree : Nodes) (peer : LogoutPeer) (v : Verdict) (key : List ℕ) → NoKey tree peer v → IsVouched (keys_of peer second) tree key → ⊥
  key_too tree peer v key f p = vouched_not_refused (keys_of peer second) tree key f.0 v p f.1 f.2

  peer_too : (message : Message) (v : Verdict) (p : ℕ × LogoutPeer) → NoPeer message v → IsPeer peers (issuer_of message) p.0 p.1 → ⊥
  peer_too message v p f h = let both : None ≡ Some p.0 = sym f.0 ∙ h.stands in cc

  message_too : (field : Field) (tree : Nodes) (v : Verdict) (message : Message) → NoMessage field tree v → IsMessage field tree 0 message → ⊥
  message_too field tree v message f p = f.0 message p

  document_too : (text : List ℕ) (v : Verdict) (tree : Nodes) → NoDocument text v → IsSpelled text tree → ⊥
  document_too text v tree f p = spelled_not_refused text tree f.0 v p f.1 f.2

  form_too : (body : List ℕ) (v : Verdict) (s : Stood) → NoForm body v → Stands body s → ⊥
  form_too body v s f p = let none : None ≡ Some v = sym (ap form_refusal p) ∙ f in cc

  -- EACH STAGE HAS ONE VERDICT

  signature_one : (tree : Nodes) (message : Message) (peer : LogoutPeer) → IsOne (Signature14 tree message peer)
  signature_one tree message peer =
      staged_one (NoKey tree peer) (IsVouched (keys_of peer second) tree) (λ _. Message35 message)
      (λ v w a b. some_one (of_signature b.0) v w (ap of_signature (sym (not_vouched_one (keys_of peer second) tree a.0 b.0 v w a.1 b.1 a.2 b.2)) ∙ a.2) b.2)
      (key_too tree peer) (one_key (keys_of peer second) tree) (λ _. some_one (message_refusal address skew now message))

  issuer_one : (tree : Nodes) (message : Message) → IsOne (Issuer31 tree message)
  issuer_one tree message =
      staged_one (NoPeer message) (λ (p : ℕ × LogoutPeer). IsPeer peers (issuer_of message) p.0 p.1) (λ p. Signature14 tree message p.1)
      (λ v w a b. a.1 ∙ sym b.1) (peer_too message) (one_peer peers (issuer_of message)) (λ p. signature_one tree message p.1)

  root_one : (field : Field) (tree : Nodes) → IsOne (Root30 field tree)
  root_one field tree =
      staged_one (NoMessage field tree) (IsMessage field tree 0) (Issuer31 tree) (λ v w a b. a.1 ∙ sym b.1) (message_too field tree) (one_message field tree)
      (issuer_one tree)

  document_one : (s : Stood) → IsOne (Document7 s)
  document_one s =
      staged_one (NoDocument s.1) (IsSpelled s.1) (Root30 s.0)
      (λ v w a b. some_one (of_document b.0) v w (ap of_document (sym (one_refusal s.1 a.0 b.0 v w a.1 b.1 a.2 b.2)) ∙ a.2) b.2)
      (document_too s.1) (λ t u a b. one_tree s.1 t u a.spells b.spells) (root_one s.0)

  form_one : (body : List ℕ) → IsOne (Form3 body)
  form_one body =
      staged_one (NoForm body) (Stands body) Document7 (some_one (form_refusal (form body))) (form_too body) (stands_one body) document_one

  -- A REFUSAL COMES IN ITS STAGE

  staged : (body : List ℕ) (v : Verdict) → IsRefused peers second address skew now body v → Form3 body v
  staged body v (by_form e) = inl e
  staged body v (by_document field text relay fault p r e) = inr ((field, text, relay), p, inl (fault, r, e))
  staged body v (by_root field text relay tree p s n e) = inr ((field, text, relay), p, inr (tree, s, inl (n, e)))
  staged body v (by_issuer c k n e) =
      inr ((c.field, c.text, c.relay), k.posted, inr (c.tree, k.spelled, inr (c.message, k.message, inl (n, e))))
  staged body v (by_signature c place peer fault k is u e) =
      inr ((c.field, c.text, c.relay), k.posted, inr (c.tree, k.spelled, inr (c.message, k.message, inr ((place, peer), is, inl (fault, u, e)))))
  staged body v (by_message c place peer key k is u e) =
      inr ((c.field, c.text, c.relay), k.posted, inr (c.tree, k.spelled, inr (c.message, k.message, inr ((place, peer), is, inr (key, u, e)))))

  pub refused_once : (body : List ℕ) (v w : Verdict) → IsRefused peers second address skew now body v → IsRefused peers second address skew now body w → v ≡ w
  refused_once body v w a b = form_one body v w (staged body v a) (staged body w b)

  -- WHAT IS OBEYED IS NOT REFUSED

  not_refused : (message : Message) → is_sent_to address (destination_of message) ≡ true → is_in_time skew now (until_of message) ≡ true →
      message_refusal address skew now message ≡ None
  not_refused message a b = λ i. cond (a i) (cond (b i) None (Some verdicts.LogoutNotInTime)) (Some verdicts.LogoutDestination)

  pub obeyed_not_refused : (body : List ℕ) (logout : Logout) (v : Verdict) → IsAccepted peers second address skew now body logout →
      IsRefused peers second address skew now body v → ⊥
  obeyed_not_refused body logout v o r =
      let c = o.carried in
      let none : message_refusal address skew now c.message ≡ None = not_refused c.message o.sent_to o.in_time in
      staged_none (NoForm body) (Stands body) Document7 (form_too body) (stands_one body) (c.field, c.text, c.relay) o.carries.posted
      (staged_none (NoDocument c.text) (IsSpelled c.text) (Root30 c.field) (document_too c.text) (λ t u a b. one_tree c.text t u a.spells b.spells)
      c.tree o.carries.spelled
      (staged_none (NoMessage c.field c.tree) (IsMessage c.field c.tree 0) (Issuer31 c.tree) (message_too c.field c.tree) (one_message c.field c.tree)
      c.message o.carries.message
      (staged_none (NoPeer c.message) (λ (p : ℕ × LogoutPeer). IsPeer peers (issuer_of c.message) p.0 p.1) (λ p. Signature14 c.tree c.message p.1)
      (peer_too c.message) (one_peer peers (issuer_of c.message)) (o.place, o.peer) o.known
      (staged_none (NoKey c.tree o.peer) (IsVouched (keys_of o.peer second) c.tree) (λ _. Message35 c.message) (key_too c.tree o.peer)
      (one_key (keys_of o.peer second) c.tree) o.key o.vouched (λ w e. let both : None ≡ Some w = sym none ∙ e in cc)))))
      v (staged body v r)

  -- WHAT IS OBEYED IS ONE

  pub obeyed_once : (body : List ℕ) (one other : Logout) → IsAccepted peers second address skew now body one → IsAccepted peers second address skew now body other →
      one ≡ other
  obeyed_once body one other p q =
      let a = p.carried in
      let b = q.carried in
      let stood : (a.field, a.text, a.relay) ≡ (b.field, b.text, b.relay) =
      stands_one body (a.field, a.text, a.relay) (b.field, b.text, b.relay) p.carries.posted q.carries.posted in
      let field : a.field ≡ b.field = ap (λ (s : Stood). s.0) stood in
      let text : a.text ≡ b.text = ap (λ (s : Stood). s.1) stood in
      let relay : a.relay ≡ b.relay = ap (λ (s : Stood). s.2) stood in
      let spelled : IsSpelled b.text a.tree = subst (λ t. IsSpelled t a.tree) text p.carries.spelled in
      let tree : a.tree ≡ b.tree = one_tree b.text a.tree b.tree spelled.spells q.carries.spelled.spells in
      let message : a.message ≡ b.message =
      one_message b.field b.tree a.message b.message
      (subst (λ (x : Field × Nodes). IsMessage x.0 x.1 0 a.message) (λ i. (field i, tree i)) p.carries.message) q.carries.message in
      let place : p.place ≡ q.place =
      some_one (place_of (issuer_of b.message) peers) p.place q.place (subst (λ m. place_of (issuer_of m) peers ≡ Some p.place) message p.known.stands)
      q.known.stands in
      p.is ∙ (λ i. logout_of (message i) (place i) (relay i)) ∙ sym q.is
