-- A form has one verdict.
use Rattle.std.proofs.Common.{◌≡◌, ℕ, Bool, true, false, cond, ◌&&◌, List, [], ◌∷◌, Option, None, Some, Result, Ok, inl, inr, refl, sym, ◌∙◌, ap, subst}
use Rattle.xml_spec.specs.Tree.{Nodes}
use Rattle.xml_spec.proofs.Documents.{one_tree}
use Rattle.saml_tree.specs.Documents.{IsSpelled}
use Rattle.saml_tree.specs.Documents as documents
use Rattle.saml_tree.specs.declared.node.TreeFault.{TreeFault}
use Rattle.post_binding.specs.Form.{form}
use Rattle.post_binding.specs.declared.posted.Field.TheVariants.{Response}
use Rattle.protocol_messages.specs.Messages.{IsResponse}
use Rattle.protocol_messages.specs.declared.response.ResponseHead.{ResponseHead}
use Rattle.protocol_messages.proofs.OneMessage.{one_response}
use Rattle.sig_reference.specs.declared.fault.SigFault.{SigFault}
use Rattle.assertion_model.specs.declared.login.Login.{Login}
use Rattle.assertion_model.specs.Parts.{login_at}
use Rattle.request_rows.specs.declared.row.AskedRow.{AskedRow}
use Rattle.request_rows.specs.Rows.{RowsView}
use Rattle.verdict_codes.specs.declared.codes.Verdict.{Verdict}
use Rattle.verdict_codes.specs.declared.codes.Verdict.TheVariants as verdicts
use Rattle.fault_verdicts.specs.Verdicts.{of_document, of_signature}
use Rattle.sp_rules.specs.declared.config.SpConfig.{SpConfig}
use Rattle.sp_rules.specs.Keys.{Key, usable}
use Rattle.sp_rules.specs.Covering.{IsCovered, IsUncovered}
use Rattle.sp_rules.specs.Meant.{consumer, is_from, is_for, is_sent_to, is_in_time}
use Rattle.sp_rules.specs.Outstanding.{asked_for, is_outstanding, is_relayed}
use Rattle.sp_rules.specs.Opening.{Posts, Asserts, Brought, Opens}
use Rattle.sp_rules.specs.Verdict.{form_refusal, number_refusal, head_refusal, login_refusal, first_failing, IsRefused, by_form, by_document, by_root, by_head, by_signature, by_assertion, by_login}
use Rattle.fault_verdicts.proofs.Faults.{spelled_not_refused, one_refusal}
use Rattle.sp_rules.proofs.Faults.{covered_not_uncovered, uncovered_one, covered_one}
use Rattle.fault_verdicts.proofs.Stages.{IsOne, Staged, staged_one, staged_none}

pub some_one : {X : Type 0} (o : Option X) (x y : X) → o ≡ Some x → o ≡ Some y → x ≡ y
some_one o x y e h = let both : Some x ≡ Some y = sym e ∙ h in cc

ok_one : {X E : Type 0} (r : Result X E) (x y : X) → r ≡ Ok x → r ≡ Ok y → x ≡ y
ok_one r x y e h = cc

-- THE STAGES, the last first

-- 16 to 23
abbrev Login23 : SpConfig → RowsView → ℕ → ℕ → ResponseHead → Option (List ℕ) → Login → Verdict → Type 0
Login23 config rows horizon now head relay login v = login_refusal config rows horizon now head relay login ≡ Some v

-- 15
abbrev NoLogin : Nodes → ℕ → Verdict → Type 0
NoLogin tree p v = (login_at tree p ≡ None) × (v ≡ verdicts.BadAssertion)

abbrev Assertion15 : SpConfig → RowsView → ℕ → ℕ → Nodes → ResponseHead → Option (List ℕ) → ℕ → Verdict → Type 0
Assertion15 config rows horizon now tree head relay p =
    Staged (NoLogin tree p) (λ login. login_at tree p ≡ Some login) (Login23 config rows horizon now head relay)

-- 11 to 14
abbrev NoCover : SpConfig → ℕ → Nodes → ℕ → Verdict → Type 0
NoCover config now tree p v = (fault : SigFault) × IsUncovered (usable config now) tree p fault × (of_signature fault ≡ Some v)

abbrev Signature14 : SpConfig → RowsView → ℕ → ℕ → Nodes → ResponseHead → Option (List ℕ) → ℕ → Verdict → Type 0
Signature14 config rows horizon now tree head relay p =
    Staged (NoCover config now tree p) (λ (c : ℕ × Key). IsCovered (usable config now) tree p c.0 c.1)
    (λ _. Assertion15 config rows horizon now tree head relay p)

-- 9 and 10
abbrev Head10 : SpConfig → RowsView → ℕ → ℕ → Nodes → Option (List ℕ) → ResponseHead → Verdict → Type 0
Head10 config rows horizon now tree relay head =
    Staged (λ v. head_refusal head ≡ Some v) (Asserts head) (Signature14 config rows horizon now tree head relay)

-- 8
abbrev NoResponse : Nodes → Verdict → Type 0
NoResponse tree v = ((head : ResponseHead) → ¬ (IsResponse tree 0 head)) × (v ≡ verdicts.NotResponse)

abbrev Root8 : SpConfig → RowsView → ℕ → ℕ → Option (List ℕ) → Nodes → Verdict → Type 0
Root8 config rows horizon now relay tree =
    Staged (NoResponse tree) (IsResponse tree 0) (Head10 config rows horizon now tree relay)

-- 4 to 7
abbrev NoDocument : List ℕ → Verdict → Type 0
NoDocument message v = (fault : TreeFault) × documents.IsRefused message fault × (of_document fault ≡ Some v)

abbrev Document7 : SpConfig → RowsView → ℕ → ℕ → List ℕ × Option (List ℕ) → Verdict → Type 0
Document7 config rows horizon now posted =
    Staged (NoDocument posted.0) (IsSpelled posted.0) (Root8 config rows horizon now posted.1)

-- 1 to 3
abbrev Form3 : SpConfig → RowsView → ℕ → ℕ → List ℕ → Verdict → Type 0
Form3 config rows horizon now body =
    Staged (λ v. form_refusal (form body) ≡ Some v) (λ (posted : List ℕ × Option (List ℕ)). Posts body posted.0 posted.1)
    (Document7 config rows horizon now)

-- EACH IS ONE

none_too : (tree : Nodes) (p : ℕ) (v : Verdict) (login : Login) → NoLogin tree p v → login_at tree p ≡ Some login → ⊥
none_too tree p v login n e = let both : None ≡ Some login = sym n.0 ∙ e in cc

not_covered_too : (config : SpConfig) (now : ℕ) (tree : Nodes) (p : ℕ) (v : Verdict) (c : ℕ × Key) → NoCover config now tree p v →
    IsCovered (usable config now) tree p c.0 c.1 → ⊥
not_covered_too config now tree p v c n h = covered_not_uncovered (usable config now) tree p c.0 c.1 n.0 v h n.1 n.2

no_head_too : (head : ResponseHead) (v : Verdict) (p : ℕ) → head_refusal head ≡ Some v → Asserts head p → ⊥
no_head_too head v p e a = by_parts head.success head.assertions e a.success a.one
  where
    by_parts : (s : Bool) (ps : List ℕ) → cond s (number_refusal ps) (Some verdicts.NotSuccess) ≡ Some v → s ≡ true → ps ≡ p ∷ [] → ⊥
    by_parts s ps e t one =
        let both : None ≡ Some v = sym (ap (λ (x : List ℕ). cond true (number_refusal x) (Some verdicts.NotSuccess)) one) ∙ ap (λ b. cond b (number_refusal ps) (Some verdicts.NotSuccess)) (sym t) ∙ e in cc

no_response_too : (tree : Nodes) (v : Verdict) (head : ResponseHead) → NoResponse tree v → IsResponse tree 0 head → ⊥
no_response_too tree v head n r = n.0 head r

no_document_too : (message : List ℕ) (v : Verdict) (tree : Nodes) → NoDocument message v → IsSpelled message tree → ⊥
no_document_too message v tree n s = spelled_not_refused message tree n.0 v s n.1 n.2

no_form_too : (body : List ℕ) (v : Verdict) (posted : List ℕ × Option (List ℕ)) → form_refusal (form body) ≡ Some v → Posts body posted.0 posted.1 → ⊥
no_form_too body v posted e p = let both : None ≡ Some v = sym (ap form_refusal p) ∙ e in cc

pub posts_one : (body : List ℕ) (one other : List ℕ × Option (List ℕ)) → Posts body one.0 one.1 → Posts body other.0 other.1 → one ≡ other
posts_one body one other p q =
    let same = ok_one (form body) (record { field = Response; message = one.0; relay = one.1 }) (record { field = Response; message = other.0; relay = other.1 }) p q in
    λ i. ((same i).message, (same i).relay)

pub asserts_one : (head : ResponseHead) (p q : ℕ) → Asserts head p → Asserts head q → p ≡ q
asserts_one head p q a b = let both : p ∷ [] ≡ q ∷ [] = sym a.one ∙ b.one in cc

assertion_one : (config : SpConfig) (rows : RowsView) (horizon now : ℕ) (tree : Nodes) (head : ResponseHead) (relay : Option (List ℕ)) (p : ℕ) →
    IsOne (Assertion15 config rows horizon now tree head relay p)
assertion_one config rows horizon now tree head relay p =
    staged_one (NoLogin tree p) (λ login. login_at tree p ≡ Some login) (Login23 config rows horizon now head relay)
    (λ v w a b. a.1 ∙ sym b.1) (none_too tree p) (some_one (login_at tree p))
    (λ login v w. some_one (login_refusal config rows horizon now head relay login) v w)

signature_one : (config : SpConfig) (rows : RowsView) (horizon now : ℕ) (tree : Nodes) (head : ResponseHead) (relay : Option (List ℕ)) (p : ℕ) →
    IsOne (Signature14 config rows horizon now tree head relay p)
signature_one config rows horizon now tree head relay p =
    staged_one (NoCover config now tree p) (λ (c : ℕ × Key). IsCovered (usable config now) tree p c.0 c.1)
    (λ _. Assertion15 config rows horizon now tree head relay p)
    (λ v w a b. some_one (of_signature b.0) v w (ap of_signature (sym (uncovered_one (usable config now) tree p a.0 b.0 v w a.1 b.1 a.2 b.2)) ∙ a.2) b.2)
    (not_covered_too config now tree p) (covered_one (usable config now) tree p) (λ _. assertion_one config rows horizon now tree head relay p)

head_one : (config : SpConfig) (rows : RowsView) (horizon now : ℕ) (tree : Nodes) (relay : Option (List ℕ)) (head : ResponseHead) →
    IsOne (Head10 config rows horizon now tree relay head)
head_one config rows horizon now tree relay head =
    staged_one (λ v. head_refusal head ≡ Some v) (Asserts head) (Signature14 config rows horizon now tree head relay)
    (some_one (head_refusal head)) (no_head_too head) (asserts_one head) (signature_one config rows horizon now tree head relay)

root_one : (config : SpConfig) (rows : RowsView) (horizon now : ℕ) (relay : Option (List ℕ)) (tree : Nodes) → IsOne (Root8 config rows horizon now relay tree)
root_one config rows horizon now relay tree =
    staged_one (NoResponse tree) (IsResponse tree 0) (Head10 config rows horizon now tree relay)
    (λ v w a b. a.1 ∙ sym b.1) (no_response_too tree) (one_response tree 0) (head_one config rows horizon now tree relay)

document_one : (config : SpConfig) (rows : RowsView) (horizon now : ℕ) (posted : List ℕ × Option (List ℕ)) → IsOne (Document7 config rows horizon now posted)
document_one config rows horizon now posted =
    staged_one (NoDocument posted.0) (IsSpelled posted.0) (Root8 config rows horizon now posted.1)
    (λ v w a b. some_one (of_document b.0) v w (ap of_document (sym (one_refusal posted.0 a.0 b.0 v w a.1 b.1 a.2 b.2)) ∙ a.2) b.2)
    (no_document_too posted.0) (λ s t a b. one_tree posted.0 s t a.spells b.spells) (root_one config rows horizon now posted.1)

form_one : (config : SpConfig) (rows : RowsView) (horizon now : ℕ) (body : List ℕ) → IsOne (Form3 config rows horizon now body)
form_one config rows horizon now body =
    staged_one (λ v. form_refusal (form body) ≡ Some v) (λ (posted : List ℕ × Option (List ℕ)). Posts body posted.0 posted.1)
    (Document7 config rows horizon now) (some_one (form_refusal (form body))) (no_form_too body) (posts_one body) (document_one config rows horizon now)

-- A REFUSAL COMES IN ITS STAGE

staged : (config : SpConfig) (rows : RowsView) (horizon now : ℕ) (body : List ℕ) (v : Verdict) → IsRefused config rows horizon now body v →
    Form3 config rows horizon now body v
staged config rows horizon now body v (by_form e) = inl e
staged config rows horizon now body v (by_document message relay fault p r e) = inr ((message, relay), p, inl (fault, r, e))
staged config rows horizon now body v (by_root message relay tree p s n e) = inr ((message, relay), p, inr (tree, s, inl (n, e)))
staged config rows horizon now body v (by_head c k e) = inr ((c.message, c.relay), k.posted, inr (c.tree, k.spelled, inr (c.head, k.response, inl e)))
staged config rows horizon now body v (by_signature c p fault k a u e) =
    inr ((c.message, c.relay), k.posted, inr (c.tree, k.spelled, inr (c.head, k.response, inr (p, a, inl (fault, u, e)))))
staged config rows horizon now body v (by_assertion c p e key k a covered none is) =
    inr ((c.message, c.relay), k.posted, inr (c.tree, k.spelled, inr (c.head, k.response, inr (p, a, inr ((e, key), covered, inl (none, is))))))
staged config rows horizon now body v (by_login b k e) =
    let c = b.carried in
    inr (
      (c.message, c.relay),
      k.carries.posted,
      inr (
        c.tree,
        k.carries.spelled,
        inr (
          c.head,
          k.carries.response,
          inr (b.p, k.asserts, inr ((b.e, b.key), k.covered, inr (b.login, k.read, e))),
        ),
      ),
    )

pub refused_once : (config : SpConfig) (rows : RowsView) (horizon now : ℕ) (body : List ℕ) (v w : Verdict) → IsRefused config rows horizon now body v →
    IsRefused config rows horizon now body w → v ≡ w
refused_once config rows horizon now body v w a b =
    form_one config rows horizon now body v w (staged config rows horizon now body v a) (staged config rows horizon now body w b)

-- WHAT OPENS A SESSION IS NOT REFUSED

four : (a b c d : Bool) → (a && b && c && d) ≡ true → (a ≡ true) × (b ≡ true) × (c ≡ true) × (d ≡ true)
four false b c d e = cc
four true false c d e = cc
four true true false d e = cc
four true true true false e = cc
four true true true true e = (refl, refl, refl, refl)

opens_login : (config : SpConfig) (rows : RowsView) (horizon now : ℕ) (body : List ℕ) (b : Brought) (asked : AskedRow) →
    Opens config rows horizon now body b asked → (v : Verdict) → Login23 config rows horizon now b.carried.head b.carried.relay b.login v → ⊥
opens_login config rows horizon now body b asked o v e =
    let head = b.carried.head in
    let row = asked_for rows horizon now b.login in
    let meant = four (is_from config head b.login) (is_for config b.login) (is_sent_to (consumer config) head b.login) (is_in_time config now b.login) o.meant in
    let outstanding : is_outstanding row head b.login ≡ true = subst (λ (r : Option AskedRow). is_outstanding r head b.login ≡ true) (sym o.request) o.outstanding in
    let relayed : is_relayed row b.carried.relay ≡ true = subst (λ (r : Option AskedRow). is_relayed r b.carried.relay ≡ true) (sym o.request) o.relayed in
    let none : login_refusal config rows horizon now head b.carried.relay b.login ≡ None =
    λ i. first_failing ((meant.0 i, verdicts.WrongIssuer) ∷ (meant.1 i, verdicts.WrongAudience) ∷ (meant.2 i, verdicts.WrongRecipient)
    ∷ (meant.3 i, verdicts.NotInTime) ∷ (outstanding i, verdicts.NotOutstanding) ∷ (o.unspent i, verdicts.RequestSpent)
    ∷ (o.unseen i, verdicts.AssertionSeen) ∷ (relayed i, verdicts.RelayDiffers) ∷ [])
    in
    let both : None ≡ Some v = sym none ∙ e in cc

pub opened_not_refused : (config : SpConfig) (rows : RowsView) (horizon now : ℕ) (body : List ℕ) (b : Brought) (asked : AskedRow) (v : Verdict) →
    Opens config rows horizon now body b asked → IsRefused config rows horizon now body v → ⊥
opened_not_refused config rows horizon now body b asked v o r =
    let c = b.carried in
    let k = o.brings in
    staged_none (λ v. form_refusal (form body) ≡ Some v) (λ (posted : List ℕ × Option (List ℕ)). Posts body posted.0 posted.1)
    (Document7 config rows horizon now) (no_form_too body) (posts_one body) (c.message, c.relay) k.carries.posted
    (staged_none (NoDocument c.message) (IsSpelled c.message) (Root8 config rows horizon now c.relay) (no_document_too c.message)
    (λ s t a b. one_tree c.message s t a.spells b.spells) c.tree k.carries.spelled
    (staged_none (NoResponse c.tree) (IsResponse c.tree 0) (Head10 config rows horizon now c.tree c.relay) (no_response_too c.tree) (one_response c.tree 0)
    c.head k.carries.response
    (staged_none (λ v. head_refusal c.head ≡ Some v) (Asserts c.head) (Signature14 config rows horizon now c.tree c.head c.relay) (no_head_too c.head)
    (asserts_one c.head) b.p k.asserts
    (staged_none (NoCover config now c.tree b.p) (λ (x : ℕ × Key). IsCovered (usable config now) c.tree b.p x.0 x.1)
    (λ _. Assertion15 config rows horizon now c.tree c.head c.relay b.p) (not_covered_too config now c.tree b.p) (covered_one (usable config now) c.tree b.p)
    (b.e, b.key) k.covered
    (staged_none (NoLogin c.tree b.p) (λ login. login_at c.tree b.p ≡ Some login) (Login23 config rows horizon now c.head c.relay) (none_too c.tree b.p)
    (some_one (login_at c.tree b.p)) b.login k.read (opens_login config rows horizon now body b asked o))))))
    v (staged config rows horizon now body v r)
