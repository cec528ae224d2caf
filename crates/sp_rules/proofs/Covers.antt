-- Which signatures cover an assertion.
use Rattle.std.proofs.Common.{◌≡◌, ℕ, Bool, true, false, cond, List, [], ◌∷◌, ◌++◌, ◌⊎◌, Some, codes, inl, inr, sym, ◌∙◌, ap, subst, arith}
use Rattle.std.specs.List.{AllByRecursion}
use Rattle.xml_spec.specs.Tree.{Nodes}
use Rattle.saml_names.specs.Names.{saml}
use Rattle.tree_read.specs.Children.{children}
use Rattle.saml_tree.specs.Documents.{DocumentView}
use Rattle.saml_tree.specs.Elements.{IsElement}
use Rattle.saml_tree.specs.declared.node.NodeNo.{NodeNo}
use Rattle.sig_reference.specs.Vouching.{VouchedView, IsIn}
use Rattle.sig_reference.specs.declared.fault.SigFault.{SigFault}
use Rattle.assertion_model.specs.Parts.{own_signature}
use Rattle.assertion_model.specs.Places.{IsPartOf}
use Rattle.assertion_model.proofs.ApartLemmas.{children_are_parts}
use Rattle.sp_rules.specs.Keys.{Key}
use Rattle.sp_rules.specs.declared.cover.Verified.{Verified}
use Rattle.sp_rules.specs.Views.{IsVerifiedWith, IsCoverOf}
use Rattle.sp_rules.specs.Covering.{is_signed, if_signed, signed_of, IsVerified, IsUnverified, IsCovered, IsFirstUnverified, IsUncovered}

-- THE ONE ASSERTION LIES IN THE RESPONSE

pub itself : (tree : Nodes) (n : ℕ) → IsIn tree n n
itself tree n = record { from = omega arith; to = omega arith }

pub part_of_response : (tree : Nodes) (p : ℕ) → children tree 0 (saml (codes "Assertion")) ≡ p ∷ [] → IsPartOf tree 0 p
part_of_response tree p one =
    let parts : AllByRecursion (IsPartOf tree 0) (p ∷ []) = subst (AllByRecursion (IsPartOf tree 0)) one (children_are_parts tree 0 (codes "Assertion")) in
    parts.0

pub in_response : (tree : Nodes) (p : ℕ) → children tree 0 (saml (codes "Assertion")) ≡ p ∷ [] → IsIn tree 0 p
in_response tree p one = let part = part_of_response tree p one in part.inside p (itself tree p)

pub outside_signature : (tree : Nodes) (p s : ℕ) → children tree 0 (saml (codes "Assertion")) ≡ p ∷ [] → own_signature tree 0 ≡ Some s → ¬ (IsIn tree s p)
outside_signature tree p s one is =
    let part = part_of_response tree p one in
    let apart = part.apart p s (itself tree p) is in
    apart.first

-- WHAT IS SIGNED

signed_is : (tree : Nodes) (e : ℕ) → is_signed tree e ≡ true → if_signed tree e ≡ e ∷ []
signed_is tree e s = ap (λ b. cond b (e ∷ []) []) s

unsigned_is : (tree : Nodes) (e : ℕ) → is_signed tree e ≡ false → if_signed tree e ≡ []
unsigned_is tree e s = ap (λ b. cond b (e ∷ []) []) s

pub response_first : (tree : Nodes) (p : ℕ) → is_signed tree 0 ≡ true → signed_of tree p ≡ 0 ∷ if_signed tree p
response_first tree p s = ap (λ (es : List ℕ). es ++ if_signed tree p) (signed_is tree 0 s)

pub assertion_alone : (tree : Nodes) (p : ℕ) → is_signed tree 0 ≡ false → signed_of tree p ≡ if_signed tree p
assertion_alone tree p s = ap (λ (es : List ℕ). es ++ if_signed tree p) (unsigned_is tree 0 s)

-- THE RESPONSE IS SIGNED

pub both_cover : (keys : List Key) (tree : Nodes) (p : ℕ) (key other : Key) → is_signed tree 0 ≡ true → is_signed tree p ≡ true →
    IsVerified keys tree 0 key → IsVerified keys tree p other → IsCovered keys tree p 0 key
both_cover keys tree p key other r a v w = record {
  others = p ∷ [];
  signed = response_first tree p r ∙ ap (λ es. 0 ∷ es) (signed_is tree p a);
  first = v;
  rest = ((other, w), tt);
}

pub response_covers : (keys : List Key) (tree : Nodes) (p : ℕ) (key : Key) → is_signed tree 0 ≡ true → is_signed tree p ≡ false →
    IsVerified keys tree 0 key → IsCovered keys tree p 0 key
response_covers keys tree p key r a v = record {
  others = [];
  signed = response_first tree p r ∙ ap (λ es. 0 ∷ es) (unsigned_is tree p a);
  first = v;
  rest = tt;
}

pub response_unverified : (keys : List Key) (tree : Nodes) (p : ℕ) (fault : SigFault) → is_signed tree 0 ≡ true → IsUnverified keys tree 0 fault →
    IsUncovered keys tree p fault
response_unverified keys tree p fault r u = inr (subst (λ es. IsFirstUnverified keys tree es fault) (sym (response_first tree p r)) (inl u))

pub assertion_unverified_too : (keys : List Key) (tree : Nodes) (p : ℕ) (key : Key) (fault : SigFault) → is_signed tree 0 ≡ true → is_signed tree p ≡ true →
    IsVerified keys tree 0 key → IsUnverified keys tree p fault → IsUncovered keys tree p fault
assertion_unverified_too keys tree p key fault r a v u =
    inr (subst (λ es. IsFirstUnverified keys tree es fault) (sym (response_first tree p r ∙ ap (λ es. 0 ∷ es) (signed_is tree p a)))
    (inr ((key, v), inl u)))

-- THE ASSERTION ALONE IS SIGNED

pub assertion_covers : (keys : List Key) (tree : Nodes) (p : ℕ) (key : Key) → is_signed tree 0 ≡ false → is_signed tree p ≡ true →
    IsVerified keys tree p key → IsCovered keys tree p p key
assertion_covers keys tree p key r a v = record {
  others = [];
  signed = assertion_alone tree p r ∙ signed_is tree p a;
  first = v;
  rest = tt;
}

pub assertion_unverified : (keys : List Key) (tree : Nodes) (p : ℕ) (fault : SigFault) → is_signed tree 0 ≡ false → is_signed tree p ≡ true →
    IsUnverified keys tree p fault → IsUncovered keys tree p fault
assertion_unverified keys tree p fault r a u =
    inr (subst (λ es. IsFirstUnverified keys tree es fault) (sym (assertion_alone tree p r ∙ signed_is tree p a)) (inl u))

-- NOTHING IS SIGNED

-- WHICH ELEMENT IS THE FIRST

-- the first that is signed is the response or the assertion
pub first_is : (keys : List Key) (tree : Nodes) (p e : ℕ) (key : Key) → IsCovered keys tree p e key → (e ≡ 0) ⊎ (e ≡ p)
first_is keys tree p e key covered = by_tests (is_signed tree 0) (is_signed tree p) covered.signed
  where
    by_tests : (r a : Bool) → cond r (0 ∷ []) [] ++ cond a (p ∷ []) [] ≡ e ∷ covered.others → (e ≡ 0) ⊎ (e ≡ p)
    by_tests true a h = inl (cc)
    by_tests false true h = inr (cc)
    by_tests false false h = absurd (cc)

-- WHAT THE CODE FINDS. The response stands at node r, which is 0, in document d; the assertion, at node p, stands in a, which is d.

pub response_fails : (keys : List Key) (tree : Nodes) (p r : ℕ) (fault : SigFault) → r ≡ 0 → is_signed tree 0 ≡ true → IsUnverified keys tree r fault →
    IsUncovered keys tree p fault
response_fails keys tree p r fault top signed u =
    response_unverified keys tree p fault signed (subst (λ n. IsUnverified keys tree n fault) top u)

pub assertion_fails : (keys : List Key) (d a : DocumentView) (p r : ℕ) (verified : Verified) (fault : SigFault) → a ≡ d → r ≡ 0 →
    is_signed d.tree 0 ≡ true → is_signed a.tree p ≡ true → IsVerifiedWith keys d r verified → IsUnverified keys a.tree p fault →
    IsUncovered keys d.tree p fault
assertion_fails keys d a p r verified fault same top signed own v u =
    assertion_unverified_too keys d.tree p v.key fault signed (subst (λ (x : DocumentView). is_signed x.tree p ≡ true) same own)
    (subst (λ n. IsVerified keys d.tree n v.key) top v.is) (subst (λ (x : DocumentView). IsUnverified keys x.tree p fault) same u)

pub stands_inside : (keys : List Key) (d : DocumentView) (p r : ℕ) (verified : Verified) → r ≡ 0 → IsVerifiedWith keys d r verified →
    children d.tree 0 (saml (codes "Assertion")) ≡ p ∷ [] → IsIn verified.vouched.document.tree verified.vouched.node p
stands_inside keys d p r verified top v one =
    subst (λ (at : DocumentView × ℕ). IsIn at.0.tree at.1 p) (λ i. (sym v.place i, sym (v.node ∙ top) i)) (in_response d.tree p one)

pub stands_outside : (keys : List Key) (d : DocumentView) (p r : ℕ) (verified : Verified) → r ≡ 0 → IsVerifiedWith keys d r verified →
    children d.tree 0 (saml (codes "Assertion")) ≡ p ∷ [] → ¬ (IsIn verified.vouched.document.tree verified.vouched.signature p)
stands_outside keys d p r verified top v one =
    let own : own_signature d.tree 0 ≡ Some verified.vouched.signature = subst (λ n. own_signature d.tree n ≡ Some verified.vouched.signature) top v.own in
    subst (λ (x : DocumentView). ¬ (IsIn x.tree verified.vouched.signature p)) (sym v.place) (outside_signature d.tree p verified.vouched.signature one own)

pub cover_is : (keys : List Key) (d : DocumentView) (p : ℕ) (verified : Verified) (first signature : NodeNo) (assertion : VouchedView) →
    IsVerifiedWith keys d first.0 verified → ((key : Key) → IsVerified keys d.tree first.0 key → IsCovered keys d.tree p first.0 key) →
    assertion ≡ record { document = verified.vouched.document; node = p; signature = verified.vouched.signature } →
    signature.0 ≡ verified.vouched.signature → IsElement d.tree first.0 → IsElement verified.vouched.document.tree verified.vouched.signature →
    IsCoverOf keys d p (record { assertion = assertion; first = first; signature = signature; key = verified.key })
cover_is keys d p verified first signature assertion v covers is number element signature_element = record {
  key = v.key;
  covered = covers v.key v.is;
  number = v.number;
  place = ap (λ (x : VouchedView). x.document) is ∙ v.place;
  node = ap (λ (x : VouchedView). x.node) is;
  own = v.own ∙ ap Some (sym number);
  same = ap (λ (x : VouchedView). x.signature) is ∙ sym number;
  first_element = element;
  signature_element = subst (λ (at : DocumentView × ℕ). IsElement at.0.tree at.1) (λ i. (v.place i, sym number i)) signature_element;
}

-- both are signed, and both are verified
pub both_at : (keys : List Key) (d a : DocumentView) (p r : ℕ) (other : Verified) → a ≡ d → r ≡ 0 → is_signed d.tree 0 ≡ true → is_signed a.tree p ≡ true →
    IsVerifiedWith keys a p other → (key : Key) → IsVerified keys d.tree r key → IsCovered keys d.tree p r key
both_at keys d a p r other same top signed own w key v =
    subst (λ n. IsCovered keys d.tree p n key) (sym top)
    (both_cover keys d.tree p key w.key signed (subst (λ (x : DocumentView). is_signed x.tree p ≡ true) same own)
    (subst (λ n. IsVerified keys d.tree n key) top v) (subst (λ (x : DocumentView). IsVerified keys x.tree p w.key) same w.is))

pub response_at : (keys : List Key) (d a : DocumentView) (p r : ℕ) → a ≡ d → r ≡ 0 → is_signed d.tree 0 ≡ true → is_signed a.tree p ≡ false →
    (key : Key) → IsVerified keys d.tree r key → IsCovered keys d.tree p r key
response_at keys d a p r same top signed own key v =
    subst (λ n. IsCovered keys d.tree p n key) (sym top)
    (response_covers keys d.tree p key signed (subst (λ (x : DocumentView). is_signed x.tree p ≡ false) same own) (subst (λ n. IsVerified keys d.tree n key) top v))

-- the assertion alone is signed
pub alone_fails : (keys : List Key) (d a : DocumentView) (p r : ℕ) (fault : SigFault) → a ≡ d → r ≡ 0 → is_signed d.tree r ≡ false → is_signed a.tree p ≡ true →
    IsUnverified keys a.tree p fault → IsUncovered keys d.tree p fault
alone_fails keys d a p r fault same top signed own u =
    assertion_unverified keys d.tree p fault (subst (λ n. is_signed d.tree n ≡ false) top signed) (subst (λ (x : DocumentView). is_signed x.tree p ≡ true) same own)
    (subst (λ (x : DocumentView). IsUnverified keys x.tree p fault) same u)

pub alone_covers : (keys : List Key) (d a : DocumentView) (p r : ℕ) → a ≡ d → r ≡ 0 → is_signed d.tree r ≡ false → is_signed a.tree p ≡ true →
    (key : Key) → IsVerified keys d.tree p key → IsCovered keys d.tree p p key
alone_covers keys d a p r same top signed own key v =
    assertion_covers keys d.tree p key (subst (λ n. is_signed d.tree n ≡ false) top signed) (subst (λ (x : DocumentView). is_signed x.tree p ≡ true) same own) v

pub moved : (keys : List Key) (d a : DocumentView) (p : ℕ) (verified : Verified) → a ≡ d → IsVerifiedWith keys a p verified → IsVerifiedWith keys d p verified
moved keys d a p verified same v = subst (λ x. IsVerifiedWith keys x p verified) same v

pub vouched_is : (keys : List Key) (d : DocumentView) (p : ℕ) (verified : Verified) → IsVerifiedWith keys d p verified →
    verified.vouched ≡ record { document = verified.vouched.document; node = p; signature = verified.vouched.signature }
vouched_is keys d p verified v = λ i. record { document = verified.vouched.document; node = v.node i; signature = verified.vouched.signature }
