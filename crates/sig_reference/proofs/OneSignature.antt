-- What a signature says is determined by its element.
use Rattle.std.proofs.Common.{◌≡◌, ℕ, List, [], Some, refl, sym, ap, ◌∙◌, subst, inl, inr}
use Rattle.base64.specs.Engines.{standard}
use Rattle.base64.specs.GeneralPurpose.{encode_of, decode_of, IsConsistent}
use Rattle.base64.proofs.EngineFacts.{decode_of-encode_of}
use Rattle.xml_spec.specs.Tree.{Nodes}
use Rattle.tree_read.specs.Texts.{text_of}
use Rattle.tree_read.specs.Children.{element_children}
use Rattle.sig_reference.specs.Form.{words, Parts, IsPrefixList, IsCanonicalization, IsBase64, AreTransforms, IsReference, IsSignedInfo, IsSignature, HasForm, HasFirstForm}
use Rattle.sig_reference.proofs.Shapes.{first_is, behind_first, listed_by}

one_list : (tree : Nodes) (k : ℕ) (a b : List (List ℕ)) → IsPrefixList tree k a → IsPrefixList tree k b → a ≡ b
one_list tree k a b p q =
    let given : Some p.list ≡ Some q.list = sym p.given ∙ q.given in
    let same : p.list ≡ q.list = cc in
    p.words ∙ ap words same ∙ sym q.words

one_canonicalization : (tree : Nodes) (k : ℕ) (a b : List (List ℕ)) → IsCanonicalization tree k a → IsCanonicalization tree k b → a ≡ b
one_canonicalization tree k a b p q = elim p.listed [
  | inl none ↦ elim q.listed [
    | inl none' ↦ none.1 ∙ sym none'.1
    | inr lists ↦ absurd (let clash = sym none.0 ∙ lists.only in cc)
  ]
  | inr lists ↦ one_list tree lists.parameter a b lists.listed (listed_by tree k lists.parameter [] b lists.only q).1
]

is_consistent : IsConsistent standard
is_consistent = refl

one_base64 : (text a b : List ℕ) → IsBase64 text a → IsBase64 text b → a ≡ b
one_base64 text a b p q =
    let encoded : encode_of standard a ≡ encode_of standard b = sym p.encoded ∙ q.encoded in
    let decoded =
    sym (decode_of-encode_of standard a is_consistent p.valid) ∙ ap (decode_of standard) encoded
    ∙ decode_of-encode_of standard b is_consistent q.valid in
    cc

one_transforms : (tree : Nodes) (k : ℕ) (a b : List (List ℕ)) → AreTransforms tree k a → AreTransforms tree k b → a ≡ b
one_transforms tree k a b p q =
    let second = first_is (behind_first p.children q.children) refl in
    one_canonicalization tree p.second a b p.canonical (subst (λ (n : ℕ). IsCanonicalization tree n b) second q.canonical)

-- the parts agree on what the Reference says
record AgreeOnReference (p q : Parts) : Type 0 where
  prefixes : p.element_prefixes ≡ q.element_prefixes
  digest : p.digest ≡ q.digest
  uri : p.uri ≡ q.uri

one_reference : (tree : Nodes) (k : ℕ) (p q : Parts) → IsReference tree k p → IsReference tree k q → AgreeOnReference p q
one_reference tree k p q r s = record {
  prefixes =
      one_transforms tree r.transforms p.element_prefixes q.element_prefixes r.transformed
      (subst (λ (n : ℕ). AreTransforms tree n q.element_prefixes) (first_is s.children r.children) s.transformed);
  digest =
      one_base64 (text_of tree r.value) p.digest q.digest r.digest
      (subst (λ (n : ℕ). IsBase64 (text_of tree n) q.digest) (first_is (behind_first refl (behind_first r.children s.children)) refl) s.digest);
  uri = r.uri ∙ sym s.uri;
}

-- and on what SignedInfo says
record AgreeOnInfo (p q : Parts) : Type 0 where
  prefixes : p.info_prefixes ≡ q.info_prefixes
  reference : AgreeOnReference p q

one_info : (tree : Nodes) (p q : Parts) → p.signed_info ≡ q.signed_info → IsSignedInfo tree p → IsSignedInfo tree q → AgreeOnInfo p q
one_info tree p q here i j =
    let kids = ap (element_children tree) here ∙ j.children in
    record {
      prefixes =
          one_canonicalization tree i.canonicalization p.info_prefixes q.info_prefixes i.canonical
          (subst (λ (n : ℕ). IsCanonicalization tree n q.info_prefixes) (first_is kids i.children) j.canonical);
      reference =
          one_reference tree i.reference p q i.referred
          (subst (λ (n : ℕ). IsReference tree n q) (first_is (behind_first refl (behind_first i.children kids)) refl) j.referred);
    }

one_parts : (tree : Nodes) (p q : Parts) → p.signature ≡ q.signature → IsSignature tree p → IsSignature tree q → p ≡ q
one_parts tree p q here s t =
    let kids = ap (element_children tree) here ∙ t.children in
    let info = first_is s.children kids in
    let inner = one_info tree p q info s.info t.info in
    let tag =
    one_base64 (text_of tree s.value) p.tag q.tag s.tag
    (subst (λ (n : ℕ). IsBase64 (text_of tree n) q.tag) (first_is (behind_first s.children kids) refl) t.tag) in
    λ i. record {
      signature = here i;
      signed_info = info i;
      info_prefixes = inner.prefixes i;
      element_prefixes = inner.reference.prefixes i;
      uri = inner.reference.uri i;
      digest = inner.reference.digest i;
      tag = tag i;
    }

pub one_signature : (tree : Nodes) (e : ℕ) (p q : Parts) → HasForm tree e p → HasForm tree e q → p ≡ q
one_signature tree e p q f g =
    one_parts tree p q (first_is (behind_first g.children f.children) refl) f.signature g.signature

-- so is what a signature in front says
pub one_first_signature : (tree : Nodes) (e : ℕ) (p q : Parts) → HasFirstForm tree e p → HasFirstForm tree e q → p ≡ q
one_first_signature tree e p q f g = one_parts tree p q (first_is f.children g.children) f.signature g.signature
