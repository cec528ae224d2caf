-- The nodes of a signature that was made, and that they have the form of one.
use Rattle.std.proofs.Common.{◌≡◌, ℕ, suc, ◌+◌, List, [], ◌∷◌, codes, Some, refl, sym, ap, ◌∙◌, subst, inl}
use Rattle.std.proofs.lemmas.List.{append-nil}
use Rattle.xml_spec.specs.Tree.{Attribute, Nodes, NoNodes, Element, with_text}
use Rattle.xml_spec.specs.Numbering.{size}
use Rattle.xml_spec.specs.Names.{Scope, namespace_of, inner_scope}
use Rattle.element_make.specs.declared.names.Ns.TheVariants.{Ds}
use Rattle.element_make.specs.Made.{qualified}
use Rattle.tree_read.specs.Texts.{text_in, text_of}
use Rattle.sig_reference.specs.Algorithms.{exclusive, enveloped, hmac_sha256, sha256_digest}
use Rattle.saml_names.specs.Names.{ds_namespace}
use Rattle.tree_read.specs.Children.{child}
use Rattle.sig_reference.specs.Form.{Parts, IsMethod, IsCanonicalization, AreTransforms, IsReference, IsSignedInfo, IsSignature, IsBase64}
use Rattle.sig_reference.specs.Signature.{number_sign}
use Rattle.tree_read.proofs.Places.{Stands, some, first_kid, behind, kids_here, attribute_here, text_here}

abbrev pub own_element : List ℕ → List Attribute → Nodes → Nodes → Nodes
own_element local attributes kids rest = Element (qualified Ds local) attributes kids rest

abbrev pub method_nodes : List ℕ → List ℕ → Nodes → Nodes
method_nodes local algorithm rest = own_element local (record { name = codes "Algorithm"; value = algorithm } ∷ []) NoNodes rest

-- an element with a text
abbrev pub text_nodes : List ℕ → List ℕ → Nodes → Nodes
text_nodes local text rest = own_element local [] (with_text text NoNodes) rest

abbrev pub transforms_kids : Nodes
transforms_kids = method_nodes (codes "Transform") enveloped (method_nodes (codes "Transform") exclusive NoNodes)

abbrev pub digest_nodes : List ℕ → Nodes
digest_nodes digest = method_nodes (codes "DigestMethod") sha256_digest (text_nodes (codes "DigestValue") digest NoNodes)

abbrev pub reference_kids : List ℕ → Nodes
reference_kids digest = own_element (codes "Transforms") [] transforms_kids (digest_nodes digest)

abbrev pub reference_nodes : List ℕ → List ℕ → Nodes
reference_nodes id digest =
    own_element (codes "Reference") (record { name = codes "URI"; value = number_sign ∷ id } ∷ []) (reference_kids digest) NoNodes

abbrev pub info_kids : List ℕ → List ℕ → Nodes
info_kids id digest =
    method_nodes (codes "CanonicalizationMethod") exclusive (method_nodes (codes "SignatureMethod") hmac_sha256 (reference_nodes id digest))

-- the kids of a Signature with these texts of its DigestValue and SignatureValue
abbrev pub signature_kids : List ℕ → List ℕ → List ℕ → Nodes
signature_kids id digest tag = own_element (codes "SignedInfo") [] (info_kids id digest) (text_nodes (codes "SignatureValue") tag NoNodes)

text_alone : (text : List ℕ) → text_in (with_text text NoNodes) ≡ text
text_alone [] = refl
text_alone (b ∷ text) = append-nil (b ∷ text)

module _ (tree : Nodes) (inner : Scope) (bound : namespace_of inner (codes "ds") ≡ ds_namespace) where
  is_method : {k : ℕ} {local algorithm : List ℕ} {rest : Nodes} → Stands tree k inner (method_nodes local algorithm rest) → IsMethod tree k algorithm
  is_method here = record { given = attribute_here here (codes "Algorithm"); bare = kids_here here }

  is_canonicalization : {k : ℕ} {local : List ℕ} {rest : Nodes} → Stands tree k inner (method_nodes local exclusive rest) → IsCanonicalization tree k []
  is_canonicalization here = record { algorithm = attribute_here here (codes "Algorithm"); listed = inl (kids_here here, refl) }

  are_transforms : {k : ℕ} {rest : Nodes} → Stands tree k inner (own_element (codes "Transforms") [] transforms_kids rest) → AreTransforms tree k []
  are_transforms {k} here =
      let first = first_kid here (some _) in
      let second = behind first (some _) in
      record {
        first = suc k;
        second = suc (suc k + 0);
        children = kids_here here ∙ ap (λ n. child (suc k) (record { namespace = n; local = codes "Transform" }) ∷ child (suc (suc k + 0)) (record { namespace = n; local = codes "Transform" }) ∷ []) bound;
        without_signature = is_method first;
        canonical = is_canonicalization second;
      }

  is_text : {k : ℕ} {local text bytes : List ℕ} {rest : Nodes} → Stands tree k inner (text_nodes local text rest) → IsBase64 text bytes → IsBase64 (text_of tree k) bytes
  is_text {k} {local} {text} {bytes} here is = subst (λ x. IsBase64 x bytes) (sym (text_here here ∙ text_alone text)) is

  is_reference : {k : ℕ} (id text : List ℕ) (parts : Parts) → Stands tree k inner (reference_nodes id text) → parts.element_prefixes ≡ [] →
      parts.uri ≡ Some (number_sign ∷ id) → IsBase64 text parts.digest → IsReference tree k parts
  is_reference {k} id text parts here none uri digest =
      let transforms = first_kid here (some _) in
      let method = behind transforms (some _) in
      let value = behind method (some _) in
      let m = suc (suc k + size transforms_kids) in
      record {
        transforms = suc k;
        method = m;
        value = suc (m + 0);
        children = kids_here here ∙ ap (λ n. child (suc k) (record { namespace = n; local = codes "Transforms" }) ∷ child m (record { namespace = n; local = codes "DigestMethod" }) ∷ child (suc (m + 0)) (record { namespace = n; local = codes "DigestValue" }) ∷ []) bound;
        transformed = subst (AreTransforms tree (suc k)) (sym none) (are_transforms transforms);
        digested = is_method method;
        digest = is_text value digest;
        uri = uri ∙ sym (attribute_here here (codes "URI"));
      }

  is_signed_info : (id text : List ℕ) (parts : Parts) {rest : Nodes} → Stands tree parts.signed_info inner (own_element (codes "SignedInfo") [] (info_kids id text) rest) →
      parts.info_prefixes ≡ [] → parts.element_prefixes ≡ [] → parts.uri ≡ Some (number_sign ∷ id) → IsBase64 text parts.digest → IsSignedInfo tree parts
  is_signed_info id text parts here none_of_info none uri digest =
      let k = parts.signed_info in
      let canonicalization = first_kid here (some _) in
      let method = behind canonicalization (some _) in
      let reference = behind method (some _) in
      let m = suc (suc k + 0) in
      record {
        canonicalization = suc k;
        method = m;
        reference = suc (m + 0);
        children = kids_here here ∙ ap (λ n. child (suc k) (record { namespace = n; local = codes "CanonicalizationMethod" }) ∷ child m (record { namespace = n; local = codes "SignatureMethod" }) ∷ child (suc (m + 0)) (record { namespace = n; local = codes "Reference" }) ∷ []) bound;
        canonical = subst (IsCanonicalization tree (suc k)) (sym none_of_info) (is_canonicalization canonicalization);
        signed = is_method method;
        referred = is_reference id text parts reference none uri digest;
      }

-- the parts of a Signature that was made
abbrev pub made_parts : ℕ → List ℕ → List ℕ → List ℕ → Parts
made_parts k id digest tag = record {
  signature = k;
  signed_info = suc k;
  info_prefixes = [];
  element_prefixes = [];
  uri = Some (number_sign ∷ id);
  digest = digest;
  tag = tag;
}

-- what stands where a Signature was made is one
pub is_signature : (tree : Nodes) (k : ℕ) (scope : Scope) (attributes : List Attribute) (id digest_text tag_text digest tag : List ℕ) (rest : Nodes) →
    Stands tree k scope (own_element (codes "Signature") attributes (signature_kids id digest_text tag_text) rest) →
    namespace_of (inner_scope attributes scope) (codes "ds") ≡ ds_namespace → IsBase64 digest_text digest → IsBase64 tag_text tag →
    IsSignature tree (made_parts k id digest tag)
is_signature tree k scope attributes id digest_text tag_text digest tag rest here bound digest_is tag_is =
    let inner = inner_scope attributes scope in
    let info = first_kid here (some _) in
    let value = behind info (some _) in
    let v = suc (suc k + size (info_kids id digest_text)) in
    record {
      value = v;
      others = [];
      children = kids_here here ∙ ap (λ n. child (suc k) (record { namespace = n; local = codes "SignedInfo" }) ∷ child v (record { namespace = n; local = codes "SignatureValue" }) ∷ []) bound;
      key_info = inl refl;
      info = is_signed_info tree inner bound id digest_text (made_parts k id digest tag) info refl refl refl digest_is;
      tag = is_text tree inner bound value tag_is;
    }
