-- A signed element in a document of its own: its Signature has the form that is asked for, and its DigestValue is the
-- hash of the canonical form of what was signed, whatever the length of that.
use Rattle.std.proofs.Common.{◌≡◌, ℕ, suc, ◌+◌, ◌-◌, ◌<◌, false, ltb, if◌then◌else◌, List, [], ◌∷◌, ◌++◌, codes, None, Some, refl, sym, ap, ◌∙◌, subst, arith}
use Rattle.std.proofs.lemmas.Bool.{cond-true, cond-false, lt-ltb, le-ltb}
use Rattle.sha2.specs.Sha256.{sha256}
use Rattle.hmac_sha256.specs.Hmac.{hmac}
use Rattle.base64.specs.Engines.{standard}
use Rattle.base64.specs.GeneralPurpose.{encode_of}
use Rattle.xml_spec.specs.Tree.{Attribute, Nodes, NoNodes, Element}
use Rattle.xml_spec.specs.Numbering.{size, without_node}
use Rattle.xml_spec.specs.Names.{Scope, outermost, namespace_of, inner_scope, element_name}
use Rattle.xml_spec.specs.Document.{Spells}
use Rattle.xml_spec.specs.Canonical.{kept_element, canonical, canonical_nodes}
use Rattle.xml_spec.specs.Content.{content}
use Rattle.canon_laws.proofs.Equal.{equal_forms}
use Rattle.canon_laws.proofs.Spelling.{canonical_spelled}
use Rattle.element_make.specs.declared.names.Ns.{Ns}
use Rattle.element_make.specs.declared.names.Ns.TheVariants.{Saml, Samlp, Ds, Md}
use Rattle.element_make.specs.Made.{Made, MadeNodes, MadeElement, IsMade, qualified, declaration_in, nodes_of, tree_of, written}
use Rattle.element_make.specs.Writing.{by_name}
use Rattle.element_make.proofs.Named.{has_names}
use Rattle.element_make.proofs.Spelled.{tree_is_canonical, is_writable}
use Rattle.saml_names.specs.Names.{saml, ds, ds_namespace}
use Rattle.tree_read.specs.Children.{child, is_name, named, children, elements_of}
use Rattle.sig_reference.specs.Form.{Parts, HasForm, IsBase64}
use Rattle.sig_reference.specs.Signing.{id_of, signed, signed_info}
use Rattle.sig_reference.proofs.SignatureMade.{unsigned_made}
use Rattle.recorded_logins.proofs.Digests.{digest_base64, tag_base64}
use Rattle.recorded_logins.proofs.Placed.{Stands, some, first_kid, behind, kids_here}
use Rattle.recorded_logins.proofs.SignatureNodes.{own_element, signature_kids, made_parts, is_signature}

-- what is written of a made element spells its tree
pub spelled : (made : Made) → IsMade made → Spells (written made) (tree_of made)
spelled made is =
    subst (Spells (written made)) (tree_is_canonical made is)
    (canonical_spelled (tree_of made) 0 None [] refl tt (is_writable made is))

-- ---- names inside a root

-- the scope inside a root in this namespace
abbrev pub inside : Ns → List Attribute → Scope
inside ns attributes = inner_scope (declaration_in [] ns ++ by_name attributes) outermost

issuer_named : (ns : Ns) (attributes : List Attribute) →
    element_name (inner_scope (declaration_in (ns ∷ []) Saml ++ by_name []) (inside ns attributes))
    (qualified Saml (codes "Issuer"))
    ≡ saml (codes "Issuer")
issuer_named Saml attributes = refl
issuer_named Samlp attributes = refl
issuer_named Ds attributes = refl
issuer_named Md attributes = refl

signature_named : (ns : Ns) (attributes : List Attribute) →
    element_name (inner_scope (declaration_in (ns ∷ []) Ds ++ by_name []) (inside ns attributes))
    (qualified Ds (codes "Signature"))
    ≡ ds (codes "Signature")
signature_named Saml attributes = refl
signature_named Samlp attributes = refl
signature_named Ds attributes = refl
signature_named Md attributes = refl

signature_bound : (ns : Ns) (attributes : List Attribute) →
    namespace_of (inner_scope (declaration_in (ns ∷ []) Ds ++ by_name []) (inside ns attributes)) (codes "ds")
    ≡ ds_namespace
signature_bound Saml attributes = refl
signature_bound Samlp attributes = refl
signature_bound Ds attributes = refl
signature_bound Md attributes = refl

-- ---- the tree of a signed element

-- no element of a list that stands in this scope is a Signature
pub record HasNoSignature (scope : Scope) (nodes : Nodes) : Type 0 where
  pub none : (k : ℕ) → named (ds (codes "Signature")) (elements_of scope k nodes) ≡ []

-- the second child of an element is left out
without_second : (n m p : List ℕ) (a b c : List Attribute) (first second others : Nodes) →
    without_node (Element n a (Element m b first (Element p c second others)) NoNodes) (suc (suc (size first)))
    ≡ Element n a (Element m b first others) NoNodes
without_second n m p a b c first second others =
    let kids = Element m b first (Element p c second others) in
    let none : size first - size first ≡ 0 = omega arith in
    cond-true (ltb (suc (size first)) (size kids)) _ _ (lt-ltb (suc (size first)) (size kids) (omega arith))
    ∙ ap (λ k. Element n a k NoNodes)
    (cond-false (ltb (size first) (size first)) _ _ (le-ltb (size first) (size first) (omega arith))
    ∙ ap (λ k. Element m b first (without_node (Element p c second others) k)) none)

module _ (ns : Ns) (local : List ℕ) (attributes : List Attribute) (kids rest : MadeNodes)
    (id digest_text tag_text : List ℕ) where
  abbrev signature_nodes : Nodes
  signature_nodes =
      own_element (codes "Signature") (declaration_in (ns ∷ []) Ds ++ by_name [])
      (signature_kids id digest_text tag_text)
      (nodes_of (ns ∷ []) rest)

  -- an element whose kids begin with an Issuer
  abbrev with_issuer : Nodes → Nodes
  with_issuer others =
      Element (qualified ns local) (declaration_in [] ns ++ by_name attributes)
      (Element (qualified Saml (codes "Issuer")) (declaration_in (ns ∷ []) Saml ++ by_name [])
      (nodes_of (Saml ∷ ns ∷ []) kids) others) NoNodes

  -- the number of the Signature behind that
  abbrev place : ℕ
  place = suc (1 + size (nodes_of (Saml ∷ ns ∷ []) kids))

  -- without the Signature it is the element that was signed
  without_signature : kept_element (with_issuer signature_nodes) 0 (Some place) ≡ with_issuer (nodes_of (ns ∷ []) rest)
  without_signature =
      let number : place - 0 ≡ suc (suc (size (nodes_of (Saml ∷ ns ∷ []) kids))) = omega arith in
      ap (without_node (with_issuer signature_nodes)) number
      ∙ without_second (qualified ns local) (qualified Saml (codes "Issuer")) (qualified Ds (codes "Signature"))
      (declaration_in [] ns ++ by_name attributes) (declaration_in (ns ∷ []) Saml ++ by_name [])
      (declaration_in (ns ∷ []) Ds ++ by_name [])
      (nodes_of (Saml ∷ ns ∷ []) kids) (signature_kids id digest_text tag_text) (nodes_of (ns ∷ []) rest)

  form : (digest tag : List ℕ) → HasNoSignature (inside ns attributes) (nodes_of (ns ∷ []) rest) →
      IsBase64 digest_text digest → IsBase64 tag_text tag →
      HasForm (with_issuer signature_nodes) 0 (made_parts place id digest tag)
  form digest tag unsigned digest_is tag_is =
      let tree = with_issuer signature_nodes in
      let here : Stands tree 0 outermost tree = record { found = refl; inside = refl } in
      let signature : Stands tree place (inside ns attributes) signature_nodes =
      behind (first_kid here (some _)) (some _) in
      let end = suc (place + size (signature_kids id digest_text tag_text)) in
      record {
        issuer = 1;
        others = elements_of (inside ns attributes) end (nodes_of (ns ∷ []) rest);
        children =
            kids_here here
            ∙ (λ i. child 1 (issuer_named ns attributes i) ∷ child place (signature_named ns attributes i)
            ∷ elements_of (inside ns attributes) end (nodes_of (ns ∷ []) rest));
        only = unsigned.none end;
        signature =
            is_signature tree place (inside ns attributes) (declaration_in (ns ∷ []) Ds ++ by_name []) id
            digest_text tag_text digest tag (nodes_of (ns ∷ []) rest) signature (signature_bound ns attributes)
            digest_is tag_is;
      }

-- ---- its Signature

-- the Signature of a signed element, in the tree of that
pub record IsSignedAlone (key : List ℕ) (made : Made) : Type 0 where
  pub parts : Parts
  pub form : HasForm (tree_of (signed key made)) 0 parts
  pub behind : 0 < parts.signature
  pub digest : parts.digest
      ≡ sha256 (canonical (tree_of (signed key made)) 0 (Some parts.signature) parts.element_prefixes)
  pub same : canonical (tree_of (signed key made)) 0 (Some parts.signature) [] ≡ written made

-- an element with an Issuer in front, and without a Signature behind that
pub record IsSignable (made : Made) : Type 0 where
  pub kids : MadeNodes
  pub rest : MadeNodes
  pub begins : made.kids ≡ MadeElement Saml (codes "Issuer") [] kids rest
  pub unsigned : HasNoSignature (inside made.ns made.attributes) (nodes_of (made.ns ∷ []) rest)

-- an element of another name is passed over
pub passed : {scope : Scope} {name : List ℕ} {attributes : List Attribute} {kids rest : Nodes} →
    is_name (ds (codes "Signature")) (element_name (inner_scope attributes scope) name) ≡ false →
    HasNoSignature scope rest →
    HasNoSignature scope (Element name attributes kids rest)
passed {scope} {name} {attributes} {kids} {rest} other behind = record {
  none = λ k.
      let others = named (ds (codes "Signature")) (elements_of scope (suc (k + size kids)) rest) in
      ap (λ b. if b then k ∷ others else others) other ∙ behind.none (suc (k + size kids));
}

-- such an element has no Signature
pub none_signed : (made : Made) → IsSignable made → children (tree_of made) 0 (ds (codes "Signature")) ≡ []
none_signed made can =
    let kids : HasNoSignature (inside made.ns made.attributes)
    (nodes_of (made.ns ∷ []) (MadeElement Saml (codes "Issuer") [] can.kids can.rest)) =
    passed (ap (is_name (ds (codes "Signature"))) (issuer_named made.ns made.attributes)) can.unsigned in
    ap (λ (nodes : MadeNodes). children (tree_of (record made { kids = nodes })) 0 (ds (codes "Signature"))) can.begins
    ∙ kids.none 1

-- an element with an Issuer in front
abbrev with_front : Ns → (local : List ℕ) → List Attribute → (kids rest : MadeNodes) → Made
with_front ns local attributes kids rest = record {
  ns = ns;
  local = local;
  attributes = attributes;
  kids = MadeElement Saml (codes "Issuer") [] kids rest;
}

issued_alone : (key : List ℕ) (ns : Ns) (local : List ℕ) (attributes : List Attribute) (kids rest : MadeNodes) →
    HasNoSignature (inside ns attributes) (nodes_of (ns ∷ []) rest) →
    IsSignedAlone key (with_front ns local attributes kids rest)
issued_alone key ns local attributes kids rest unsigned =
    let made = with_front ns local attributes kids rest in
    let id = id_of made in
    let digest = sha256 (written made) in
    let tag = hmac key (written (signed_info id digest)) in
    let digest_text = encode_of standard digest in
    let tag_text = encode_of standard tag in
    let number = place ns local attributes kids rest id digest_text tag_text in
    let same : canonical (tree_of (signed key made)) 0 (Some number) [] ≡ written made =
    ap (λ nodes. canonical_nodes [] outermost [] nodes)
    (without_signature ns local attributes kids rest id digest_text tag_text) in
    record {
      parts = made_parts number id digest tag;
      form =
          form ns local attributes kids rest id digest_text tag_text digest tag unsigned (digest_base64 (written made))
          (tag_base64 key (written (signed_info id digest)));
      behind = some _;
      digest = ap sha256 (sym same);
      same = same;
    }

pub signed_alone : (key : List ℕ) (made : Made) → IsSignable made → IsSignedAlone key made
signed_alone key made can =
    subst (λ (nodes : MadeNodes). IsSignedAlone key (record made { kids = nodes })) (sym can.begins)
    (issued_alone key made.ns made.local made.attributes can.kids can.rest can.unsigned)

-- without its Signature it says what was signed
pub content_alone : (key : List ℕ) (made : Made) → IsMade (signed key made) → (a : IsSignedAlone key made) →
    content (tree_of (signed key made)) 0 (Some a.parts.signature) ≡ content (tree_of made) 0 None
content_alone key made is a =
    let inner = unsigned_made key made is in
    equal_forms (written (signed key made)) (written made) (tree_of (signed key made)) (tree_of made) 0 0
    (Some a.parts.signature) None [] []
    (spelled (signed key made) is) (has_names (signed key made) is) (spelled made inner) (has_names made inner)
    refl refl a.behind tt a.same
