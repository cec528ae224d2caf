-- A made element with its signature, where it stands in a tree: the signature has its form, its reference, its tag and its digest.
use Rattle.std.proofs.Common.{◌≡◌, ℕ, suc, ◌+◌, ◌-◌, true, ltb, List, [], ◌∷◌, ◌++◌, map, codes, Some, None, ap, ◌∙◌, arith}
use Rattle.std.specs.List.{AllByRecursion}
use Rattle.std.proofs.lemmas.Bool.{cond-true, cond-false, lt-ltb, le-ltb}
use Rattle.sha2.specs.Sha256.{sha256}
use Rattle.base64.specs.Engines.{standard}
use Rattle.base64.specs.GeneralPurpose.{encode_of}
use Rattle.xml_spec.specs.Characters.{IsText}
use Rattle.xml_spec.specs.Tree.{Attribute, Nodes, NoNodes, Element}
use Rattle.xml_spec.specs.Numbering.{size, without_node}
use Rattle.xml_spec.specs.Names.{Scope, AreDistinct, namespace_of, inner_scope}
use Rattle.xml_spec.specs.Canonical.{alone, kept_element, canonical, canonical_nodes}
use Rattle.element_make.specs.declared.names.Ns.{Ns}
use Rattle.element_make.specs.declared.names.Ns.TheVariants.{Saml, Ds}
use Rattle.element_make.specs.Made.{MadeNodes, qualified, declaration_in, nodes_of, written, value_of, IsMadeAttribute, AreMade}
use Rattle.element_make.specs.Writing.{by_name}
use Rattle.tree_read.specs.Texts.{attribute_text}
use Rattle.tree_read.specs.Texts as read
use Rattle.saml_names.specs.Names.{ds_namespace}
use Rattle.tree_read.specs.Children.{child, elements_of}
use Rattle.sig_reference.specs.Form.{HasForm, IsBase64}
use Rattle.sig_reference.specs.Signing.{has_no_signature, signed_info}
use Rattle.tree_read.proofs.Places.{Stands, some, first_kid, behind, kids_here, attribute_here, canonical_here}
use Rattle.sig_reference.proofs.SignatureMade.{info_made}
use Rattle.sig_reference.proofs.SignedNodes.{own_element, info_kids, signature_kids, made_parts, is_signature}
use Rattle.sig_reference.proofs.AnyScope.{proper_here, same_form}
use Rattle.sig_reference.proofs.MadeScopes.{Has, has_inside, own_bound}
use Rattle.sig_reference.proofs.MadeNames.{name_is, none_signed, value_read}

-- the second child of an element is left out
without_second : (n m p : List ℕ) (a b c : List Attribute) (first second others : Nodes) →
    without_node (Element n a (Element m b first (Element p c second others)) NoNodes) (suc (suc (size first)))
    ≡ Element n a (Element m b first others) NoNodes
without_second n m p a b c first second others =
    let kids = Element m b first (Element p c second others) in
    let none : size first - size first ≡ 0 = omega arith in
    cond-true (ltb (suc (size first)) (size kids)) _ _ (lt-ltb (suc (size first)) (size kids) (omega arith))
    ∙ ap (λ k. Element n a k NoNodes) (cond-false (ltb (size first) (size first)) _ _ (le-ltb (size first) (size first) (omega arith))
    ∙ ap (λ k. Element m b first (without_node (Element p c second others) k)) none)

-- an element whose kids begin with an Issuer and a Signature with these texts, inside elements that declare these namespaces
module _ (declared : List Ns) (ns : Ns) (local : List ℕ) (attributes given : List Attribute) (kids rest : MadeNodes) (id digest_text tag_text : List ℕ) where
  abbrev pub with_issuer : Nodes → Nodes → Nodes
  with_issuer others after =
      Element (qualified ns local) (declaration_in declared ns ++ by_name attributes)
      (Element (qualified Saml (codes "Issuer")) (declaration_in (ns ∷ declared) Saml ++ by_name given) (nodes_of (Saml ∷ ns ∷ declared) kids) others) after

  abbrev signature_nodes : Nodes
  signature_nodes = own_element (codes "Signature") (declaration_in (ns ∷ declared) Ds ++ by_name []) (signature_kids id digest_text tag_text) (nodes_of (ns ∷ declared) rest)

  abbrev pub with_signature : Nodes → Nodes
  with_signature after = with_issuer signature_nodes after

  -- the number of the Signature, where this is that of the element
  abbrev pub place : ℕ → ℕ
  place e = suc (suc e + size (nodes_of (Saml ∷ ns ∷ declared) kids))

  module _ (tree : Nodes) (e : ℕ) (scope : Scope) (after : Nodes) (here : Stands tree e scope (with_signature after)) (has : Has declared scope) where
    -- without the Signature it is the element that was signed
    pub without_signature : kept_element tree e (Some (place e)) ≡ with_issuer (nodes_of (ns ∷ declared) rest) NoNodes
    without_signature =
        let number : place e - e ≡ suc (suc (size (nodes_of (Saml ∷ ns ∷ declared) kids))) = omega arith in
        ap (λ nodes. without_node (alone nodes) (place e - e)) here.found
        ∙ ap (without_node (with_signature NoNodes)) number
        ∙ without_second (qualified ns local) (qualified Saml (codes "Issuer")) (qualified Ds (codes "Signature"))
        (declaration_in declared ns ++ by_name attributes) (declaration_in (ns ∷ declared) Saml ++ by_name given) (declaration_in (ns ∷ declared) Ds ++ by_name [])
        (nodes_of (Saml ∷ ns ∷ declared) kids) (signature_kids id digest_text tag_text) (nodes_of (ns ∷ declared) rest)

    abbrev inner : Scope
    inner = inner_scope (declaration_in declared ns ++ by_name attributes) scope

    module _ (made : AllByRecursion IsMadeAttribute attributes) where
      inside : Has (ns ∷ declared) inner
      inside = has_inside declared scope has ns attributes made

      signature_here : Stands tree (place e) inner signature_nodes
      signature_here = behind (first_kid here (some _)) (some _)

      abbrev in_signature : Scope
      in_signature = inner_scope (declaration_in (ns ∷ declared) Ds ++ by_name []) inner

      signature_bound : namespace_of in_signature (codes "ds") ≡ ds_namespace
      signature_bound = own_bound (ns ∷ declared) inner inside Ds [] tt

      pub form : (digest tag : List ℕ) → AllByRecursion IsMadeAttribute given → AreMade rest → has_no_signature rest ≡ true → IsBase64 digest_text digest →
          IsBase64 tag_text tag → HasForm tree e (made_parts (place e) id digest tag)
      form digest tag made_issuer made_rest unsigned digest_is tag_is =
          let end = suc (place e + size (signature_kids id digest_text tag_text)) in
          record {
            issuer = suc e;
            others = elements_of inner end (nodes_of (ns ∷ declared) rest);
            children =
                kids_here here
                ∙ (λ i. child (suc e) (name_is (ns ∷ declared) inner inside Saml (codes "Issuer") given made_issuer i)
                ∷ child (place e) (name_is (ns ∷ declared) inner inside Ds (codes "Signature") [] tt i)
                ∷ elements_of inner end (nodes_of (ns ∷ declared) rest));
            only = none_signed (ns ∷ declared) inner inside rest made_rest unsigned end;
            signature =
                is_signature tree (place e) inner (declaration_in (ns ∷ declared) Ds ++ by_name []) id digest_text tag_text digest tag (nodes_of (ns ∷ declared) rest)
                signature_here signature_bound digest_is tag_is;
          }

      -- its ID is the one that was given
      pub id_read : AreDistinct (map (λ (a : Attribute). a.name) attributes) → attribute_text tree e (codes "ID") ≡ value_of (codes "ID") attributes
      id_read distinct =
          attribute_here here (codes "ID") ∙ ap (read.value_of (codes "ID")) (proper_here declared scope has ns local attributes made)
          ∙ value_read (codes "ID") attributes made distinct

      -- its SignedInfo has the form of a SignedInfo alone
      pub info_canonical : (bytes : List ℕ) → digest_text ≡ encode_of standard (sha256 bytes) → IsText id →
          canonical tree (suc (place e)) None [] ≡ written (signed_info id (sha256 bytes))
      info_canonical bytes same is =
          canonical_here (first_kid signature_here (some _))
          ∙ ap (λ (text : List ℕ). canonical_nodes [] in_signature [] (own_element (codes "SignedInfo") [] (info_kids id text) NoNodes)) same
          ∙ same_form (signed_info id (sha256 bytes)) (Ds ∷ ns ∷ declared) in_signature (has_inside (ns ∷ declared) inner inside Ds [] tt) (info_made id bytes is)
