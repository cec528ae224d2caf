-- The login of a signed element, and that of the one Assertion in a signed Response.
use Rattle.std.proofs.Common.{◌≡◌, ℕ, suc, ◌+◌, Bool, true, false, List, [], ◌∷◌, ◌++◌, codes, None, Some, refl, sym, ap, ◌∙◌, subst, arith}
use Rattle.std.specs.List.{AllByRecursion}
use Rattle.xml_spec.specs.Tree.{Attribute, Nodes, NoNodes, Element, with_text}
use Rattle.xml_spec.specs.Numbering.{size}
use Rattle.xml_spec.specs.Document.{Spells}
use Rattle.xml_spec.specs.Content.{content}
use Rattle.saml_names.specs.Names.{saml}
use Rattle.saml_names.specs.Uris.{success}
use Rattle.tree_read.specs.Children.{children}
use Rattle.element_make.specs.declared.names.Ns.TheVariants.{Saml, Samlp, Ds}
use Rattle.element_make.specs.Made.{Made, MadeNodes, NothingMade, IsMade, alone, joined, nodes_of, qualified, declaration_in, tree_of, written}
use Rattle.element_make.specs.Writing.{by_name}
use Rattle.sig_reference.specs.Placing.{Around, Beside, filled, place_in}
use Rattle.sig_reference.specs.Signing.{id_of, signature, signed, signed_info}
use Rattle.sha2.specs.Sha256.{sha256}
use Rattle.assertion_model.specs.Contents.{first}
use Rattle.assertion_model.specs.Login as said
use Rattle.assertion_model.specs.Login.{login}
use Rattle.assertion_model.specs.Assertion.{IsAssertionOf}
use Rattle.assertion_model.specs.Parts.{login_at}
use Rattle.assertion_model.proofs.PlaceLemmas.{IsElementIn, children_in}
use Rattle.assertion_model.proofs.SkipLemmas.{login_is}
use Rattle.protocol_messages.specs.Making.{issuer_made, response, status_code_made, succeeded}
use Rattle.idp_answers.specs.Answers.{signed_if}
use Rattle.ledger_records.specs.declared.idp_record.Issued.{Issued}
use Rattle.login_origin.proofs.Shown.{login_of_child, own_of_form, same_part}
use Rattle.idp_server.specs.Logins.{login_of}
use Rattle.recorded_logins.proofs.Alone.{IsSignedAlone, spelled, content_alone, none_signed, signed_alone}
use Rattle.recorded_logins.proofs.Shapes.{assertion_signable, assertion_with, IsAssertion}

-- ---- an Assertion alone

signed_login : (key : List ℕ) (made : Made) → IsMade (signed key made) → (a : IsSignedAlone key made) →
    login_at (tree_of (signed key made)) 0 ≡ login (content (tree_of made) 0 None)
signed_login key made is a =
    ap (λ o. login (content (tree_of (signed key made)) 0 o)) (own_of_form (tree_of (signed key made)) 0 a.parts a.form)
    ∙ ap login (content_alone key made is a)

unsigned_login : (issuer : List ℕ) (r : Issued) (made : Made) → IsAssertionOf (login_of issuer r) made →
    login_at (tree_of made) 0 ≡ login (content (tree_of made) 0 None)
unsigned_login issuer r made is =
    ap (λ numbers. login (content (tree_of made) 0 (first numbers)))
    (none_signed made (assertion_signable issuer r made is))

-- an Assertion of an issued record, signed or not, says what it was made of
pub login_alone : (issuer : List ℕ) (r : Issued) (b : Bool) (key : List ℕ) (made : Made) →
    IsAssertionOf (login_of issuer r) made →
    IsMade (signed_if b key made) → login_at (tree_of (signed_if b key made)) 0 ≡ login (content (tree_of made) 0 None)
login_alone issuer r true key made of is =
    signed_login key made is (signed_alone key made (assertion_signable issuer r made of))
login_alone issuer r false key made of is = unsigned_login issuer r made of

-- ---- an Assertion in a Response

-- what was put into another element says the same there
abbrev pub PutInside : Type 0
PutInside =
    (around : Around) (outer made : Made) (tree : Nodes) → outer.kids ≡ filled around made → IsMade outer →
    Spells (written outer) tree →
    content tree (place_in outer around) None ≡ content (tree_of made) 0 None

-- the Assertion is the only one, behind the Issuer, the Signature and the Status
one_behind : (attributes given : List Attribute) (issuer signature status inside : Nodes) →
    children (Element (qualified Samlp (codes "Response")) (declaration_in [] Samlp ++ by_name attributes)
    (Element (qualified Saml (codes "Issuer")) (declaration_in (Samlp ∷ []) Saml ++ by_name []) issuer
    (Element (qualified Ds (codes "Signature")) (declaration_in (Samlp ∷ []) Ds ++ by_name []) signature
    (Element (qualified Samlp (codes "Status")) (declaration_in (Samlp ∷ []) Samlp ++ by_name []) status
    (Element (qualified Saml (codes "Assertion")) (declaration_in (Samlp ∷ []) Saml ++ by_name given) inside NoNodes))))
    NoNodes) 0 (saml (codes "Assertion")) ≡ suc (suc (suc (1 + size issuer) + size signature) + size status) ∷ []
one_behind attributes given issuer signature status inside = refl

same_number : (a b c : ℕ) → suc (suc (suc (1 + a) + b) + c) ≡ 1 + suc (a + suc (b + suc (c + 0)))
same_number a b c = omega arith

module _ (key id issuer destination request at own issued : List ℕ) (kids : MadeNodes) where
  abbrev one_held : Made
  one_held = assertion_with own issued kids

  abbrev unsigned : Made
  unsigned = response id issuer destination request (Some one_held) at

  abbrev outer : Made
  outer = signed key unsigned

  abbrev around : Around
  around =
      Beside (joined (issuer_made issuer)
      (joined (alone (signature key (signed_info (id_of unsigned) (sha256 (written unsigned))))) succeeded))
      NothingMade

  one : children (tree_of outer) 0 (saml (codes "Assertion")) ≡ place_in outer around ∷ []
  one =
      let issuer_nodes = with_text issuer NoNodes in
      let signature_nodes =
      nodes_of (Ds ∷ Samlp ∷ []) (signature key (signed_info (id_of unsigned) (sha256 (written unsigned)))).kids in
      let status_nodes = nodes_of (Samlp ∷ Samlp ∷ []) (status_code_made success NothingMade) in
      one_behind unsigned.attributes one_held.attributes issuer_nodes signature_nodes status_nodes
      (nodes_of (Saml ∷ Samlp ∷ []) kids)
      ∙ ap (λ n. n ∷ []) (same_number (size issuer_nodes) (size signature_nodes) (size status_nodes))

  inside_so : PutInside → IsMade outer → (p : ℕ) → children (tree_of outer) 0 (saml (codes "Assertion")) ≡ p ∷ [] →
      login_at (tree_of outer) p ≡ login_at (tree_of one_held) 0
  inside_so law is p only =
      let tree = tree_of outer in
      let place = place_in outer around in
      let both : p ∷ [] ≡ place ∷ [] = sym only ∙ one in
      let same : p ≡ place = cc in
      let there : IsElementIn tree 0 place × AllByRecursion (IsElementIn tree 0) [] =
      subst (AllByRecursion (IsElementIn tree 0)) one (children_in tree 0 (saml (codes "Assertion"))) in
      let contents : content tree place None ≡ content (tree_of one_held) 0 None =
      law around outer one_held tree refl is (spelled outer is) in
      ap (login_at tree) same ∙ login_of_child tree 0 place one
      ∙ ap said.login_of (same_part tree (tree_of one_held) place 0 there.0.element refl contents)
      ∙ sym (login_is (tree_of one_held) 0 refl)

pub login_inside : PutInside → (key id issuer destination request at : List ℕ) (held : Made) → IsAssertion held →
    IsMade (signed key (response id issuer destination request (Some held) at)) → (p : ℕ) →
    children (tree_of (signed key (response id issuer destination request (Some held) at))) 0 (saml (codes "Assertion"))
    ≡ p ∷ [] →
    login_at (tree_of (signed key (response id issuer destination request (Some held) at))) p
    ≡ login_at (tree_of held) 0
login_inside law key id issuer destination request at held a =
    subst (λ (h : Made). IsMade (signed key (response id issuer destination request (Some h) at)) → (p : ℕ) →
    children (tree_of (signed key (response id issuer destination request (Some h) at))) 0 (saml (codes "Assertion"))
    ≡ p ∷ [] →
    login_at (tree_of (signed key (response id issuer destination request (Some h) at))) p ≡ login_at (tree_of h) 0)
    (sym a.is)
    (inside_so key id issuer destination request at a.id a.issued a.kids law)

-- there is just one
pub one_assertion : (key id issuer destination request at : List ℕ) (held : Made) → IsAssertion held →
    (p : ℕ) × (children (tree_of (signed key (response id issuer destination request (Some held) at))) 0
    (saml (codes "Assertion")) ≡ p ∷ [])
one_assertion key id issuer destination request at held a =
    subst (λ (h : Made). (p : ℕ) ×
    (children (tree_of (signed key (response id issuer destination request (Some h) at))) 0 (saml (codes "Assertion"))
    ≡ p ∷ [])) (sym a.is)
    (_, one key id issuer destination request at a.id a.issued a.kids)

-- what is inside a made Response is made
pub inside_made : (key id issuer destination request at : List ℕ) (held : Made) →
    IsMade (signed key (response id issuer destination request (Some held) at)) → IsMade held
inside_made key id issuer destination request at held is = is.3.4.4.4
