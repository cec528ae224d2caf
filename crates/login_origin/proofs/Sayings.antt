-- The login that the content of a signed element says: that of an Assertion, or of the one Assertion of a Response.
use Rattle.std.proofs.Common.{◌≡◌, ℕ, Bool, true, false, List, [], ◌∷◌, map, codes, Option, None, Some, refl, sym, ap, ◌∙◌, inl, inr}
use Rattle.std.specs.Option.{option_and_then}
use Rattle.xml_spec.specs.Tree.{Nodes}
use Rattle.xml_spec.specs.Content.{Contents, content}
use Rattle.saml_names.specs.Names.{saml, samlp}
use Rattle.saml_tree.specs.Elements.{IsElement}
use Rattle.tree_read.specs.Children.{is_name, children}
use Rattle.tree_read.specs.Walk.{name_of_node}
use Rattle.assertion_model.specs.declared.login.Login.{Login}
use Rattle.assertion_model.specs.Contents.{only}
use Rattle.assertion_model.specs.Login.{where_holds, login_of, login}
use Rattle.assertion_model.specs.Parts.{part_at, own_signature, login_at}
use Rattle.assertion_model.proofs.SkipLemmas.{login_is, login_said}
use Rattle.assertion_model.proofs.ValueLemmas.{name_is}
use Rattle.login_origin.specs.Signed.{Signed}
use Rattle.login_origin.specs.Origin.{IsSignedAssertion}
use Rattle.login_origin.proofs.Shown.{assertion_in, assertion_shown, login_of_child}

abbrev pub either : Option Login → Option Login → Option Login
either None other = other
either (Some l) other = Some l

abbrev pub said : Contents → Option Login
said contents = either (login contents) (option_and_then login_of (assertion_in contents))

-- without its own Signature
abbrev pub said_at : Nodes → ℕ → Option Login
said_at tree k = said (content tree k (own_signature tree k))

pub assertion_says : (tree : Nodes) (p : ℕ) (l : Login) → login_at tree p ≡ Some l → said_at tree p ≡ Some l
assertion_says tree p l e = ap (λ o. either o (option_and_then login_of (assertion_in (content tree p (own_signature tree p))))) e

pub response_says : (tree : Nodes) (k p : ℕ) (l : Login) → IsElement tree k → name_of_node tree k ≡ samlp (codes "Response") →
    children tree k (saml (codes "Assertion")) ≡ p ∷ [] → login_at tree p ≡ Some l → said_at tree k ≡ Some l
response_says tree k p l element name one e =
    let none : login_at tree k ≡ None =
    login_is tree k element ∙ ap (λ n. where_holds (is_name (saml (codes "Assertion")) n) (login_of (part_at tree k))) name
    in
    let inside : assertion_in (content tree k (own_signature tree k)) ≡ Some (part_at tree p) =
    assertion_shown tree k element
    ∙ (λ i. where_holds (is_name (samlp (codes "Response")) (name i)) (only (map (part_at tree) (one i))))
    in
    (λ i. either (none i) (option_and_then login_of (inside i))) ∙ login_said tree p l e

-- where the login is that of an Assertion
pub record Found (s : Signed) (l : Login) : Type 0 where
  pub p : ℕ
  pub assertion : IsSignedAssertion s p
  pub read : login_at s.tree p ≡ Some l

found_inside : (s : Signed) (l : Login) (b : Bool) (ks : List ℕ) → is_name (samlp (codes "Response")) (name_of_node s.tree s.element) ≡ b →
    children s.tree s.element (saml (codes "Assertion")) ≡ ks →
    option_and_then login_of (where_holds b (only (map (part_at s.tree) ks))) ≡ Some l → Found s l
found_inside s l false ks n c h = absurd (let clash : None ≡ Some l = h in cc)
found_inside s l true [] n c h = absurd (let clash : None ≡ Some l = h in cc)
found_inside s l true (p ∷ q ∷ ks) n c h = absurd (let clash : None ≡ Some l = h in cc)
found_inside s l true (p ∷ []) n c h = record {
  p = p;
  assertion = inr (record { response = name_is (samlp (codes "Response")) (name_of_node s.tree s.element) n; one = c });
  read = login_of_child s.tree s.element p c ∙ h;
}

found_by : (s : Signed) (l : Login) (o : Option Login) → IsElement s.tree s.element → login_at s.tree s.element ≡ o →
    either o (option_and_then login_of (assertion_in (content s.tree s.element (own_signature s.tree s.element)))) ≡ Some l → Found s l
found_by s l (Some m) element e h = record { p = s.element; assertion = inl refl; read = e ∙ h }
found_by s l None element e h =
    found_inside s l (is_name (samlp (codes "Response")) (name_of_node s.tree s.element)) (children s.tree s.element (saml (codes "Assertion"))) refl refl
    (ap (option_and_then login_of) (sym (assertion_shown s.tree s.element element)) ∙ h)

pub found : (s : Signed) (l : Login) → IsElement s.tree s.element → said_at s.tree s.element ≡ Some l → Found s l
found s l element h = found_by s l (login_at s.tree s.element) element refl h
