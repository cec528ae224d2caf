-- The login of an element is what its parts say: without its Signature it has the same children of assertions.
use Rattle.std.proofs.Common.{◌≡◌, ℕ, suc, ◌+◌, ◌-◌, ◌≤◌, Bool, true, false, cond, nat_lt, ltb, List, [], ◌∷◌, codes, Option, None, Some, refl, sym, ap, ◌∙◌, arith}
use Rattle.std.specs.List.{flat_map}
use Rattle.std.specs.Option.{option_map, option_and_then}
use Rattle.std.proofs.lemmas.Bool.{cond-false, le-ltb}
use Rattle.xml_spec.specs.Tree.{Nodes, NoNodes, Element, Text, Comment, Instruction}
use Rattle.xml_spec.specs.Numbering.{size, from_node, kids_of, without_node}
use Rattle.xml_spec.specs.Names.{Scope, outermost, inner_scope, ExpandedName, element_name}
use Rattle.xml_spec.specs.Canonical.{alone, scope_at}
use Rattle.xml_spec.specs.Content.{ContentAttribute, Contents, content_attributes, content_nodes, content}
use Rattle.saml_names.specs.Names.{saml, ds}
use Rattle.saml_tree.specs.Documents.{kind_of}
use Rattle.saml_tree.specs.declared.node.NodeKind.TheVariants as kinds
use Rattle.saml_tree.specs.Elements.{IsElement}
use Rattle.tree_read.specs.Children as walk
use Rattle.tree_read.specs.Children.{is_name, scope_of_kids, elements_of}
use Rattle.tree_read.specs.Texts.{trimmed}
use Rattle.tree_read.specs.Walk.{first_name, name_of_node}
use Rattle.assertion_model.specs.declared.login.Login.{Login}
use Rattle.assertion_model.specs.declared.parts.Head.{Head}
use Rattle.assertion_model.specs.declared.parts.Confirmed.{Confirmed}
use Rattle.assertion_model.specs.declared.parts.Valid.{Valid}
use Rattle.assertion_model.specs.declared.parts.Session.{Session}
use Rattle.assertion_model.specs.Contents.{Part, named, text, only, at_most_one, first, each}
use Rattle.assertion_model.specs.Login.{where_holds, children, user_name, confirmation, valid_if_any, authentication, attribute, attributes, head, login_of, login}
use Rattle.assertion_model.specs.Parts.{part_in, part_at, own_signature, login_at}
use Rattle.assertion_model.proofs.PartLemmas.{named_behind_text}
use Rattle.assertion_model.proofs.ValueLemmas.{name_is}

abbrev pub signature : ExpandedName
signature = ds (codes "Signature")

no_number : (k : ℕ) (ks : List ℕ) → [] ≡ k ∷ ks → ⊥
no_number k ks e = cc

-- the elements of a list have numbers from that of its first node on
pub numbers_from : (scope : Scope) (n : ℕ) (nodes : Nodes) (k : ℕ) (ks : List ℕ) → walk.named signature (elements_of scope n nodes) ≡ k ∷ ks → n ≤ k
numbers_from scope n NoNodes k ks e = absurd (no_number k ks e)
numbers_from scope n (Element name attributes kids rest) k ks e =
    which (is_name signature (element_name (inner_scope attributes scope) name)) e (numbers_from scope (suc (n + size kids)) rest k ks)
  where
    which : (b : Bool) →
        cond b (n ∷ walk.named signature (elements_of scope (suc (n + size kids)) rest)) (walk.named signature (elements_of scope (suc (n + size kids)) rest)) ≡ k ∷ ks →
        (walk.named signature (elements_of scope (suc (n + size kids)) rest) ≡ k ∷ ks → suc (n + size kids) ≤ k) → n ≤ k
    which true e later = let same : n ≡ k = cc in omega (arith, same)
    which false e later = omega (arith, later e)
numbers_from scope n (Text bytes rest) k ks e = omega (arith, numbers_from scope (suc n) rest k ks e)
numbers_from scope n (Comment bytes rest) k ks e = omega (arith, numbers_from scope (suc n) rest k ks e)
numbers_from scope n (Instruction target value rest) k ks e = omega (arith, numbers_from scope (suc n) rest k ks e)

no_assertion_name : (local : List ℕ) (name : ExpandedName) → is_name signature name ≡ true → is_name (saml local) name ≡ false
no_assertion_name local name h = ap (is_name (saml local)) (name_is signature name h)

module _ (local : List ℕ) where
  abbrev shown : Scope → Nodes → List Part
  shown scope nodes = named (saml local) (content_nodes scope nodes)

  -- without the first Signature of a list the assertion's children of this name are the same
  pub without_same : (scope : Scope) (n : ℕ) (nodes : Nodes) (k : ℕ) (ks : List ℕ) → walk.named signature (elements_of scope n nodes) ≡ k ∷ ks →
      shown scope (without_node nodes (k - n)) ≡ shown scope nodes
  without_same scope n NoNodes k ks e = absurd (no_number k ks e)
  without_same scope n (Element name attributes kids rest) k ks e =
      which (is_name signature (element_name (inner_scope attributes scope) name)) refl e
      (without_same scope (suc (n + size kids)) rest k ks) (numbers_from scope (suc (n + size kids)) rest k ks)
    where
      which : (b : Bool) → is_name signature (element_name (inner_scope attributes scope) name) ≡ b →
          cond b (n ∷ walk.named signature (elements_of scope (suc (n + size kids)) rest)) (walk.named signature (elements_of scope (suc (n + size kids)) rest)) ≡ k ∷ ks →
          (walk.named signature (elements_of scope (suc (n + size kids)) rest) ≡ k ∷ ks →
          shown scope (without_node rest (k - suc (n + size kids))) ≡ shown scope rest) →
          (walk.named signature (elements_of scope (suc (n + size kids)) rest) ≡ k ∷ ks → suc (n + size kids) ≤ k) →
          shown scope (without_node (Element name attributes kids rest) (k - n)) ≡ shown scope (Element name attributes kids rest)
      which true h e later from =
          let same : n ≡ k = cc in
          let none : k - n ≡ 0 = omega (arith, same) in
          ap (λ j. shown scope (without_node (Element name attributes kids rest) j)) none
          ∙ sym (cond-false (is_name (saml local) (element_name (inner_scope attributes scope) name)) _ _
          (no_assertion_name local (element_name (inner_scope attributes scope) name) h))
      which false h e later from =
          let past = from e in
          let place : k - n ≡ suc (size kids + (k - suc (n + size kids))) = omega (arith, past) in
          let back : size kids + (k - suc (n + size kids)) - size kids ≡ k - suc (n + size kids) = omega arith in
          ap (λ j. shown scope (without_node (Element name attributes kids rest) j)) place
          ∙ ap (shown scope) (cond-false (ltb (size kids + (k - suc (n + size kids))) (size kids)) _ _ (le-ltb _ _ (omega arith)))
          ∙ ap (λ j. shown scope (Element name attributes kids (without_node rest j))) back
          ∙ ap (λ others. cond (is_name (saml local) (element_name (inner_scope attributes scope) name))
          (record { attributes = content_attributes (inner_scope attributes scope) attributes; kids = content_nodes (inner_scope attributes scope) kids } ∷ others) others)
          (later e)
  without_same scope n (Text bytes rest) k ks e =
      let past = numbers_from scope (suc n) rest k ks e in
      let place : k - n ≡ suc (k - suc n) = omega (arith, past) in
      ap (λ j. shown scope (without_node (Text bytes rest) j)) place
      ∙ named_behind_text (saml local) bytes (content_nodes scope (without_node rest (k - suc n)))
      ∙ without_same scope (suc n) rest k ks e ∙ sym (named_behind_text (saml local) bytes (content_nodes scope rest))
  without_same scope n (Comment bytes rest) k ks e =
      let past = numbers_from scope (suc n) rest k ks e in
      let place : k - n ≡ suc (k - suc n) = omega (arith, past) in
      ap (λ j. shown scope (without_node (Comment bytes rest) j)) place ∙ without_same scope (suc n) rest k ks e
  without_same scope n (Instruction target value rest) k ks e =
      let past = numbers_from scope (suc n) rest k ks e in
      let place : k - n ≡ suc (k - suc n) = omega (arith, past) in
      ap (λ j. shown scope (without_node (Instruction target value rest) j)) place ∙ without_same scope (suc n) rest k ks e

-- the login by the children that count
abbrev pub login_by : Option Head → List Part → List Part → List Part → List Part → List Part → Option Login
login_by head issuers subjects conditions statements attribute_statements =
    option_and_then (λ (h : Head). option_and_then (λ (issuer : Part). option_and_then (λ (subject : Part).
    option_and_then (λ name. option_and_then (λ (c : Confirmed). option_and_then (λ (v : Valid). option_and_then (λ (s : Session).
    option_map (λ stated. record {
      id = h.id;
      issuer = trimmed (text issuer.kids);
      issued = h.issued;
      audiences = v.audiences;
      recipient = c.recipient;
      request = c.request;
      confirm_until = c.until;
      not_before = v.not_before;
      not_on_or_after = v.not_on_or_after;
      name = name;
      index = s.index;
      session_until = s.until;
      attributes = stated;
    })
    (each attribute (flat_map (λ (statement : Part). children (codes "Attribute") statement.kids) attribute_statements))) (authentication statements))
    (option_and_then valid_if_any (at_most_one conditions)))
    (confirmation subject.kids)) (user_name subject.kids))
    (only subjects)) (only issuers)) head

login_same : (given : List ContentAttribute) (one other : Contents) → ((local : List ℕ) → children local one ≡ children local other) →
    login_of (record { attributes = given; kids = one }) ≡ login_of (record { attributes = given; kids = other })
login_same given one other same =
    λ i. login_by (head (record { attributes = given; kids = one })) (same (codes "Issuer") i) (same (codes "Subject") i) (same (codes "Conditions") i)
    (same (codes "AuthnStatement") i) (same (codes "AttributeStatement") i)

-- the first node of a list, without this node below it
abbrev kept : Nodes → ℕ → Option ℕ → Nodes
kept nodes k None = alone nodes
kept nodes k (Some skip) = without_node (alone nodes) (skip - k)

begun : (ks : List ℕ) (k : ℕ) → first ks ≡ Some k → (others : List ℕ) × (ks ≡ k ∷ others)
begun [] k e = absurd (let clash : None ≡ Some k = e in cc)
begun (n ∷ ks) k e = (ks, let same : n ≡ k = cc in ap (λ m. m ∷ ks) same)

login_in : (scope : Scope) (k : ℕ) (nodes : Nodes) (o : Option ℕ) → kind_of nodes ≡ Some kinds.Element →
    first (walk.named signature (elements_of (scope_of_kids scope nodes) (suc k) (kids_of nodes))) ≡ o →
    login (content_nodes scope (kept nodes k o)) ≡ where_holds (is_name (saml (codes "Assertion")) (first_name scope nodes)) (login_of (part_in scope nodes))
login_in scope k NoNodes o element e = absurd (cc)
login_in scope k (Text bytes rest) o element e = absurd (cc)
login_in scope k (Comment bytes rest) o element e = absurd (cc)
login_in scope k (Instruction target value rest) o element e = absurd (cc)
login_in scope k (Element name given kids rest) None element e = refl
login_in scope k (Element name given kids rest) (Some skip) element e =
    let inner = inner_scope given scope in
    let others = begun (walk.named signature (elements_of inner (suc k) kids)) skip e in
    let past = numbers_from inner (suc k) kids skip others.0 others.1 in
    let place : skip - k ≡ suc (skip - suc k) = omega (arith, past) in
    ap (λ j. login (content_nodes scope (without_node (Element name given kids NoNodes) j))) place
    ∙ which (nat_lt (skip - suc k) (size kids))
    (login_same (content_attributes inner given) (content_nodes inner (without_node kids (skip - suc k))) (content_nodes inner kids)
    (λ local. without_same local inner (suc k) kids skip others.0 others.1))
  where
    which : (b : Bool) →
        login_of (record { attributes = content_attributes (inner_scope given scope) given; kids = content_nodes (inner_scope given scope) (without_node kids (skip - suc k)) })
        ≡ login_of (record { attributes = content_attributes (inner_scope given scope) given; kids = content_nodes (inner_scope given scope) kids }) →
        login (content_nodes scope (cond b (Element name given (without_node kids (skip - suc k)) NoNodes) (Element name given kids NoNodes)))
        ≡ where_holds (is_name (saml (codes "Assertion")) (element_name (inner_scope given scope) name))
        (login_of (record { attributes = content_attributes (inner_scope given scope) given; kids = content_nodes (inner_scope given scope) kids }))
    which true same = ap (where_holds (is_name (saml (codes "Assertion")) (element_name (inner_scope given scope) name))) same
    which false same = refl

content_kept : (tree : Nodes) (k : ℕ) (o : Option ℕ) → content tree k o ≡ content_nodes (scope_at outermost tree k) (kept (from_node tree k) k o)
content_kept tree k None = refl
content_kept tree k (Some skip) = refl

-- the login of an element of a document
pub login_is : (tree : Nodes) (k : ℕ) → IsElement tree k →
    login_at tree k ≡ where_holds (is_name (saml (codes "Assertion")) (name_of_node tree k)) (login_of (part_at tree k))
login_is tree k element =
    ap login (content_kept tree k (own_signature tree k))
    ∙ login_in (scope_at outermost tree k) k (from_node tree k) (own_signature tree k) element refl

-- what has a login is an element
login_of_element : (scope : Scope) (k : ℕ) (nodes : Nodes) (l : Login) →
    login (content_nodes scope (kept nodes k (first (walk.named signature (elements_of (scope_of_kids scope nodes) (suc k) (kids_of nodes)))))) ≡ Some l →
    kind_of nodes ≡ Some kinds.Element
login_of_element scope k NoNodes l e = absurd (cc)
login_of_element scope k (Element name given kids rest) l e = refl
login_of_element scope k (Text bytes rest) l e = absurd (cc)
login_of_element scope k (Comment bytes rest) l e = absurd (cc)
login_of_element scope k (Instruction target value rest) l e = absurd (cc)

-- what has a login is an Assertion, and its parts say the login
pub login_said : (tree : Nodes) (k : ℕ) (l : Login) → login_at tree k ≡ Some l → login_of (part_at tree k) ≡ Some l
login_said tree k l e =
    let element = login_of_element (scope_at outermost tree k) k (from_node tree k) l (sym (ap login (content_kept tree k (own_signature tree k))) ∙ e) in
    which (is_name (saml (codes "Assertion")) (name_of_node tree k)) (sym (login_is tree k element) ∙ e)
  where
    which : (b : Bool) → where_holds b (login_of (part_at tree k)) ≡ Some l → login_of (part_at tree k) ≡ Some l
    which true h = h
    which false h = absurd (let clash : None ≡ Some l = h in cc)
