-- What the content of an element shows of its children.
use Rattle.std.proofs.Common.{◌≡◌, ℕ, suc, ◌+◌, ◌-◌, ◌<◌, ◌≤◌, Bool, true, false, cond, nat_lt, List, [], ◌∷◌, map, codes, Option, None, Some, refl, sym, ap, ◌∙◌, subst, arith}
use Rattle.std.specs.List.{AllByRecursion}
use Rattle.xml_spec.specs.Tree.{Nodes, NoNodes, Element, Text, Comment, Instruction}
use Rattle.xml_spec.specs.Numbering.{size, from_node, kids_of, without_node}
use Rattle.xml_spec.specs.Names.{Scope, outermost, inner_scope, ExpandedName, element_name}
use Rattle.xml_spec.specs.Canonical.{alone, scope_at}
use Rattle.xml_spec.specs.Content.{Contents, NoContents, ElementContent, content_nodes, content}
use Rattle.saml_names.specs.Names.{saml, samlp, ds}
use Rattle.saml_tree.specs.Documents.{kind_of}
use Rattle.saml_tree.specs.declared.node.NodeKind.TheVariants as kinds
use Rattle.saml_tree.specs.Elements.{IsElement}
use Rattle.tree_read.specs.Children as walk
use Rattle.tree_read.specs.Children.{Child, child, is_name, scope_of_kids, elements_of, element_children}
use Rattle.tree_read.specs.Walk.{first_name, name_of_node}
use Rattle.saml_tree.proofs.Numbers.{kids_from}
use Rattle.tree_read.proofs.Placed.{kids_scope}
use Rattle.sig_reference.specs.Form.{Parts, HasForm}
use Rattle.assertion_model.specs.Contents.{Part, named, only, first}
use Rattle.assertion_model.specs.Login.{where_holds, login_of}
use Rattle.assertion_model.specs.Parts.{part_in, part_at, own_signature, login_at}
use Rattle.assertion_model.proofs.PartLemmas.{Stands, behind, next, some, named_at}
use Rattle.assertion_model.proofs.PlaceLemmas.{IsThere, IsElementIn, children_in, elements_there, of_name}
use Rattle.assertion_model.proofs.SkipLemmas.{signature, numbers_from, without_same, login_is}

-- WHERE CHILDREN STAND

-- the kids of an element, as they stand in the tree
kids_stand : (tree : Nodes) (k : ℕ) → 0 < size (kids_of (from_node tree k)) →
    Stands tree (suc k) (scope_of_kids (scope_at outermost tree k) (from_node tree k)) (kids_of (from_node tree k))
kids_stand tree k h = record { found = kids_from tree k h; inside = kids_scope tree k h }

has_children : (scope : Scope) (n : ℕ) (nodes : Nodes) (c : Child) (others : List Child) →
    elements_of (scope_of_kids scope nodes) n (kids_of nodes) ≡ c ∷ others → kind_of nodes ≡ Some kinds.Element
has_children scope n NoNodes c others e = absurd (cc)
has_children scope n (Element name attributes kids rest) c others e = refl
has_children scope n (Text text rest) c others e = absurd (cc)
has_children scope n (Comment text rest) c others e = absurd (cc)
has_children scope n (Instruction target value rest) c others e = absurd (cc)

-- what has a child is an element
pub parent_is_element : (tree : Nodes) (k : ℕ) (c : Child) (others : List Child) → element_children tree k ≡ c ∷ others → IsElement tree k
parent_is_element tree k c others e = has_children (scope_at outermost tree k) (suc k) (from_node tree k) c others e

names_there : (tree : Nodes) (scope : Scope) (k : ℕ) (nodes : Nodes) → (0 < size nodes → Stands tree k scope nodes) →
    AllByRecursion (λ c. name_of_node tree c.number ≡ c.name) (elements_of scope k nodes)
names_there tree scope k NoNodes stands = tt
names_there tree scope k (Element name attributes kids rest) stands =
    let here = stands (some (size kids + size rest)) in (
      (λ i. first_name (here.inside i) (here.found i)),
      names_there tree scope (suc (k + size kids)) rest (behind tree k scope (Element name attributes kids rest) here),
    )
names_there tree scope k (Text bytes rest) stands =
    names_there tree scope (suc k) rest (next tree k scope (Text bytes rest) refl (stands (some (size rest))))
names_there tree scope k (Comment bytes rest) stands =
    names_there tree scope (suc k) rest (next tree k scope (Comment bytes rest) refl (stands (some (size rest))))
names_there tree scope k (Instruction target value rest) stands =
    names_there tree scope (suc k) rest (next tree k scope (Instruction target value rest) refl (stands (some (size rest))))

-- the children of a name have it
children_named : (tree : Nodes) (k : ℕ) (wanted : ExpandedName) →
    AllByRecursion (λ n. is_name wanted (name_of_node tree n) ≡ true) (walk.children tree k wanted)
children_named tree k wanted =
    of_name wanted (λ c. name_of_node tree c.number ≡ c.name) (λ n. is_name wanted (name_of_node tree n) ≡ true)
    (λ c is h. ap (is_name wanted) is ∙ h) (element_children tree k)
    (names_there tree (scope_of_kids (scope_at outermost tree k) (from_node tree k)) (suc k) (kids_of (from_node tree k)) (kids_stand tree k))

-- the login of the one Assertion of an element is what its parts say
pub login_of_child : (tree : Nodes) (k p : ℕ) → walk.children tree k (saml (codes "Assertion")) ≡ p ∷ [] → login_at tree p ≡ login_of (part_at tree p)
login_of_child tree k p one =
    let there : IsElementIn tree k p × AllByRecursion (IsElementIn tree k) [] =
    subst (AllByRecursion (IsElementIn tree k)) one (children_in tree k (saml (codes "Assertion")))
    in
    let is : (is_name (saml (codes "Assertion")) (name_of_node tree p) ≡ true) × AllByRecursion (λ n. is_name (saml (codes "Assertion")) (name_of_node tree n) ≡ true) [] =
    subst (AllByRecursion (λ n. is_name (saml (codes "Assertion")) (name_of_node tree n) ≡ true)) one (children_named tree k (saml (codes "Assertion")))
    in
    login_is tree p there.0.element ∙ ap (λ b. where_holds b (login_of (part_at tree p))) is.0

-- THE SIGNATURE OF A FORM

pub own_of_form : (tree : Nodes) (e : ℕ) (parts : Parts) → HasForm tree e parts → own_signature tree e ≡ Some parts.signature
own_of_form tree e parts form = ap (λ (children : List Child). first (walk.named (ds (codes "Signature")) children)) form.children

pub form_is_element : (tree : Nodes) (e : ℕ) (parts : Parts) → HasForm tree e parts → IsElement tree e
form_is_element tree e parts form = parent_is_element tree e _ _ form.children

-- it stands behind the start of its element
pub signature_behind : (tree : Nodes) (e : ℕ) (parts : Parts) → HasForm tree e parts → e < parts.signature
signature_behind tree e parts form =
    let high = suc e + size (kids_of (from_node tree e)) in
    let there : AllByRecursion (IsThere tree (suc e) high) (element_children tree e) =
    elements_there tree (scope_of_kids (scope_at outermost tree e) (from_node tree e)) (suc e) (kids_of (from_node tree e)) (kids_stand tree e)
    in
    let both : IsThere tree (suc e) high (child form.issuer (saml (codes "Issuer"))) × (IsThere tree (suc e) high (child parts.signature (ds (codes "Signature"))) × AllByRecursion (IsThere tree (suc e) high) form.others) =
    subst (AllByRecursion (IsThere tree (suc e) high)) form.children there
    in
    let from : suc e ≤ parts.signature = both.1.0.from in
    omega (arith, from)

-- THE PARTS OF A WHOLE CONTENT

abbrev part_shown : Contents → Part
part_shown (ElementContent name attributes kids rest) = record { attributes = attributes; kids = kids }
part_shown _ = record { attributes = []; kids = NoContents }

whole_in : (scope : Scope) (nodes : Nodes) → kind_of nodes ≡ Some kinds.Element → part_shown (content_nodes scope (alone nodes)) ≡ part_in scope nodes
whole_in scope NoNodes e = absurd (cc)
whole_in scope (Element name attributes kids rest) e = refl
whole_in scope (Text text rest) e = absurd (cc)
whole_in scope (Comment text rest) e = absurd (cc)
whole_in scope (Instruction target value rest) e = absurd (cc)

-- elements with equal contents have equal parts
pub same_part : (one other : Nodes) (k l : ℕ) → IsElement one k → IsElement other l → content one k None ≡ content other l None →
    part_at one k ≡ part_at other l
same_part one other k l e f same =
    sym (whole_in (scope_at outermost one k) (from_node one k) e) ∙ ap part_shown same
    ∙ whole_in (scope_at outermost other l) (from_node other l) f

-- and so have the only children of a name of elements with equal parts
pub same_child : (wanted : ExpandedName) (one other : Nodes) (k l a b : ℕ) → walk.children one k wanted ≡ a ∷ [] → walk.children other l wanted ≡ b ∷ [] →
    part_at one k ≡ part_at other l → part_at one a ≡ part_at other b
same_child wanted one other k l a b e f same =
    let parts : part_at one a ∷ [] ≡ part_at other b ∷ [] =
    ap (map (part_at one)) (sym e) ∙ sym (named_at wanted one k) ∙ ap (λ (p : Part). named wanted p.kids) same
    ∙ named_at wanted other l ∙ ap (map (part_at other)) f
    in
    cc

-- THE ASSERTION OF A RESPONSE, WITHOUT THE SIGNATURE OF THAT

abbrev pub assertion : ExpandedName
assertion = saml (codes "Assertion")

abbrev pub response : ExpandedName
response = samlp (codes "Response")

abbrev shown : Scope → Nodes → List Part
shown scope nodes = named assertion (content_nodes scope nodes)

-- without the first Signature of a list its Assertions are the same
without_signature : (scope : Scope) (n : ℕ) (nodes : Nodes) (k : ℕ) (ks : List ℕ) → walk.named signature (elements_of scope n nodes) ≡ k ∷ ks →
    shown scope (without_node nodes (k - n)) ≡ shown scope nodes
without_signature = without_same (codes "Assertion")

-- the one Assertion that the content of a Response shows
abbrev pub assertion_in : Contents → Option Part
assertion_in (ElementContent name attributes kids rest) = where_holds (is_name response name) (only (named assertion kids))
assertion_in _ = None

-- the first node of a list, without this node below it
abbrev kept : Nodes → ℕ → Option ℕ → Nodes
kept nodes k None = alone nodes
kept nodes k (Some skip) = without_node (alone nodes) (skip - k)

begun : (ks : List ℕ) (k : ℕ) → first ks ≡ Some k → (others : List ℕ) × (ks ≡ k ∷ others)
begun [] k e = absurd (let clash : None ≡ Some k = e in cc)
begun (n ∷ ks) k e = (ks, let same : n ≡ k = cc in ap (λ m. m ∷ ks) same)

response_in : (scope : Scope) (k : ℕ) (nodes : Nodes) (o : Option ℕ) → kind_of nodes ≡ Some kinds.Element →
    first (walk.named signature (elements_of (scope_of_kids scope nodes) (suc k) (kids_of nodes))) ≡ o →
    assertion_in (content_nodes scope (kept nodes k o)) ≡ where_holds (is_name response (first_name scope nodes)) (only (named assertion (part_in scope nodes).kids))
response_in scope k NoNodes o element e = absurd (cc)
response_in scope k (Text bytes rest) o element e = absurd (cc)
response_in scope k (Comment bytes rest) o element e = absurd (cc)
response_in scope k (Instruction target value rest) o element e = absurd (cc)
response_in scope k (Element name given kids rest) None element e = refl
response_in scope k (Element name given kids rest) (Some skip) element e =
    let inner = inner_scope given scope in
    let others = begun (walk.named signature (elements_of inner (suc k) kids)) skip e in
    let past = numbers_from inner (suc k) kids skip others.0 others.1 in
    let place : skip - k ≡ suc (skip - suc k) = omega (arith, past) in
    ap (λ j. assertion_in (content_nodes scope (without_node (Element name given kids NoNodes) j))) place
    ∙ which (nat_lt (skip - suc k) (size kids)) (without_signature inner (suc k) kids skip others.0 others.1)
  where
    which : (b : Bool) → shown (inner_scope given scope) (without_node kids (skip - suc k)) ≡ shown (inner_scope given scope) kids →
        assertion_in (content_nodes scope (cond b (Element name given (without_node kids (skip - suc k)) NoNodes) (Element name given kids NoNodes)))
        ≡ where_holds (is_name response (element_name (inner_scope given scope) name)) (only (shown (inner_scope given scope) kids))
    which true same = ap (λ parts. where_holds (is_name response (element_name (inner_scope given scope) name)) (only parts)) same
    which false same = refl

content_kept : (tree : Nodes) (k : ℕ) (o : Option ℕ) → content tree k o ≡ content_nodes (scope_at outermost tree k) (kept (from_node tree k) k o)
content_kept tree k None = refl
content_kept tree k (Some skip) = refl

-- it is the child that is the one Assertion
pub assertion_shown : (tree : Nodes) (k : ℕ) → IsElement tree k →
    assertion_in (content tree k (own_signature tree k))
    ≡ where_holds (is_name response (name_of_node tree k)) (only (map (part_at tree) (walk.children tree k assertion)))
assertion_shown tree k element =
    ap assertion_in (content_kept tree k (own_signature tree k))
    ∙ response_in (scope_at outermost tree k) k (from_node tree k) (own_signature tree k) element refl
    ∙ ap (λ parts. where_holds (is_name response (name_of_node tree k)) (only parts)) (named_at assertion tree k)
