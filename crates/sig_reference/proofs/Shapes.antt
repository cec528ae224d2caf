-- What an element has by its element children.
use Rattle.std.proofs.Common.{◌≡◌, ◌≢◌, ℕ, suc, ◌+◌, ◌-◌, ◌<◌, List, [], ◌∷◌, Some, is_some, refl, sym, ap, ◌∙◌, subst, inl, inr, Result, Ok, Err, IfOk, arith}
use Rattle.std.specs.List.{AllByRecursion}
use Rattle.xml_spec.specs.Tree.{Nodes, NoNodes, Element, Text, Comment, Instruction}
use Rattle.xml_spec.specs.Numbering.{size, from_node, kids_of}
use Rattle.xml_spec.specs.Names.{Scope, outermost, ExpandedName}
use Rattle.xml_spec.specs.Canonical.{scope_at}
use Rattle.saml_tree.specs.Elements.{IsElement}
use Rattle.saml_tree.specs.Documents.{DocumentView, kind_of}
use Rattle.saml_tree.specs.declared.node.NodeKind.TheVariants as kinds
use Rattle.saml_tree.proofs.Numbers.{in_rest, kid_from, node_there}
use Rattle.tree_read.specs.Children.{Child, child, scope_of_kids, elements_of, element_children}
use Rattle.sig_reference.specs.Algorithms.{inclusive_namespaces}
use Rattle.sig_reference.specs.Form.{IsPrefixList, ListsPrefixes, IsCanonicalization}
use Rattle.tree_read.specs.Faults.{IsShapeFault}
use Rattle.tree_read.specs.declared.fault.ShapeFault.{ShapeFault}
use Rattle.tree_read.specs.declared.fault.ShapeFault.TheVariants as faults

-- what a fault says, held to a weaker claim
pub fault_on : (fault : ShapeFault) (P Q : Type 0) → IsShapeFault fault P → (P → Q) → IsShapeFault fault Q
fault_on faults.WrongShape P Q says on = on says
fault_on faults.NoMemory P Q says on = tt

-- what holds of the tree of a document holds of that of the same document
pub of_document : {a b : DocumentView} (P : Nodes → Type 0) → a ≡ b → P a.tree → P b.tree
of_document P e p = subst (λ (d : DocumentView). P d.tree) e p

-- the first child by an equal name
pub by_name : {k : ℕ} {a b : ExpandedName} {others : List Child} → a ≡ b → child k b ∷ others ≡ child k a ∷ others
by_name {k} {a} {b} {others} e = ap (λ n. child k n ∷ others) (sym e)

-- the child is an element of the tree that stands behind node n
abbrev pub IsChild : Nodes → ℕ → Child → Type 0
IsChild tree n k = (n < k.number) × IsElement tree k.number

all_elements : (tree nodes : Nodes) (scope : Scope) (n k : ℕ) → n < k →
    ((j : ℕ) → kind_of (from_node nodes j) ≡ Some kinds.Element → IsElement tree (k + j)) →
    AllByRecursion (IsChild tree n) (elements_of scope k nodes)
all_elements tree NoNodes scope n k behind place = tt
all_elements tree (Element name attributes kids rest) scope n k behind place =
    let here : k + 0 ≡ k = omega arith in (
      (behind, subst (IsElement tree) here (place 0 refl)),
      all_elements tree rest scope n (suc (k + size kids)) (omega arith) (λ j e.
          let there : k + suc (size kids + j) ≡ suc (k + size kids) + j = omega arith in
          let same : size kids + j - size kids ≡ j = omega arith in
          subst (IsElement tree) there (place (suc (size kids + j))
          (ap kind_of (in_rest name attributes kids rest (size kids + j) (omega arith) ∙ ap (from_node rest) same) ∙ e))),
    )
all_elements tree (Text text rest) scope n k behind place =
    all_elements tree rest scope n (suc k) (omega arith) (λ j e.
    let there : k + suc j ≡ suc k + j = omega arith in subst (IsElement tree) there (place (suc j) e))
all_elements tree (Comment text rest) scope n k behind place =
    all_elements tree rest scope n (suc k) (omega arith) (λ j e.
    let there : k + suc j ≡ suc k + j = omega arith in subst (IsElement tree) there (place (suc j) e))
all_elements tree (Instruction target value rest) scope n k behind place =
    all_elements tree rest scope n (suc k) (omega arith) (λ j e.
    let there : k + suc j ≡ suc k + j = omega arith in subst (IsElement tree) there (place (suc j) e))

-- each element child is one
pub all_children : (tree : Nodes) (n : ℕ) → AllByRecursion (IsChild tree n) (element_children tree n)
all_children tree n =
    all_elements tree (kids_of (from_node tree n)) (scope_of_kids (scope_at outermost tree n) (from_node tree n)) n (suc n) (omega arith)
    (λ j e.
    let there : suc (n + j) ≡ suc n + j = omega arith in
    subst (IsElement tree) there (ap kind_of (kid_from tree n j (node_there (kids_of (from_node tree n)) j (ap is_some e))) ∙ e))

-- two views of one list of children have one first child and the same others
pub first_is : {a b : ℕ} {name other : ExpandedName} {kids xs ys : List Child} → kids ≡ child a name ∷ xs → kids ≡ child b other ∷ ys → a ≡ b
first_is {a} {b} {name} {other} {kids} {xs} {ys} e f =
    let firsts : child a name ≡ child b other = cc in ap (λ (k : Child). k.number) firsts

pub behind_first : {a b : ℕ} {name other : ExpandedName} {kids xs ys : List Child} → kids ≡ child a name ∷ xs → kids ≡ child b other ∷ ys → xs ≡ ys
behind_first e f = cc

-- the first two element children are elements behind their parent
pub first_child : (tree : Nodes) (n : ℕ) {a : ℕ} {name : ExpandedName} {xs : List Child} → element_children tree n ≡ child a name ∷ xs → IsChild tree n (child a name)
first_child tree n {a} {name} {xs} e =
    let all : IsChild tree n (child a name) × AllByRecursion (IsChild tree n) xs =
    subst (AllByRecursion (IsChild tree n)) e (all_children tree n) in
    all.0

pub second_child : (tree : Nodes) (n : ℕ) {a b : ℕ} {name other : ExpandedName} {xs ys : List Child} →
    element_children tree n ≡ child a name ∷ xs → xs ≡ child b other ∷ ys → IsChild tree n (child b other)
second_child tree n {a} {b} {name} {other} {xs} {ys} e f =
    let both = e ∙ ap (λ ks. child a name ∷ ks) f in
    let deep : IsChild tree n (child a name) × (IsChild tree n (child b other) × AllByRecursion (IsChild tree n) ys) =
    subst (AllByRecursion (IsChild tree n)) both (all_children tree n) in
    deep.1.0

-- a canonicalization that has a parameter
pub with_parameter : (tree : Nodes) (k : ℕ) (prefixes : List (List ℕ)) → element_children tree k ≢ [] → IsCanonicalization tree k prefixes →
    ListsPrefixes tree k prefixes
with_parameter tree k prefixes some canonical = elim canonical.listed [ inl none ↦ absurd (some none.0) | inr lists ↦ lists ]

-- what the parameter lists, where it is this child
pub listed_by : (tree : Nodes) (k parameter : ℕ) (others : List Child) (prefixes : List (List ℕ)) →
    element_children tree k ≡ child parameter inclusive_namespaces ∷ others → IsCanonicalization tree k prefixes →
    (others ≡ []) × IsPrefixList tree parameter prefixes
listed_by tree k parameter others prefixes e canonical =
    let lists =
    with_parameter tree k prefixes (λ none. let clash : child parameter inclusive_namespaces ∷ others ≡ [] = sym e ∙ none in cc) canonical in
    (behind_first e lists.only, subst (λ (n : ℕ). IsPrefixList tree n prefixes) (first_is lists.only e) lists.listed)

-- two facts of a value that was read
pub both_ok : {T E : Type 0} (r : Result T E) (P Q R : T → Type 0) → IfOk r P → IfOk r Q → ((x : T) → P x → Q x → R x) → IfOk r R
both_ok (Ok x) P Q R p q on = on x p q
both_ok (Err e) P Q R p q on = tt
