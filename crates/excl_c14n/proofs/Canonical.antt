-- The form that is told node by node is the canonical form of the standard.
use Rattle.std.proofs.Common.{◌≡◌, ℕ, zero, suc, ◌+◌, ◌-◌, ◌<◌, ◌≤◌, Bool, false, cond, eqb, ltb, List, [], ◌++◌, Option, Some, None, IfSome, refl, sym, ap, ◌∙◌, inl, inr, arith}
use Rattle.std.proofs.lemmas.Bool.{cases_lt, cond-true, cond-false, lt-ltb, le-ltb, eq-eqb, ne_eqb}
use Rattle.std.proofs.lemmas.List.{append-nil}
use Rattle.xml_spec.specs.Tree.{Nodes, NoNodes, Element, Text, Comment, Instruction}
use Rattle.xml_spec.specs.Numbering.{size, from_node, without_node}
use Rattle.xml_spec.specs.Names.{Scope, outermost, inner_scope}
use Rattle.xml_spec.specs.Canonical.{escape_text, print_end, print_instruction, canonical_nodes, scope_at, alone, kept_element, canonical}
use Rattle.excl_c14n.specs.NodeByNode.{written_in, start_in, nodes_form, node_form}

-- a list of which nothing is left out
whole : (listed : List (List ℕ)) (n : ℕ) (scope rendered : Scope) (nodes : Nodes) →
    canonical_nodes listed scope rendered nodes ≡ nodes_form listed None n scope rendered nodes
unfolding nodes_form
whole listed n scope rendered NoNodes = refl
whole listed n scope rendered (Element name attributes kids rest) =
    (λ i. start_in listed scope rendered name attributes
    ++ whole listed (suc n) (inner_scope attributes scope) (written_in listed scope rendered name attributes ++ rendered) kids i ++ print_end name
    ++ whole listed (suc (n + size kids)) scope rendered rest i)
whole listed n scope rendered (Text text rest) = ap (λ xs. escape_text text ++ xs) (whole listed (suc n) scope rendered rest)
whole listed n scope rendered (Comment text rest) = whole listed (suc n) scope rendered rest
whole listed n scope rendered (Instruction target value rest) =
    ap (λ xs. print_instruction target value ++ xs) (whole listed (suc n) scope rendered rest)

-- the number is none of the list
abbrev Misses : ℕ → ℕ → Nodes → Type 0
Misses skip n nodes = (j : ℕ) → j < size nodes → skip ≡ n + j → ⊥

not_here : (skip n : ℕ) → (skip ≡ n + 0 → ⊥) → eqb skip n ≡ false
not_here skip n miss = ne_eqb skip n (λ e. miss (omega arith))

-- a list in which the one that is left out does not stand
untouched : (listed : List (List ℕ)) (skip n : ℕ) (scope rendered : Scope) (nodes : Nodes) → Misses skip n nodes →
    nodes_form listed (Some skip) n scope rendered nodes ≡ canonical_nodes listed scope rendered nodes
unfolding nodes_form
untouched listed skip n scope rendered NoNodes miss = refl
untouched listed skip n scope rendered (Element name attributes kids rest) miss =
    cond_else (eqb skip n) (not_here skip n (miss 0 (omega arith)))
    ∙ (λ i. start_in listed scope rendered name attributes
    ++ untouched listed skip (suc n) (inner_scope attributes scope) (written_in listed scope rendered name attributes ++ rendered) kids
    (λ j h e. miss (suc j) (omega arith) (omega arith)) i ++ print_end name
    ++ untouched listed skip (suc (n + size kids)) scope rendered rest (λ j h e. miss (suc (size kids + j)) (omega arith) (omega arith)) i)
  where
    cond_else : (b : Bool) → b ≡ false →
        cond b [] (start_in listed scope rendered name attributes
        ++ nodes_form listed (Some skip) (suc n) (inner_scope attributes scope) (written_in listed scope rendered name attributes ++ rendered) kids
        ++ print_end name)
        ++ nodes_form listed (Some skip) (suc (n + size kids)) scope rendered rest
        ≡ start_in listed scope rendered name attributes
        ++ nodes_form listed (Some skip) (suc n) (inner_scope attributes scope) (written_in listed scope rendered name attributes ++ rendered) kids
        ++ print_end name ++ nodes_form listed (Some skip) (suc (n + size kids)) scope rendered rest
    cond_else b e = ap (λ xs. xs ++ nodes_form listed (Some skip) (suc (n + size kids)) scope rendered rest) (cond-false b _ _ e)
untouched listed skip n scope rendered (Text text rest) miss =
    ap (λ xs. xs ++ nodes_form listed (Some skip) (suc n) scope rendered rest) (cond-false (eqb skip n) [] (escape_text text) (not_here skip n (miss 0 (omega arith))))
    ∙ ap (λ xs. escape_text text ++ xs) (untouched listed skip (suc n) scope rendered rest (λ j h e. miss (suc j) (omega arith) (omega arith)))
untouched listed skip n scope rendered (Comment text rest) miss =
    untouched listed skip (suc n) scope rendered rest (λ j h e. miss (suc j) (omega arith) (omega arith))
untouched listed skip n scope rendered (Instruction target value rest) miss =
    ap (λ xs. xs ++ nodes_form listed (Some skip) (suc n) scope rendered rest)
    (cond-false (eqb skip n) [] (print_instruction target value) (not_here skip n (miss 0 (omega arith))))
    ∙ ap (λ xs. print_instruction target value ++ xs) (untouched listed skip (suc n) scope rendered rest (λ j h e. miss (suc j) (omega arith) (omega arith)))

-- a list of which one node is left out
one_less : (listed : List (List ℕ)) (skip n d : ℕ) (scope rendered : Scope) (nodes : Nodes) → skip ≡ n + d →
    canonical_nodes listed scope rendered (without_node nodes d) ≡ nodes_form listed (Some skip) n scope rendered nodes
unfolding nodes_form
one_less listed skip n d scope rendered NoNodes e = refl
one_less listed skip n zero scope rendered (Element name attributes kids rest) e =
    sym (untouched listed skip (suc (n + size kids)) scope rendered rest (λ j h clash. omega arith))
    ∙ ap (λ xs. xs ++ nodes_form listed (Some skip) (suc (n + size kids)) scope rendered rest)
    (sym (cond-true (eqb skip n) [] (start_in listed scope rendered name attributes
    ++ nodes_form listed (Some skip) (suc n) (inner_scope attributes scope) (written_in listed scope rendered name attributes ++ rendered) kids
    ++ print_end name) (eq-eqb skip n (omega arith))))
one_less listed skip n (suc k) scope rendered (Element name attributes kids rest) e =
    let here : eqb skip n ≡ false = ne_eqb skip n (λ same. omega arith) in
    let inner = inner_scope attributes scope in
    let written = written_in listed scope rendered name attributes ++ rendered in
    let form =
    start_in listed scope rendered name attributes ++ nodes_form listed (Some skip) (suc n) inner written kids ++ print_end name in
    let behind = nodes_form listed (Some skip) (suc (n + size kids)) scope rendered rest in
    elim (cases_lt k (size kids)) [
      | inl less ↦
          ap (canonical_nodes listed scope rendered) (cond-true (ltb k (size kids)) (Element name attributes (without_node kids k) rest) _ (lt-ltb _ _ less))
          ∙ (λ i. start_in listed scope rendered name attributes
          ++ one_less listed skip (suc n) k inner written kids (omega arith) i ++ print_end name
          ++ sym (untouched listed skip (suc (n + size kids)) scope rendered rest (λ j h clash. omega arith)) i)
          ∙ ap (λ xs. xs ++ behind) (sym (cond-false (eqb skip n) [] form here))
      | inr past ↦
          ap (canonical_nodes listed scope rendered)
          (cond-false (ltb k (size kids)) _ (Element name attributes kids (without_node rest (k - size kids))) (le-ltb _ _ past))
          ∙ (λ i. start_in listed scope rendered name attributes
          ++ sym (untouched listed skip (suc n) inner written kids (λ j h clash. omega arith)) i ++ print_end name
          ++ one_less listed skip (suc (n + size kids)) (k - size kids) scope rendered rest (omega arith) i)
          ∙ ap (λ xs. xs ++ behind) (sym (cond-false (eqb skip n) [] form here))
    ]
one_less listed skip n zero scope rendered (Text text rest) e =
    sym (untouched listed skip (suc n) scope rendered rest (λ j h clash. omega arith))
    ∙ ap (λ xs. xs ++ nodes_form listed (Some skip) (suc n) scope rendered rest)
    (sym (cond-true (eqb skip n) [] (escape_text text) (eq-eqb skip n (omega arith))))
one_less listed skip n (suc k) scope rendered (Text text rest) e =
    ap (λ xs. escape_text text ++ xs) (one_less listed skip (suc n) k scope rendered rest (omega arith))
    ∙ ap (λ xs. xs ++ nodes_form listed (Some skip) (suc n) scope rendered rest)
    (sym (cond-false (eqb skip n) [] (escape_text text) (ne_eqb skip n (λ same. omega arith))))
one_less listed skip n zero scope rendered (Comment text rest) e =
    sym (untouched listed skip (suc n) scope rendered rest (λ j h clash. omega arith))
one_less listed skip n (suc k) scope rendered (Comment text rest) e = one_less listed skip (suc n) k scope rendered rest (omega arith)
one_less listed skip n zero scope rendered (Instruction target value rest) e =
    sym (untouched listed skip (suc n) scope rendered rest (λ j h clash. omega arith))
    ∙ ap (λ xs. xs ++ nodes_form listed (Some skip) (suc n) scope rendered rest)
    (sym (cond-true (eqb skip n) [] (print_instruction target value) (eq-eqb skip n (omega arith))))
one_less listed skip n (suc k) scope rendered (Instruction target value rest) e =
    ap (λ xs. print_instruction target value ++ xs) (one_less listed skip (suc n) k scope rendered rest (omega arith))
    ∙ ap (λ xs. xs ++ nodes_form listed (Some skip) (suc n) scope rendered rest)
    (sym (cond-false (eqb skip n) [] (print_instruction target value) (ne_eqb skip n (λ same. omega arith))))

-- a node alone
alone_form : (listed : List (List ℕ)) (skip : Option ℕ) (n : ℕ) (scope rendered : Scope) (nodes : Nodes) →
    nodes_form listed skip n scope rendered (alone nodes) ≡ node_form listed skip n scope rendered nodes
unfolding nodes_form node_form
alone_form listed skip n scope rendered NoNodes = refl
alone_form listed skip n scope rendered (Element name attributes kids rest) = append-nil _
alone_form listed skip n scope rendered (Text text rest) = append-nil _
alone_form listed skip n scope rendered (Comment text rest) = refl
alone_form listed skip n scope rendered (Instruction target value rest) = append-nil _

kept_form : (listed : List (List ℕ)) (tree : Nodes) (n : ℕ) (skip : Option ℕ) (scope rendered : Scope) → IfSome skip (λ s. n ≤ s) →
    canonical_nodes listed scope rendered (kept_element tree n skip) ≡ node_form listed skip n scope rendered (from_node tree n)
kept_form listed tree n None scope rendered behind =
    whole listed n scope rendered (alone (from_node tree n)) ∙ alone_form listed None n scope rendered (from_node tree n)
kept_form listed tree n (Some skip) scope rendered behind =
    one_less listed skip n (skip - n) scope rendered (alone (from_node tree n)) (omega arith)
    ∙ alone_form listed (Some skip) n scope rendered (from_node tree n)

-- the form of an element, in the scope in which it stands, with nothing rendered
pub form_is_canonical : (listed : List (List ℕ)) (tree : Nodes) (n : ℕ) (skip : Option ℕ) (scope rendered : Scope) →
    IfSome skip (λ s. n ≤ s) → scope ≡ scope_at outermost tree n → rendered ≡ [] →
    node_form listed skip n scope rendered (from_node tree n) ≡ canonical tree n skip listed
form_is_canonical listed tree n skip scope rendered behind place nothing =
    (λ i. node_form listed skip n (place i) (nothing i) (from_node tree n))
    ∙ sym (kept_form listed tree n skip (scope_at outermost tree n) [] behind)
