-- The children, the texts and the names of the elements of a document are those of their contents.
use Rattle.std.proofs.Common.{◌≡◌, ℕ, suc, ◌+◌, ◌<◌, Bool, true, false, cond, List, ◌∷◌, ◌++◌, append_assoc, map, refl, sym, ap, ◌∙◌, subst, arith}
use Rattle.xml_spec.specs.Tree.{Nodes, NoNodes, Element, Text, Comment, Instruction}
use Rattle.xml_spec.specs.Numbering.{size, from_node, kids_of, rest_of}
use Rattle.xml_spec.specs.Names.{Scope, outermost, inner_scope, ExpandedName, element_name}
use Rattle.xml_spec.specs.Canonical.{scope_at}
use Rattle.xml_spec.specs.Content.{Contents, NoContents, ElementContent, TextContent, InstructionContent, with_text_content, content_attributes, content_nodes}
use Rattle.tree_read.specs.Children as walk
use Rattle.tree_read.specs.Children.{Child, is_name, scope_of_kids, elements_of, element_children}
use Rattle.tree_read.specs.Texts.{text_in, text_of}
use Rattle.saml_tree.proofs.Numbers.{kids_from, rest_from}
use Rattle.tree_read.proofs.Placed.{kids_scope, rest_scope}
use Rattle.assertion_model.specs.Contents.{Part, named, names, text}
use Rattle.assertion_model.specs.Parts.{part_in, part_at}

-- these are node k of the tree and those behind it in its list, and they stand in this scope
pub record Stands (tree : Nodes) (k : ℕ) (scope : Scope) (nodes : Nodes) : Type 0 where
  pub found : from_node tree k ≡ nodes
  pub inside : scope_at outermost tree k ≡ scope

pub behind : (tree : Nodes) (k : ℕ) (scope : Scope) (nodes : Nodes) → Stands tree k scope nodes → 0 < size (rest_of nodes) →
    Stands tree (suc (k + size (kids_of nodes))) scope (rest_of nodes)
behind tree k scope nodes here h =
    let there : 0 < size (rest_of (from_node tree k)) = subst (λ nodes. 0 < size (rest_of nodes)) (sym here.found) h in
    record {
      found = ap (λ nodes. from_node tree (suc (k + size (kids_of nodes)))) (sym here.found) ∙ rest_from tree k there ∙ ap rest_of here.found;
      inside = ap (λ nodes. scope_at outermost tree (suc (k + size (kids_of nodes)))) (sym here.found) ∙ rest_scope tree k there ∙ here.inside;
    }

-- behind a node that has no kids
pub next : (tree : Nodes) (k : ℕ) (scope : Scope) (nodes : Nodes) → size (kids_of nodes) ≡ 0 → Stands tree k scope nodes → 0 < size (rest_of nodes) →
    Stands tree (suc k) scope (rest_of nodes)
next tree k scope nodes none here h =
    let place : suc (k + size (kids_of nodes)) ≡ suc k = omega (arith, none) in
    subst (λ n. Stands tree n scope (rest_of nodes)) place (behind tree k scope nodes here h)

pub named_behind_text : (wanted : ExpandedName) (bytes : List ℕ) (contents : Contents) → named wanted (with_text_content bytes contents) ≡ named wanted contents
named_behind_text wanted bytes NoContents = refl
named_behind_text wanted bytes (ElementContent name attributes kids rest) = refl
named_behind_text wanted bytes (TextContent more rest) = refl
named_behind_text wanted bytes (InstructionContent target value rest) = refl

names_behind_text : (bytes : List ℕ) (contents : Contents) → names (with_text_content bytes contents) ≡ names contents
names_behind_text bytes NoContents = refl
names_behind_text bytes (ElementContent name attributes kids rest) = refl
names_behind_text bytes (TextContent more rest) = refl
names_behind_text bytes (InstructionContent target value rest) = refl

text_behind_text : (bytes : List ℕ) (contents : Contents) → text (with_text_content bytes contents) ≡ bytes ++ text contents
text_behind_text bytes NoContents = refl
text_behind_text bytes (ElementContent name attributes kids rest) = refl
text_behind_text bytes (TextContent more rest) = append_assoc bytes more (text rest)
text_behind_text bytes (InstructionContent target value rest) = refl

one_more : (f : ℕ → Part) (b : Bool) (p : Part) (k : ℕ) (ps : List Part) (ks : List ℕ) → f k ≡ p → ps ≡ map f ks →
    cond b (p ∷ ps) ps ≡ map f (cond b (k ∷ ks) ks)
one_more f true p k ps ks one others = λ i. sym one i ∷ others i
one_more f false p k ps ks one others = others

pub some : (n : ℕ) → 0 < suc n
some n = omega arith

named_in : (wanted : ExpandedName) (tree : Nodes) (scope : Scope) (k : ℕ) (nodes : Nodes) → (0 < size nodes → Stands tree k scope nodes) →
    named wanted (content_nodes scope nodes) ≡ map (part_at tree) (walk.named wanted (elements_of scope k nodes))
named_in wanted tree scope k NoNodes stands = refl
named_in wanted tree scope k (Element name attributes kids rest) stands =
    let here = stands (some (size kids + size rest)) in
    let inner = inner_scope attributes scope in
    one_more (part_at tree) (is_name wanted (element_name inner name))
    (record { attributes = content_attributes inner attributes; kids = content_nodes inner kids }) k _ _
    (λ i. part_in (here.inside i) (here.found i))
    (named_in wanted tree scope (suc (k + size kids)) rest (behind tree k scope (Element name attributes kids rest) here))
named_in wanted tree scope k (Text bytes rest) stands =
    named_behind_text wanted bytes (content_nodes scope rest)
    ∙ named_in wanted tree scope (suc k) rest (next tree k scope (Text bytes rest) refl (stands (some (size rest))))
named_in wanted tree scope k (Comment bytes rest) stands =
    named_in wanted tree scope (suc k) rest (next tree k scope (Comment bytes rest) refl (stands (some (size rest))))
named_in wanted tree scope k (Instruction target value rest) stands =
    named_in wanted tree scope (suc k) rest (next tree k scope (Instruction target value rest) refl (stands (some (size rest))))

pub named_at : (wanted : ExpandedName) (tree : Nodes) (k : ℕ) → named wanted (part_at tree k).kids ≡ map (part_at tree) (walk.children tree k wanted)
named_at wanted tree k =
    named_in wanted tree (scope_of_kids (scope_at outermost tree k) (from_node tree k)) (suc k) (kids_of (from_node tree k))
    (λ h. record { found = kids_from tree k h; inside = kids_scope tree k h })

names_in : (scope : Scope) (k : ℕ) (nodes : Nodes) → names (content_nodes scope nodes) ≡ map (λ (c : Child). c.name) (elements_of scope k nodes)
names_in scope k NoNodes = refl
names_in scope k (Element name attributes kids rest) =
    ap (λ others. element_name (inner_scope attributes scope) name ∷ others) (names_in scope (suc (k + size kids)) rest)
names_in scope k (Text bytes rest) = names_behind_text bytes (content_nodes scope rest) ∙ names_in scope (suc k) rest
names_in scope k (Comment bytes rest) = names_in scope (suc k) rest
names_in scope k (Instruction target value rest) = names_in scope (suc k) rest

pub names_at : (tree : Nodes) (k : ℕ) → names (part_at tree k).kids ≡ map (λ (c : Child). c.name) (element_children tree k)
names_at tree k = names_in (scope_of_kids (scope_at outermost tree k) (from_node tree k)) (suc k) (kids_of (from_node tree k))

text_is : (scope : Scope) (nodes : Nodes) → text (content_nodes scope nodes) ≡ text_in nodes
text_is scope NoNodes = refl
text_is scope (Element name attributes kids rest) = λ i. text_is (inner_scope attributes scope) kids i ++ text_is scope rest i
text_is scope (Text bytes rest) = text_behind_text bytes (content_nodes scope rest) ∙ ap (λ more. bytes ++ more) (text_is scope rest)
text_is scope (Comment bytes rest) = text_is scope rest
text_is scope (Instruction target value rest) = text_is scope rest

pub text_at : (tree : Nodes) (k : ℕ) → text (part_at tree k).kids ≡ text_of tree k
text_at tree k = text_is (scope_of_kids (scope_at outermost tree k) (from_node tree k)) (kids_of (from_node tree k))
