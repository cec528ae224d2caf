-- An element that was put among made nodes stands where its place says.
use Rattle.std.proofs.Common.{◌≡◌, ℕ, suc, ◌+◌, ◌<◌, true, List, [], ◌∷◌, ◌++◌, codes, None, refl, sym, ap, ◌∙◌, subst, arith}
use Rattle.xml_spec.specs.Tree.{Attribute, Nodes, NoNodes, Element, Text, Comment, Instruction, with_text}
use Rattle.xml_spec.specs.Numbering.{size, from_node, kids_of, rest_of}
use Rattle.xml_spec.specs.Names.{Scope, outermost, inner_scope}
use Rattle.xml_spec.specs.Canonical.{scope_at, canonical}
use Rattle.canon_laws.specs.Trees.{begins_with_element}
use Rattle.element_make.specs.declared.names.Ns.{Ns}
use Rattle.element_make.specs.Made.{Made, MadeNodes, NothingMade, MadeElement, MadeText, alone, joined, qualified, declaration_in, nodes_of, tree_of, written, AreMade, IsMade}
use Rattle.element_make.specs.Writing.{by_name}
use Rattle.saml_names.specs.Names.{ds}
use Rattle.tree_read.specs.Children.{named, children}
use Rattle.saml_tree.proofs.Numbers.{rest_from}
use Rattle.tree_read.proofs.Placed.{rest_scope}
use Rattle.sig_reference.specs.Placing.{Around, Beside, Inside, filled, place, place_in}
use Rattle.sig_reference.specs.Signing.{has_no_signature}
use Rattle.sig_reference.proofs.AnyScope.{same_form}
use Rattle.sig_reference.proofs.MadeNames.{none_signed}
use Rattle.sig_reference.proofs.MadeScopes.{Has, has_none, has_inside}
use Rattle.tree_read.proofs.Places.{Stands, some, first_kid, kids_here, canonical_here}

-- the nodes and then others, where no texts meet
abbrev followed : Nodes → Nodes → Nodes
followed NoNodes others = others
followed (Element name attributes kids rest) others = Element name attributes kids (followed rest others)
followed (Text text rest) others = Text text (followed rest others)
followed (Comment text rest) others = Comment text (followed rest others)
followed (Instruction target value rest) others = Instruction target value (followed rest others)

text_followed : (text : List ℕ) (nodes : Nodes) (name : List ℕ) (attributes : List Attribute) (kids rest : Nodes) →
    with_text text (followed nodes (Element name attributes kids rest)) ≡ followed (with_text text nodes) (Element name attributes kids rest)
text_followed [] nodes name attributes kids rest = refl
text_followed (b ∷ text) NoNodes name attributes kids rest = refl
text_followed (b ∷ text) (Element n a k r) name attributes kids rest = refl
text_followed (b ∷ text) (Text t r) name attributes kids rest = refl
text_followed (b ∷ text) (Comment t r) name attributes kids rest = refl
text_followed (b ∷ text) (Instruction t v r) name attributes kids rest = refl

-- the nodes in front of an element stand for the same nodes without it
joined_is : (declared : List Ns) (before : MadeNodes) (ns : Ns) (local : List ℕ) (attributes : List Attribute) (kids after : MadeNodes) →
    nodes_of declared (joined before (MadeElement ns local attributes kids after))
    ≡ followed (nodes_of declared before) (nodes_of declared (MadeElement ns local attributes kids after))
joined_is declared NothingMade ns local attributes kids after = refl
joined_is declared (MadeElement n l a k rest) ns local attributes kids after =
    ap (λ nodes. Element (qualified n l) (declaration_in declared n ++ by_name a) (nodes_of (n ∷ declared) k) nodes)
    (joined_is declared rest ns local attributes kids after)
joined_is declared (MadeText text rest) ns local attributes kids after =
    ap (λ nodes. with_text text nodes) (joined_is declared rest ns local attributes kids after)
    ∙ text_followed text (nodes_of declared rest) (qualified ns local) (declaration_in declared ns ++ by_name attributes)
    (nodes_of (ns ∷ declared) kids) (nodes_of declared after)

some_followed : (nodes others : Nodes) → 0 < size others → 0 < size (followed nodes others)
some_followed NoNodes others h = h
some_followed (Element name attributes kids rest) others h = omega arith
some_followed (Text text rest) others h = omega arith
some_followed (Comment text rest) others h = omega arith
some_followed (Instruction target value rest) others h = omega arith

-- the node behind one in its list
next : {tree : Nodes} {k : ℕ} {scope : Scope} {nodes : Nodes} → Stands tree k scope nodes → 0 < size (rest_of nodes) →
    Stands tree (suc (k + size (kids_of nodes))) scope (rest_of nodes)
next {tree} {k} {scope} {nodes} here h =
    let there : 0 < size (rest_of (from_node tree k)) = subst (λ n. 0 < size (rest_of n)) (sym here.found) h in
    record {
      found = ap (λ n. from_node tree (suc (k + size (kids_of n)))) (sym here.found) ∙ rest_from tree k there ∙ ap rest_of here.found;
      inside = ap (λ n. scope_at outermost tree (suc (k + size (kids_of n)))) (sym here.found) ∙ rest_scope tree k there ∙ here.inside;
    }

moved : {tree : Nodes} {k m : ℕ} {scope : Scope} {nodes : Nodes} → k ≡ m → Stands tree k scope nodes → Stands tree m scope nodes
moved {tree} {k} {m} {scope} {nodes} e here = subst (λ n. Stands tree n scope nodes) e here

-- what follows others stands behind all of them
behind_all : (nodes others : Nodes) (tree : Nodes) (k : ℕ) (scope : Scope) → 0 < size others → Stands tree k scope (followed nodes others) →
    Stands tree (k + size nodes) scope others
behind_all NoNodes others tree k scope h here = moved (omega arith) here
behind_all (Element name attributes kids rest) others tree k scope h here =
    moved (omega arith) (behind_all rest others tree (suc (k + size kids)) scope h (next here (some_followed rest others h)))
behind_all (Text text rest) others tree k scope h here =
    moved (omega arith) (behind_all rest others tree (suc (k + 0)) scope h (next here (some_followed rest others h)))
behind_all (Comment text rest) others tree k scope h here =
    moved (omega arith) (behind_all rest others tree (suc (k + 0)) scope h (next here (some_followed rest others h)))
behind_all (Instruction target value rest) others tree k scope h here =
    moved (omega arith) (behind_all rest others tree (suc (k + 0)) scope h (next here (some_followed rest others h)))

-- an element behind others
behind_made : (declared : List Ns) (before : MadeNodes) (ns : Ns) (local : List ℕ) (attributes : List Attribute) (kids after : MadeNodes)
    (tree : Nodes) (k : ℕ) (scope : Scope) → Stands tree k scope (nodes_of declared (joined before (MadeElement ns local attributes kids after))) →
    Stands tree (k + size (nodes_of declared before)) scope (nodes_of declared (MadeElement ns local attributes kids after))
behind_made declared before ns local attributes kids after tree k scope here =
    behind_all (nodes_of declared before) (nodes_of declared (MadeElement ns local attributes kids after)) tree k scope (some _)
    (subst (Stands tree k scope) (joined_is declared before ns local attributes kids after) here)

-- nodes that can be made
last_made : (nodes more : MadeNodes) → AreMade (joined nodes more) → AreMade more
last_made NothingMade more made = made
last_made (MadeElement ns local attributes kids rest) more made = last_made rest more made.4
last_made (MadeText text rest) more made = last_made rest more made.1

some_filled : (around : Around) (made : Made) (declared : List Ns) → 0 < size (nodes_of declared (filled around made))
some_filled (Beside before after) made declared =
    subst (λ nodes. 0 < size nodes) (sym (joined_is declared before made.ns made.local made.attributes made.kids after))
    (some_followed (nodes_of declared before) (nodes_of declared (joined (alone made) after)) (some _))
some_filled (Inside before ns local attributes around after) made declared =
    subst (λ nodes. 0 < size nodes) (sym (joined_is declared before ns local attributes (filled around made) after))
    (some_followed (nodes_of declared before) (nodes_of declared (MadeElement ns local attributes (filled around made) after)) (some _))

-- node k of the tree is this element, inside elements that declare some namespaces, with some nodes behind it
pub record IsPut (tree : Nodes) (k : ℕ) (made : Made) : Type 0 where
  pub declared : List Ns
  pub scope : Scope
  pub after : MadeNodes
  pub has : Has declared scope
  pub here : Stands tree k scope (nodes_of declared (joined (alone made) after))
  pub is : IsMade made

put_among : (around : Around) (made : Made) (declared : List Ns) (tree : Nodes) (k : ℕ) (scope : Scope) → Has declared scope → AreMade (filled around made) →
    Stands tree k scope (nodes_of declared (filled around made)) → IsPut tree (k + place declared around) made
put_among (Beside before after) made declared tree k scope has is here =
    let last = last_made before (joined (alone made) after) is in
    record {
      declared = declared;
      scope = scope;
      after = after;
      has = has;
      here = behind_made declared before made.ns made.local made.attributes made.kids after tree k scope here;
      is = (last.0, last.1, last.2, last.3, tt);
    }
put_among (Inside before ns local attributes around after) made declared tree k scope has is here =
    let last = last_made before (MadeElement ns local attributes (filled around made) after) is in
    let there = k + size (nodes_of declared before) in
    let element = behind_made declared before ns local attributes (filled around made) after tree k scope here in
    let number : suc there + place (ns ∷ declared) around ≡ k + (size (nodes_of declared before) + (1 + place (ns ∷ declared) around)) = omega arith in
    subst (λ n. IsPut tree n made) number
    (put_among around made (ns ∷ declared) tree (suc there) (inner_scope (declaration_in declared ns ++ by_name attributes) scope)
    (has_inside declared scope has ns attributes last.1) last.3 (first_kid element (some_filled around made (ns ∷ declared))))

-- an element alone
pub put_alone : (made : Made) → IsMade made → IsPut (tree_of made) 0 made
put_alone made is = record {
  declared = [];
  scope = outermost;
  after = NothingMade;
  has = has_none;
  here = record { found = refl; inside = refl };
  is = is;
}

-- an element in another one
pub put_in : (around : Around) (outer made : Made) → outer.kids ≡ filled around made → IsMade outer → IsPut (tree_of outer) (place_in outer around) made
put_in around outer made e is =
    let root : Stands (tree_of outer) 0 outermost (tree_of outer) = record { found = refl; inside = refl } in
    let filled_made : AreMade (filled around made) = subst AreMade e is.3 in
    let kids : Stands (tree_of outer) 1 (inner_scope (declaration_in [] outer.ns ++ by_name outer.attributes) outermost) (nodes_of (outer.ns ∷ []) outer.kids) =
    first_kid root (subst (λ nodes. 0 < size (nodes_of (outer.ns ∷ []) nodes)) (sym e) (some_filled around made (outer.ns ∷ []))) in
    put_among around made (outer.ns ∷ []) (tree_of outer) 1 (inner_scope (declaration_in [] outer.ns ++ by_name outer.attributes) outermost)
    (has_inside [] outermost has_none outer.ns outer.attributes is.1) filled_made
    (subst (λ nodes. Stands (tree_of outer) 1 (inner_scope (declaration_in [] outer.ns ++ by_name outer.attributes) outermost) (nodes_of (outer.ns ∷ []) nodes)) e kids)

pub put_is_element : {tree : Nodes} {k : ℕ} {made : Made} → IsPut tree k made → begins_with_element (from_node tree k) ≡ true
put_is_element put = ap begins_with_element put.here.found

-- its form is what is written of it alone
pub put_form : {tree : Nodes} {k : ℕ} {made : Made} → IsPut tree k made → canonical tree k None [] ≡ written made
put_form {tree} {k} {made} put = canonical_here put.here ∙ same_form made put.declared put.scope put.has put.is

pub put_unsigned : {tree : Nodes} {k : ℕ} {made : Made} → IsPut tree k made → has_no_signature made.kids ≡ true →
    children tree k (ds (codes "Signature")) ≡ []
put_unsigned {tree} {k} {made} put unsigned =
    ap (named (ds (codes "Signature"))) (kids_here put.here)
    ∙ none_signed (made.ns ∷ put.declared) (inner_scope (declaration_in put.declared made.ns ++ by_name made.attributes) put.scope)
    (has_inside put.declared put.scope put.has made.ns made.attributes put.is.1) made.kids put.is.3 unsigned (suc k)
