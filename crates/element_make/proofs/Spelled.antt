-- The tree of a made element can be written, and its canonical form spells just that tree.
use Rattle.std.proofs.Common.{◌≡◌, ℕ, Bool, true, false, ◌||◌, ◌&&◌, nat_le, List, [], ◌∷◌, ◌++◌, map, codes, None, refl, sym, ap, ◌∙◌, append_assoc}
use Rattle.std.specs.List.{AllByRecursion, list_any, list_all}
use Rattle.std.specs.Char.{encode_utf8}
use Rattle.std.specs.Str.{chars, encode_utf8_all}
use Rattle.std.proofs.lemmas.List.{append-nil}
use Rattle.std.proofs.lemmas.List.Folds.{list_all-append}
use Rattle.std.proofs.lemmas.List.Concat.{flat_map-append}
use Rattle.xml_spec.specs.Ascii.{colon}
use Rattle.xml_spec.specs.Characters.{IsText, IsName, Ranges, in_ranges, name_start_ranges, is_char, is_name_start, is_name_char}
use Rattle.xml_spec.specs.Tree.{Attribute, Nodes, NoNodes, Element, Text, Comment, Instruction, with_text}
use Rattle.xml_spec.specs.Names.{Binding, Scope, outermost, inner_scope}
use Rattle.xml_spec.specs.Canonical.{declaration_name, written_attributes}
use Rattle.xml_spec.proofs.Valid.{name_shown}
use Rattle.xml_spec.proofs.Tests.{and_true}
use Rattle.xml_spec.proofs.Sorting.{each_weaker}
use Rattle.canon_laws.specs.Trees.{declaration_of, canonical_tree_of, canonical_tree}
use Rattle.canon_laws.specs.Writable.{IsWritableAttribute, IsWritable}
use Rattle.element_make.specs.declared.names.Ns.{Ns}
use Rattle.element_make.specs.declared.names.Ns.TheVariants.{Saml, Samlp, Ds, Md}
use Rattle.element_make.specs.declared.scope.Declared.{Declared}
use Rattle.element_make.specs.Prefixes.{prefix, namespace, same}
use Rattle.element_make.specs.Made.{Made, MadeNodes, NothingMade, MadeElement, MadeText, alone, qualified, nodes_of, tree_of, IsMadeAttribute, AreMade, IsMade}
use Rattle.element_make.specs.Writing.{nothing_declared, also_declared, by_name}
use Rattle.element_make.proofs.Plain.{each_by_name}
use Rattle.element_make.proofs.Forms.{Agree, given, added, agree_inside, agree_outside, none_rendered, inner_is, attributes_are, declarations_are}

-- texts that meet
text_twice : (b : ℕ) (s t : List ℕ) (nodes : Nodes) → with_text ((b ∷ s) ++ t) nodes ≡ with_text (b ∷ s) (with_text t nodes)
text_twice b s [] nodes = ap (λ x. with_text x nodes) (append-nil (b ∷ s))
text_twice b s (c ∷ t) NoNodes = refl
text_twice b s (c ∷ t) (Element name attributes kids rest) = refl
text_twice b s (c ∷ t) (Text other rest) = ap (λ x. Text x rest) (append_assoc (b ∷ s) (c ∷ t) other)
text_twice b s (c ∷ t) (Comment other rest) = refl
text_twice b s (c ∷ t) (Instruction target value rest) = refl

text_stays : (scope rendered : Scope) (t : List ℕ) (nodes : Nodes) →
    canonical_tree_of [] scope rendered (with_text t nodes) ≡ with_text t (canonical_tree_of [] scope rendered nodes)
text_stays scope rendered [] nodes = refl
text_stays scope rendered (b ∷ t) NoNodes = refl
text_stays scope rendered (b ∷ t) (Element name attributes kids rest) = refl
text_stays scope rendered (b ∷ t) (Text other rest) = text_twice b t other (canonical_tree_of [] scope rendered rest)
text_stays scope rendered (b ∷ t) (Comment other rest) = refl
text_stays scope rendered (b ∷ t) (Instruction target value rest) = refl

given_are : (there : Bool) (ns : Ns) → map declaration_of (added there ns) ≡ given there ns
given_are true ns = refl
given_are false ns = refl

-- the tree of the canonical form, where the scope and what was rendered are those of the elements outside
tree_stays : (nodes : MadeNodes) (declared : List Ns) (flags : Declared) (scope rendered : Scope) → AreMade nodes →
    Agree declared flags scope → Agree declared flags rendered → canonical_tree_of [] scope rendered (nodes_of declared nodes) ≡ nodes_of declared nodes
tree_stays NothingMade declared flags scope rendered made agree agreed = refl
tree_stays (MadeElement ns local attributes kids rest) declared flags scope rendered made agree agreed =
    let there = list_any (same ns) declared in
    let e = agree.listed ns in
    let all = given there ns ++ by_name attributes in
    let name = qualified ns local in
    let inner = inner_scope all scope in
    let is = inner_is declared flags scope rendered ns local attributes there e made.1 agree agreed in
    let behind = canonical_tree_of [] scope rendered (nodes_of declared rest) in
    ap (λ (bs : List Binding). Element name (map declaration_of bs ++ written_attributes inner all) (canonical_tree_of [] inner (bs ++ rendered) (nodes_of (ns ∷ declared) kids)) behind)
    (declarations_are declared flags scope rendered ns local attributes there e made.1 agree agreed inner is)
    ∙ ap (λ xs. Element name (map declaration_of (added there ns) ++ xs) (canonical_tree_of [] inner (added there ns ++ rendered) (nodes_of (ns ∷ declared) kids)) behind)
    (attributes_are declared flags scope rendered ns local attributes there e made.1 agree agreed inner)
    ∙ ap (λ xs. Element name (xs ++ by_name attributes) (canonical_tree_of [] inner (added there ns ++ rendered) (nodes_of (ns ∷ declared) kids)) behind)
    (given_are there ns)
    ∙ ap (λ (s : Scope). Element name all (canonical_tree_of [] s (added there ns ++ rendered) (nodes_of (ns ∷ declared) kids)) behind) is
    ∙ ap (λ k. Element name all k behind)
    (tree_stays kids (ns ∷ declared) (also_declared flags ns) (added there ns ++ scope) (added there ns ++ rendered) made.3
    (agree_inside declared flags scope ns there e agree) (agree_inside declared flags rendered ns there e agreed))
    ∙ ap (λ r. Element name all (nodes_of (ns ∷ declared) kids) r) (tree_stays rest declared flags scope rendered made.4 agree agreed)
tree_stays (MadeText text rest) declared flags scope rendered made agree agreed =
    text_stays scope rendered text (nodes_of declared rest)
    ∙ ap (with_text text) (tree_stays rest declared flags scope rendered made.1 agree agreed)

-- the canonical form of a made element is of the element's own tree
pub tree_is_canonical : (made : Made) → IsMade made → canonical_tree (tree_of made) 0 None [] ≡ tree_of made
tree_is_canonical made is = tree_stays (alone made) [] nothing_declared outermost [] is agree_outside none_rendered

-- a character that begins a name is one of a name
or_true : (a b : Bool) → b ≡ true → (a || b) ≡ true
or_true true b h = refl
or_true false b h = h

one_more_range : (range : ℕ × ℕ) (ranges : Ranges) (c : ℕ) → in_ranges ranges c ≡ true → in_ranges (range ∷ ranges) c ≡ true
one_more_range range ranges c h = or_true (nat_le range.0 c && nat_le c range.1) (in_ranges ranges c) h

more_ranges : (front ranges : Ranges) (c : ℕ) → in_ranges ranges c ≡ true → in_ranges (front ++ ranges) c ≡ true
more_ranges [] ranges c h = h
more_ranges (range ∷ front) ranges c h = one_more_range range (front ++ ranges) c (more_ranges front ranges c h)

name_goes_on : (c : ℕ) → is_name_start c ≡ true → is_name_char c ≡ true
name_goes_on c h =
    more_ranges ((45, 45) ∷ (46, 46) ∷ (48, 57) ∷ (0xB7, 0xB7) ∷ (0x300, 0x36F) ∷ (0x203F, 0x2040) ∷ []) name_start_ranges c h

qualified_is_name : (ns : Ns) (local : List ℕ) → IsName local → IsName (qualified ns local)
unfolding encode_utf8
qualified_is_name Saml local is = record {
  first = 115;
  others = codes "aml" ++ colon ∷ is.first ∷ is.others;
  starts = refl;
  goes_on = and_true (is_name_char is.first) (list_all is_name_char is.others) (name_goes_on is.first is.starts) is.goes_on;
  spelled = ap (λ l. prefix Saml ++ colon ∷ l) is.spelled;
}
qualified_is_name Samlp local is = record {
  first = 115;
  others = codes "amlp" ++ colon ∷ is.first ∷ is.others;
  starts = refl;
  goes_on = and_true (is_name_char is.first) (list_all is_name_char is.others) (name_goes_on is.first is.starts) is.goes_on;
  spelled = ap (λ l. prefix Samlp ++ colon ∷ l) is.spelled;
}
qualified_is_name Ds local is = record {
  first = 100;
  others = codes "s" ++ colon ∷ is.first ∷ is.others;
  starts = refl;
  goes_on = and_true (is_name_char is.first) (list_all is_name_char is.others) (name_goes_on is.first is.starts) is.goes_on;
  spelled = ap (λ l. prefix Ds ++ colon ∷ l) is.spelled;
}
qualified_is_name Md local is = record {
  first = 109;
  others = codes "d" ++ colon ∷ is.first ∷ is.others;
  starts = refl;
  goes_on = and_true (is_name_char is.first) (list_all is_name_char is.others) (name_goes_on is.first is.starts) is.goes_on;
  spelled = ap (λ l. prefix Md ++ colon ∷ l) is.spelled;
}

declaration_is_name : (ns : Ns) → IsName (declaration_name (prefix ns))
unfolding chars encode_utf8
declaration_is_name Saml = name_shown _ refl
declaration_is_name Samlp = name_shown _ refl
declaration_is_name Ds = name_shown _ refl
declaration_is_name Md = name_shown _ refl

namespace_is_text : (ns : Ns) → IsText (namespace ns)
unfolding encode_utf8
namespace_is_text Saml = record { characters = namespace Saml; allowed = refl; spelled = refl }
namespace_is_text Samlp = record { characters = namespace Samlp; allowed = refl; spelled = refl }
namespace_is_text Ds = record { characters = namespace Ds; allowed = refl; spelled = refl }
namespace_is_text Md = record { characters = namespace Md; allowed = refl; spelled = refl }

attribute_is_writable : (a : Attribute) → IsMadeAttribute a → IsWritableAttribute a
attribute_is_writable a made = record { name = made.name.0; value = made.value }

all_writable : (there : Bool) (ns : Ns) (attributes : List Attribute) → AllByRecursion IsMadeAttribute attributes →
    AllByRecursion IsWritableAttribute (given there ns ++ by_name attributes)
all_writable true ns attributes made =
    each_weaker IsMadeAttribute IsWritableAttribute attribute_is_writable (by_name attributes) (each_by_name IsMadeAttribute attributes made)
all_writable false ns attributes made = (
  record { name = declaration_is_name ns; value = namespace_is_text ns },
  each_weaker IsMadeAttribute IsWritableAttribute attribute_is_writable (by_name attributes) (each_by_name IsMadeAttribute attributes made),
)

text_is_writable : (t : List ℕ) (nodes : Nodes) → IsText t → IsWritable nodes → IsWritable (with_text t nodes)
text_is_writable [] nodes is h = h
text_is_writable (b ∷ t) NoNodes is h = (is, h)
text_is_writable (b ∷ t) (Element name attributes kids rest) is h = (is, h)
text_is_writable (b ∷ t) (Text other rest) is h = (
  record {
    characters = is.characters ++ h.0.characters;
    allowed = list_all-append is_char is.characters h.0.characters ∙ and_true (list_all is_char is.characters) (list_all is_char h.0.characters) is.allowed h.0.allowed;
    spelled =
        ap (λ x. x ++ other) is.spelled ∙ ap (λ x. encode_utf8_all is.characters ++ x) h.0.spelled
        ∙ sym (flat_map-append encode_utf8 is.characters h.0.characters);
  },
  h.1,
)
text_is_writable (b ∷ t) (Comment other rest) is h = (is, h)
text_is_writable (b ∷ t) (Instruction target value rest) is h = (is, h)

are_writable : (nodes : MadeNodes) (declared : List Ns) → AreMade nodes → IsWritable (nodes_of declared nodes)
are_writable NothingMade declared made = tt
are_writable (MadeElement ns local attributes kids rest) declared made = (
  qualified_is_name ns local made.0.0,
  all_writable (list_any (same ns) declared) ns attributes made.1,
  are_writable kids (ns ∷ declared) made.3,
  are_writable rest declared made.4,
)
are_writable (MadeText text rest) declared made = text_is_writable text (nodes_of declared rest) made.0 (are_writable rest declared made.1)

pub is_writable : (made : Made) → IsMade made → IsWritable (tree_of made)
is_writable made is = are_writable (alone made) [] is
