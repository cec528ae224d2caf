-- The attribute of a local name is found by the names that a document shows of its attributes.
use Rattle.std.proofs.Common.{◌≡◌, ℕ, zero, suc, ◌+◌, Bool, true, false, ◌&&◌, not, cond, List, [], ◌∷◌, length, drop, Option, Some, None, IfSome, refl, sym, ap, ◌∙◌, add-one}
use Rattle.std.specs.List.{slice_get}
use Rattle.std.specs.Option.{option_map, option_and_then}
use Rattle.std.specs.Str.{bytes_eq}
use Rattle.std.proofs.lemmas.Bool.{cond-true, cond-false}
use Rattle.xml_spec.specs.Bytes.{is_empty}
use Rattle.xml_spec.specs.Characters.{prefix_of, local_of}
use Rattle.xml_spec.specs.Tree.{Attribute, Nodes}
use Rattle.xml_spec.specs.Numbering.{from_node}
use Rattle.xml_spec.specs.Names.{Scope, outermost, inner_scope, is_declaration, proper_attributes, xmlns_namespace, namespace_of}
use Rattle.xml_spec.specs.Canonical.{scope_at}
use Rattle.saml_tree.specs.Documents.{attributes_of}
use Rattle.saml_tree.specs.NodeNames.{ShownName, attribute_at, attribute_name_at, shown_attribute_name}
use Rattle.saml_tree.specs.Elements.{attributes_in}
use Rattle.tree_read.specs.Texts.{is_unprefixed, value_of}
use Rattle.tree_read.specs.Places.{is_plain, value_at}

-- an attribute, its name as shown, and those behind it
pub record IsShown (tree : Nodes) (n i : ℕ) (shown : ShownName) : Type 0 where
  pub attribute : Attribute
  pub scope : Scope
  pub there : attribute_at tree n i ≡ Some attribute
  pub named : shown_attribute_name scope attribute ≡ shown
  pub behind : drop i (attributes_in (from_node tree n)) ≡ attribute ∷ drop (suc i) (attributes_in (from_node tree n))

some_is : {X : Type 0} (x y : X) → Some x ≡ Some y → x ≡ y
some_is x y e = cc

got : (attributes : List Attribute) (i : ℕ) (o : Option Attribute) → slice_get attributes i ≡ o →
    IfSome o (λ a. drop i attributes ≡ a ∷ drop (suc i) attributes)
got attributes i None e = tt
got [] i (Some a) e = absurd (let clash : None ≡ Some a = e in cc)
got (b ∷ attributes) zero (Some a) e = ap (λ c. c ∷ attributes) (some_is b a e)
got (b ∷ attributes) (suc i) (Some a) e = got attributes i (Some a) e

pub is_shown : (tree : Nodes) (n i : ℕ) (shown : ShownName) → attribute_name_at tree n i ≡ Some shown → IsShown tree n i shown
is_shown tree n i shown e = which (attributes_of (from_node tree n)) refl e
  where
    at : (attributes : List Attribute) (o : Option Attribute) → attributes_of (from_node tree n) ≡ Some attributes → slice_get attributes i ≡ o →
        option_map (shown_attribute_name (inner_scope attributes (scope_at outermost tree n))) o ≡ Some shown → IsShown tree n i shown
    at attributes None is there e = absurd (let clash : None ≡ Some shown = e in cc)
    at attributes (Some a) is there e =
        let here : attributes_in (from_node tree n) ≡ attributes = rw is refl in
        record {
          attribute = a;
          scope = inner_scope attributes (scope_at outermost tree n);
          there = rw is there;
          named = some_is _ _ e;
          behind = rw here (got attributes i (Some a) there);
        }

    which : (o : Option (List Attribute)) → attributes_of (from_node tree n) ≡ o →
        option_and_then (λ attributes. option_map (shown_attribute_name (inner_scope attributes (scope_at outermost tree n))) (slice_get attributes i)) o
        ≡ Some shown → IsShown tree n i shown
    which None is e = absurd (let clash : None ≡ Some shown = e in cc)
    which (Some attributes) is e = at attributes (slice_get attributes i) is refl e

-- the names of a declaration and of another attribute without a prefix
plain_of : (scope : Scope) (a : Attribute) (local : List ℕ) →
    is_plain (shown_attribute_name scope a) local ≡ (not (is_declaration a) && is_unprefixed local a)
plain_of scope a local = which (is_declaration a) (prefix_of a.name)
  where
    which : (declares : Bool) (prefix : List ℕ) →
        (is_empty prefix && (is_empty (cond declares xmlns_namespace (cond (is_empty prefix) [] (namespace_of scope prefix))) && bytes_eq (local_of a.name) local))
        ≡ (not declares && (is_empty prefix && bytes_eq (local_of a.name) local))
    which true [] = refl
    which true (b ∷ prefix) = refl
    which false [] = refl
    which false (b ∷ prefix) = refl

-- the value that is found among proper attributes, if the first of all is looked at
first_value : (local : List ℕ) (a : Attribute) (attributes : List Attribute) →
    value_of local (proper_attributes (a ∷ attributes))
    ≡ cond (not (is_declaration a) && is_unprefixed local a) (Some a.value) (value_of local (proper_attributes attributes))
first_value local a attributes = which (is_declaration a)
  where
    which : (declares : Bool) →
        value_of local (cond (not declares) (a ∷ proper_attributes attributes) (proper_attributes attributes))
        ≡ cond (not declares && is_unprefixed local a) (Some a.value) (value_of local (proper_attributes attributes))
    which true = refl
    which false = refl

-- the value among the attributes from number i on
abbrev pub value_from : Nodes → ℕ → List ℕ → ℕ → Option (List ℕ)
value_from tree n local i = value_of local (proper_attributes (drop i (attributes_in (from_node tree n))))

pub value_here : (tree : Nodes) (n i : ℕ) (local : List ℕ) (shown : ShownName) → attribute_name_at tree n i ≡ Some shown →
    is_plain shown local ≡ true → value_from tree n local i ≡ value_at tree n (Some i)
value_here tree n i local shown e plain =
    let is = is_shown tree n i shown e in
    ap (λ attributes. value_of local (proper_attributes attributes)) is.behind
    ∙ first_value local is.attribute (drop (suc i) (attributes_in (from_node tree n)))
    ∙ cond-true _ _ _ (sym (plain_of is.scope is.attribute local) ∙ ap (λ (s : ShownName). is_plain s local) is.named ∙ plain)
    ∙ sym (ap (option_map (λ (a : Attribute). a.value)) is.there)

pub value_behind : (tree : Nodes) (n i : ℕ) (local : List ℕ) (shown : ShownName) → attribute_name_at tree n i ≡ Some shown →
    is_plain shown local ≡ false → value_from tree n local i ≡ value_from tree n local (i + 1)
value_behind tree n i local shown e plain =
    let is = is_shown tree n i shown e in
    ap (λ attributes. value_of local (proper_attributes attributes)) is.behind
    ∙ first_value local is.attribute (drop (suc i) (attributes_in (from_node tree n)))
    ∙ cond-false _ _ _ (sym (plain_of is.scope is.attribute local) ∙ ap (λ (s : ShownName). is_plain s local) is.named ∙ plain)
    ∙ ap (value_from tree n local) (sym (add-one i))

-- the number of attributes
abbrev pub HasCount : Nodes → ℕ → ℕ → Type 0
HasCount tree n count = option_map length (attributes_of (from_node tree n)) ≡ Some count
