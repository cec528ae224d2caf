-- The names of an element's attributes from one of them on.
use Rattle.std.proofs.Common.{◌≡◌, ℕ, zero, suc, ◌+◌, List, [], ◌∷◌, drop, map, Option, Some, None, ap, sym, ◌∙◌, add-one}
use Rattle.std.specs.List.{slice_get}
use Rattle.std.specs.Option.{option_map, option_map_or, option_and_then}
use Rattle.xml_spec.specs.Tree.{Attribute, Nodes}
use Rattle.xml_spec.specs.Numbering.{from_node}
use Rattle.xml_spec.specs.Names.{outermost, inner_scope}
use Rattle.xml_spec.specs.Canonical.{scope_at}
use Rattle.saml_tree.specs.Documents.{attributes_of}
use Rattle.saml_tree.specs.NodeNames.{ShownName, attribute_name_at, shown_attribute_name}
use Rattle.tree_read.specs.AttributeNames.{attribute_names}

some_is : {X : Type 0} (x y : X) → Some x ≡ Some y → x ≡ y
some_is x y e = cc

from_on : {A B : Type 0} (f : A → B) (xs : List A) (i : ℕ) (y : B) → option_map f (slice_get xs i) ≡ Some y →
    drop i (map f xs) ≡ y ∷ drop (suc i) (map f xs)
from_on f [] i y e = absurd (let clash : None ≡ Some y = e in cc)
from_on f (x ∷ xs) zero y e = ap (λ z. z ∷ map f xs) (some_is (f x) y e)
from_on f (x ∷ xs) (suc i) y e = from_on f xs i y e

pub names_left : (tree : Nodes) (n i : ℕ) (shown : ShownName) → attribute_name_at tree n i ≡ Some shown →
    drop i (attribute_names tree n) ≡ shown ∷ drop (i + 1) (attribute_names tree n)
names_left tree n i shown e =
    which (attributes_of (from_node tree n)) e ∙ ap (λ k. shown ∷ drop k (attribute_names tree n)) (sym (add-one i))
  where
    which : (o : Option (List Attribute)) →
        option_and_then (λ attributes. option_map (shown_attribute_name (inner_scope attributes (scope_at outermost tree n))) (slice_get attributes i)) o ≡ Some shown →
        drop i (option_map_or (λ attributes. map (shown_attribute_name (inner_scope attributes (scope_at outermost tree n))) attributes) o [])
        ≡ shown ∷ drop (suc i) (option_map_or (λ attributes. map (shown_attribute_name (inner_scope attributes (scope_at outermost tree n))) attributes) o [])
    which None e = absurd (let clash : None ≡ Some shown = e in cc)
    which (Some attributes) e = from_on (shown_attribute_name (inner_scope attributes (scope_at outermost tree n))) attributes i shown e
