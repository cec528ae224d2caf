-- What is written at an element is in order: its declarations by their prefixes, its attributes by their names.
use Rattle.std.proofs.Common.{List}
use Rattle.std.specs.List.Sorted.{IsPermutation}
use Rattle.std.specs.Cmp.{IsTotalOrder}
use Rattle.std.proofs.lemmas.Cmp.{nat_list_cmp_total, on_total, then_total}
use Rattle.xml_spec.specs.Tree.{Attribute}
use Rattle.xml_spec.specs.Names.{Scope, ExpandedName, attribute_name, proper_attributes}
use Rattle.xml_spec.specs.Canonical.{expanded_order, written_attributes}
use Rattle.xml_spec.specs.Laws.{IsNonDescending}
use Rattle.xml_spec.proofs.Sorting.{sorted_is_non_descending, sorted_is_permutation}

pub expanded_order_is_total : IsTotalOrder expanded_order
expanded_order_is_total = then_total (on_total (λ (a : ExpandedName). a.namespace) nat_list_cmp_total) (on_total (λ (a : ExpandedName). a.local) nat_list_cmp_total)

pub attributes_in_order : (scope : Scope) (attributes : List Attribute) →
    IsNonDescending (λ a b. expanded_order (attribute_name scope a.name) (attribute_name scope b.name)) (written_attributes scope attributes)
attributes_in_order scope attributes =
    sorted_is_non_descending (λ (a : Attribute) b. expanded_order (attribute_name scope a.name) (attribute_name scope b.name))
    (on_total (λ (a : Attribute). attribute_name scope a.name) expanded_order_is_total) (proper_attributes attributes)

pub attributes_all : (scope : Scope) (attributes : List Attribute) →
    IsPermutation (proper_attributes attributes) (written_attributes scope attributes)
attributes_all scope attributes =
    sorted_is_permutation (λ (a : Attribute) b. expanded_order (attribute_name scope a.name) (attribute_name scope b.name)) (proper_attributes attributes)
