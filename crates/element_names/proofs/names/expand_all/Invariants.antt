use Rattle.std.proofs.Common.{map, take}
use Rattle.std.specs.List.{AllByRecursion}
use Rattle.xml_tokens.specs.Views.{attribute_view}
use Rattle.element_names.specs.Spaces.{scope_of}
use Rattle.element_names.specs.Named.{IsWellAttribute, AreExpanded, listed}
use Rattle.element_names.proofs.names.expand_all.Given as goal

abbrev pub invariant-loop-attribute : goal.invariant-loop-attribute
invariant-loop-attribute l = record {
  well : AllByRecursion (IsWellAttribute (scope_of l.spaces)) (map attribute_view (take l.attribute-index l.attributes));
  expanded : AreExpanded l.spaces.table
      (map (listed (scope_of l.spaces)) (map attribute_view (take l.attribute-index l.attributes))) l.list.items;
}
