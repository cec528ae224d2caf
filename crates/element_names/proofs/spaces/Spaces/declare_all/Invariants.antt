use Rattle.std.proofs.Common.{◌≡◌, ◌++◌, take, drop, map}
use Rattle.xml_spec.specs.Names.{declarations}
use Rattle.xml_tokens.specs.Views.{attribute_view}
use Rattle.element_names.specs.Spaces.{scope_of, IsReady, Grows}
use Rattle.element_names.proofs.spaces.Spaces.declare_all.Given as goal

-- what is left is still to be bound
abbrev pub invariant-loop-i : goal.invariant-loop-i
invariant-loop-i l = record {
  ready : IsReady l.self;
  bound : declarations (map attribute_view (take l.i l.attributes)) ++ scope_of l.self
      ≡ declarations (map attribute_view l.attributes) ++ scope_of l.initial.self;
  outer : drop 1 l.self.scope ≡ drop 1 l.initial.self.scope;
  grows : Grows l.initial.self.table l.self.table;
}
