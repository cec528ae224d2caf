-- The names of an element's attributes.
use Rattle.std.specs.Prelude.{ℕ, List, [], map}
use Rattle.std.specs.Option.{option_map_or}
use Rattle.xml_spec.specs.Tree.{Nodes}
use Rattle.xml_spec.specs.Numbering.{from_node}
use Rattle.xml_spec.specs.Names.{outermost, inner_scope}
use Rattle.xml_spec.specs.Canonical.{scope_at}
use Rattle.saml_tree.specs.Documents.{attributes_of}
use Rattle.saml_tree.specs.NodeNames.{ShownName, shown_attribute_name}

-- the names of the attributes of node k, in written order
abbrev pub attribute_names : Nodes → ℕ → List ShownName
attribute_names tree k =
    option_map_or (λ attributes. map (shown_attribute_name (inner_scope attributes (scope_at outermost tree k))) attributes)
    (attributes_of (from_node tree k)) []
