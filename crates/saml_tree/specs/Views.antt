-- How the definitions see what the program keeps.
use Rattle.std.specs.Prelude.{◌≡◌, ℕ, List, [], reverse, Option, Some, None}
use Rattle.xml_spec.specs.Meaning.{line_ends}
use Rattle.tree_rows.specs.declared.node.Leaf.{Leaf}
use Rattle.tree_rows.specs.declared.node.Leaf.TheVariants as leaves
use Rattle.saml_tree.specs.NodeNames.{ShownName}
use Rattle.saml_tree.specs.Run.{State}
use Rattle.saml_tree.specs.Outlines as outlines
use Rattle.saml_tree.specs.declared.node.Name.{Name}
use Rattle.saml_tree.specs.declared.build.Builder.{Builder}
use Rattle.saml_tree.specs.declared.outline.Outline.{Outline}
use Rattle.saml_tree.specs.Links.{depths_of, AreLinkedSoFar}

-- the rows of the builder are linked with its open elements
abbrev pub IsLinking : Builder → Type 0
IsLinking b = AreLinkedSoFar (depths_of b.rows.rows) b.rows.links b.open_elements.items

-- outside the root the builder has no text
abbrev pub IsClear : Builder → Type 0
IsClear b = b.open_elements.items ≡ [] → b.text.text ≡ []

-- what was read so far
abbrev pub builder_view : Builder → State
builder_view b = record {
  rows = b.rows.rows;
  text = b.text.text;
  open_elements = reverse b.open_elements.items;
  place = b.place;
}

abbrev pub outline_view : Outline → outlines.Outline
outline_view o = record { names = reverse o.names.names; begun = o.begun }

abbrev pub name_view : Name → ShownName
name_view name = record { prefix = name.prefix.now; local = name.local.now; namespace = name.namespace.now }

-- a text, or the value of an instruction; a comment has neither
abbrev pub leaf_text : Leaf → Option (List ℕ)
leaf_text (leaves.Text text) = Some text
leaf_text (leaves.Comment text) = None
leaf_text (leaves.Instruction target value) = Some (line_ends value.now)
