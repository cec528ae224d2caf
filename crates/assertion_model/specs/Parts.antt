-- The elements of a document as parts of a content: XML Infoset, 2.2. The login of an element of a document.
use Rattle.std.specs.Prelude.{ℕ, List, map, codes, Option}
use Rattle.xml_spec.specs.Tree.{Nodes}
use Rattle.xml_spec.specs.Numbering.{from_node, kids_of}
use Rattle.xml_spec.specs.Names.{Scope, outermost}
use Rattle.xml_spec.specs.Canonical.{scope_at}
use Rattle.xml_spec.specs.Content.{content_attributes, content_nodes, content}
use Rattle.saml_names.specs.Names.{saml, ds}
use Rattle.saml_tree.specs.Elements.{attributes_in}
use Rattle.tree_read.specs.Children.{scope_of_kids, named, children}
use Rattle.tree_read.specs.Views.{tree_of}
use Rattle.tree_read.specs.Walk.{ChildrenView}
use Rattle.tree_read.specs.declared.at.At.{At}
use Rattle.assertion_model.specs.declared.login.Login.{Login}
use Rattle.assertion_model.specs.Contents.{Part, first}
use Rattle.assertion_model.specs.Login.{login}

-- the first element of a list that stands in this scope
abbrev pub part_in : Scope → Nodes → Part
part_in scope nodes =
    let inner = scope_of_kids scope nodes in
    record { attributes = content_attributes inner (attributes_in nodes); kids = content_nodes inner (kids_of nodes) }

-- element k of the tree
abbrev pub part_at : Nodes → ℕ → Part
part_at tree k = part_in (scope_at outermost tree k) (from_node tree k)

-- the same, at a place in a document
abbrev pub part_of : At → Part
part_of at = part_at (tree_of at) at.node.0

-- the children of this name of assertions, of those that are left
abbrev pub left_of : List ℕ → ChildrenView → List Part
left_of local walk = map (part_at walk.document.tree) (named (saml local) walk.left)

-- the Signature of an element: the first that is a child of it (SAML Core, 5.4)
abbrev pub own_signature : Nodes → ℕ → Option ℕ
own_signature tree k = first (children tree k (ds (codes "Signature")))

-- the login of element k: that of its content without its Signature
abbrev pub login_at : Nodes → ℕ → Option Login
login_at tree k = login (content tree k (own_signature tree k))
