-- Names in two parts.
use Rattle.std.specs.Prelude.{ℕ, List, [], ◌&&◌, codes, Option, Some, None, if◌then◌else◌}
use Rattle.std.specs.Str.{bytes_eq}
use Rattle.xml_spec.specs.Bytes.{is_empty}
use Rattle.xml_spec.specs.Tree.{Nodes}
use Rattle.xml_spec.specs.Names.{ExpandedName}
use Rattle.excl_c14n.specs.Pairs.{space_at}
use Rattle.excl_c14n.specs.declared.order.Expanded.{Expanded}

-- the prefix that an attribute declares whose name has this prefix and this local part
abbrev pub prefix_declared_by : List ℕ → List ℕ → Option (List ℕ)
prefix_declared_by prefix local =
    if bytes_eq prefix (codes "xmlns") then Some local
    else if is_empty prefix && bytes_eq local (codes "xmlns") then Some [] else None

-- the expanded name that is kept, in a document of this tree
abbrev pub expanded_of : Nodes → Expanded → ExpandedName
expanded_of tree kept = record { namespace = space_at tree kept.namespace; local = kept.local.now }
