-- A worked example of what lies in what, for the document <a><b/>x<c/></a>.
use Rattle.std.proofs.Common.{[], codes, arith, lit≤}
use Rattle.xml_spec.specs.Tree.{Nodes, NoNodes, Element, Text}
use Rattle.range_laws.specs.Ranges.{LiesIn}

-- a is node 0, b is node 1, x is node 2, and c is node 3
abbrev whole : Nodes
whole = Element (codes "a") [] (Element (codes "b") [] NoNodes (Text (codes "x") (Element (codes "c") [] NoNodes NoNodes))) NoNodes

last_in_first : LiesIn whole 0 3
last_in_first = (lit≤ tt, lit≤ tt)

last_behind_second : ¬ (LiesIn whole 1 3)
last_behind_second = λ lies. absurd (omega (arith, lies.1))
