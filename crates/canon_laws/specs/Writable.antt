-- Which trees can be written at all: those whose names are names and whose texts are characters that XML allows.
use Rattle.std.specs.Prelude.{◌≢◌, ℕ, ◌==◌, not, List, codes, IsFalse, IsTrue, ⊤}
use Rattle.std.specs.List.{AllByRecursion, list_all}
use Rattle.std.specs.Str.{str_to_ascii_lowercase}
use Rattle.xml_spec.specs.Ascii.{carriage_return}
use Rattle.xml_spec.specs.Bytes.{has, begins_with}
use Rattle.xml_spec.specs.Characters.{IsText, IsName, IsNoColonName}
use Rattle.xml_spec.specs.Tree.{Attribute, Nodes, NoNodes, Element, Text, Comment, Instruction}
use Rattle.xml_spec.specs.Syntax.{is_white}

-- an attribute: XML 1.0, [41]
pub record IsWritableAttribute (a : Attribute) : Type 0 where
  pub name : IsName a.name
  pub value : IsText a.value

-- an instruction: XML 1.0, [16] and [17], its value as it is read (2.11: no CR is left; [16]: it begins behind the white space)
pub record IsWritableInstruction (target value : List ℕ) : Type 0 where
  pub named : IsNoColonName target
  pub not_xml : str_to_ascii_lowercase target ≢ codes "xml"
  pub characters : IsText value
  pub begins : IsFalse (begins_with is_white value)
  pub closed : IsFalse (has (codes "?>") value)
  pub line_ends : IsTrue (list_all (λ b. not (b == carriage_return)) value)

-- each node of the list, and below it; a comment is not written
abbrev pub IsWritable : Nodes → Type 0
IsWritable NoNodes = ⊤
IsWritable (Element name attributes kids rest) =
    IsName name × AllByRecursion IsWritableAttribute attributes × IsWritable kids × IsWritable rest
IsWritable (Text text rest) = IsText text × IsWritable rest
IsWritable (Comment text rest) = IsWritable rest
IsWritable (Instruction target value rest) = IsWritableInstruction target value × IsWritable rest
