-- What a document that was read is seen as, and what reading answers.
use Rattle.std.specs.Prelude.{◌≡◌, ℕ, List, Option, Some, None, slice_range}
use mathlib.Core.Path.{refl}
use Rattle.std.specs.Coded.{Coded, code_by, coded×}
use Rattle.xml_spec.specs.Codes.{coded_bytes, coded_nodes}
use Rattle.xml_spec.specs.Tree.{Attribute, Nodes, NoNodes, Element, Text, Comment, Instruction, IsWithinLimits}
use Rattle.xml_spec.specs.Names.{HasNames}
use Rattle.xml_spec.specs.Identifiers.{IsSingle}
use Rattle.xml_spec.specs.Document.{Spells, Span, IsRange}
use Rattle.saml_tree.specs.declared.node.NodeKind.{NodeKind}
use Rattle.saml_tree.specs.declared.node.NodeKind.TheVariants as kinds
use Rattle.saml_tree.specs.declared.node.TreeFault.{TreeFault}
use Rattle.saml_tree.specs.declared.node.TreeFault.TheVariants as faults

-- a document is seen as its text and the tree that the text spells
pub record DocumentView : Type 0 where
  pub text : List ℕ
  pub tree : Nodes

-- its text and its tree tell a document from others
abbrev pub coded_document : Coded DocumentView
coded_document =
    code_by (List ℕ × Nodes) (coded× coded_bytes coded_nodes) (λ d. (d.text, d.tree))
    (λ p. record { text = p.0; tree = p.1 }) (λ _. refl)

-- the kind of the first node of a list
abbrev pub kind_of : Nodes → Option NodeKind
kind_of NoNodes = None
kind_of (Element name attributes kids rest) = Some kinds.Element
kind_of (Text text rest) = Some kinds.Text
kind_of (Comment text rest) = Some kinds.Comment
kind_of (Instruction target value rest) = Some kinds.Instruction

-- of the first node of a list: the name of an element or the target of an instruction; the attributes; the text, or
-- an instruction's value
abbrev pub name_of : Nodes → Option (List ℕ)
name_of (Element name attributes kids rest) = Some name
name_of (Instruction target value rest) = Some target
name_of _ = None

abbrev pub attributes_of : Nodes → Option (List Attribute)
attributes_of (Element name attributes kids rest) = Some attributes
attributes_of _ = None

abbrev pub text_of : Nodes → Option (List ℕ)
text_of (Text text rest) = Some text
text_of (Instruction target value rest) = Some value
text_of _ = None

-- element n, counted from 0 in document order, is written as these bytes of the text
pub record IsWritten (text : List ℕ) (n : ℕ) (bytes : List ℕ) : Type 0 where
  pub span : Span
  pub place : IsRange text n span
  pub is : bytes ≡ slice_range text span.start span.end

-- the bytes spell this tree, and it is such that no fault of this kind, nor an earlier one, holds
pub record IsSpelled (text : List ℕ) (tree : Nodes) : Type 0 where
  pub spells : Spells text tree
  pub limits : IsWithinLimits tree
  pub names : HasNames tree
  pub single : IsSingle tree

-- what a refusal says: BadXml, that the bytes spell no tree; each other one, that they spell a tree for which it is
-- the first that holds
abbrev pub IsRefused : List ℕ → TreeFault → Type 0
IsRefused text faults.BadXml = (tree : Nodes) → ¬ (Spells text tree)
IsRefused text faults.XmlLimit = (tree : Nodes) × Spells text tree × ¬ (IsWithinLimits tree)
IsRefused text faults.BadNames = (tree : Nodes) × Spells text tree × IsWithinLimits tree × ¬ (HasNames tree)
IsRefused text faults.DuplicateId =
    (tree : Nodes) × Spells text tree × IsWithinLimits tree × HasNames tree × ¬ (IsSingle tree)
IsRefused text faults.NoMemory = Unit {0}
