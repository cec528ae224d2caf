-- Tokens read one after the other, and what reading them answers.
use Rattle.std.specs.Prelude.{◌≡◌, ℕ, List, [], ◌∷◌, true, Some, IsTrue}
use Rattle.xml_spec.specs.Characters.{IsText}
use Rattle.xml_spec.specs.Tree.{Nodes, IsWithinLimits}
use Rattle.xml_spec.specs.Syntax.{Token, AreTokens, print_tokens}
use Rattle.xml_spec.specs.Document.{Spells}
use Rattle.xml_spec.specs.Laws.{BeginsWith}
use Rattle.xml_tokens.specs.declared.token.TokenFault.{TokenFault}
use Rattle.xml_tokens.specs.declared.token.TokenFault.TheVariants as tokens
use Rattle.element_names.specs.declared.fault.NameFault.{NameFault}
use Rattle.element_names.specs.declared.fault.NameFault.TheVariants as names
use Rattle.saml_tree.specs.Outlines.{Outline, outline_of, is_complete}
use Rattle.tree_rows.specs.Rows.{Row, nodes_at}
use Rattle.saml_tree.specs.Kept.{IsRead}
use Rattle.saml_tree.specs.declared.node.TreeFault.{TreeFault}
use Rattle.saml_tree.specs.declared.node.TreeFault.TheVariants as faults

-- the text begins with these tokens, each as long as it can be, and goes on with the rest
abbrev pub Reads : List ℕ → List Token → List ℕ → Type 0
Reads text [] rest = text ≡ rest
Reads text (token ∷ tokens) rest = (middle : List ℕ) × BeginsWith text token middle × Reads middle tokens rest

-- why there is no document, where there is no token
abbrev pub fault_of : TokenFault → TreeFault
fault_of tokens.Invalid = faults.BadXml
fault_of tokens.NoMemory = faults.NoMemory

abbrev pub name_fault : NameFault → TreeFault
name_fault names.BadNames = faults.BadNames
name_fault names.NoMemory = faults.NoMemory

-- what a text spells that is refused before its names are looked at: no tree, or one beyond the limits
abbrev pub IsNotKept : List ℕ → TreeFault → Type 0
IsNotKept text faults.BadXml = (tree : Nodes) → ¬ (Spells text tree)
IsNotKept text faults.XmlLimit = IsText text → (rows : List Row) × IsRead text rows × ¬ (IsWithinLimits (nodes_at 0 rows))
IsNotKept text faults.BadNames = ⊥
IsNotKept text faults.DuplicateId = ⊥
IsNotKept text faults.NoMemory = Unit {0}

-- no valid tokens that are written so make the outline one of a whole document
abbrev pub NoneComplete : Outline → List ℕ → Type 0
NoneComplete o rest = (tokens : List Token) → AreTokens tokens → rest ≡ print_tokens tokens →
    ¬ (outline_of o tokens ≡ Some (record { names = []; begun = true }))

-- what a fault says of the rest of a text, behind a token that went beyond the limits and made this outline
abbrev pub IsFaultBeyond : Outline → List ℕ → TreeFault → Type 0
IsFaultBeyond o rest faults.BadXml = NoneComplete o rest
IsFaultBeyond o rest faults.XmlLimit = (tokens : List Token) × (last : Outline) × Reads rest tokens []
    × (outline_of o tokens ≡ Some last) × IsTrue (is_complete last)
IsFaultBeyond o rest faults.BadNames = ⊥
IsFaultBeyond o rest faults.DuplicateId = ⊥
IsFaultBeyond o rest faults.NoMemory = Unit {0}
