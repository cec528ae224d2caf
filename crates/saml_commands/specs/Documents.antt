-- What is answered of a document, and of an element in it.
use Rattle.std.specs.Prelude.{◌≡◌, ℕ, ◌⊎◌, List, Option, Some, None, MatchOption}
use Rattle.xml_spec.specs.Tree.{Nodes}
use Rattle.xml_spec.specs.Identifiers.{identifiers, node_with}
use Rattle.saml_tree.specs.Documents.{IsSpelled, IsRefused}
use Rattle.saml_tree.specs.declared.node.TreeFault.{TreeFault}
use Rattle.verdict_codes.specs.declared.codes.Verdict.{Verdict}
use Rattle.verdict_codes.specs.declared.codes.Verdict.TheVariants as verdicts
use Rattle.fault_verdicts.specs.Verdicts.{of_document}
use Rattle.saml_commands.specs.Answers.{Answer, Refused}

-- the number of the element that is asked for: the root, or the one with this ID
abbrev pub element_of : Nodes → Option (List ℕ) → Option ℕ
element_of tree None = Some 0
element_of tree (Some id) = node_with (identifiers tree) id

-- a tree that has the element is answered with what the element asks for, another with BadReference
abbrev pub OfElement : (Nodes → ℕ → Answer → Type 0) → Option (List ℕ) → Nodes → Answer → Type 0
OfElement meaning id tree answer =
    MatchOption (element_of tree id) (answer ≡ Refused verdicts.BadReference) (λ node. meaning tree node answer)

-- bytes that spell a document are answered with what that element of it asks for, others with the refusal of the reader
abbrev pub OfDocument : (Nodes → ℕ → Answer → Type 0) → Option (List ℕ) → List ℕ → Answer → Type 0
OfDocument meaning id bytes answer =
    ((tree : Nodes) × IsSpelled bytes tree × OfElement meaning id tree answer)
    ⊎ ((fault : TreeFault) × (verdict : Verdict) × IsRefused bytes fault × (of_document fault ≡ Some verdict)
    × (answer ≡ Refused verdict))
