-- A definition that says yes to something says yes to it alone: what it says of documents, of elements and of files.
use Rattle.std.proofs.Common.{◌≡◌, ℕ, ◌≤◌, ◌<◌, List, Option, Some, None, MatchOption, IsSomeAnd, length, arith, inl, inr, sym, ◌∙◌, subst}
use Rattle.xml_spec.specs.Tree.{Nodes, IsWithinLimits}
use Rattle.xml_spec.specs.Names.{HasNames}
use Rattle.xml_spec.specs.Identifiers.{IsSingle}
use Rattle.xml_spec.proofs.Documents.{one_tree}
use Rattle.saml_outside.specs.Files.{File, IsUnread, bytes_of, Reads}
use Rattle.saml_outside.specs.declared.reading.FileRead.TheVariants as reads
use Rattle.verdict_codes.specs.declared.codes.Verdict.{Verdict}
use Rattle.verdict_codes.specs.declared.codes.Verdict.TheVariants as verdicts
use Rattle.saml_tree.specs.declared.node.TreeFault.{TreeFault}
use Rattle.saml_tree.specs.declared.node.TreeFault.TheVariants as faults
use Rattle.saml_tree.specs.Documents.{IsSpelled, IsRefused}
use Rattle.fault_verdicts.specs.Verdicts.{of_document}
use Rattle.saml_commands.specs.Answers.{Answer, Refused, BadFile}
use Rattle.saml_commands.specs.Documents.{OfDocument, OfElement, element_of}
use Rattle.saml_commands.specs.Reading.{OfFile}
use Rattle.saml_commands.proofs.Answering.{IsYes}

-- once a definition says yes to something, it says yes to it alone
abbrev pub SaysYesAlone : (Answer → Type 0) → Type 0
SaysYesAlone P = (a b : Answer) → IsYes a → P a → P b → IsYes b

pub not_refused_too : (a : Answer) (verdict : Verdict) → IsYes a → a ≡ Refused verdict → ⊥
not_refused_too a verdict agrees e = subst IsYes e agrees

pub not_bad_too : (a : Answer) (file : List ℕ) (line : ℕ) → IsYes a → a ≡ BadFile file line → ⊥
not_bad_too a file line agrees e = subst IsYes e agrees

-- a text that is spelled under all rules is refused for none
spelled_not_refused : (bytes : List ℕ) (tree : Nodes) (fault : TreeFault) (verdict : Verdict) → IsSpelled bytes tree → IsRefused bytes fault →
    of_document fault ≡ Some verdict → ⊥
spelled_not_refused bytes tree faults.BadXml verdict s r e = r tree s.spells
spelled_not_refused bytes tree faults.XmlLimit verdict s r e = r.2 (subst IsWithinLimits (one_tree bytes tree r.0 s.spells r.1) s.limits)
spelled_not_refused bytes tree faults.BadNames verdict s r e = r.3 (subst HasNames (one_tree bytes tree r.0 s.spells r.1) s.names)
spelled_not_refused bytes tree faults.DuplicateId verdict s r e = r.4 (subst IsSingle (one_tree bytes tree r.0 s.spells r.1) s.single)
spelled_not_refused bytes tree faults.NoMemory verdict s r e = cc

pub element_alone : (meaning : Nodes → ℕ → Answer → Type 0) (id : Option (List ℕ)) (tree : Nodes)
    → ((node : ℕ) → SaysYesAlone (meaning tree node)) → SaysYesAlone (OfElement meaning id tree)
element_alone meaning id tree alone a b agrees = which (element_of tree id)
  where
    which : (o : Option ℕ) → MatchOption o (a ≡ Refused verdicts.BadReference) (λ node. meaning tree node a) →
        MatchOption o (b ≡ Refused verdicts.BadReference) (λ node. meaning tree node b) → IsYes b
    which None p q = absurd (not_refused_too a verdicts.BadReference agrees p)
    which (Some node) p q = alone node a b agrees p q

pub document_alone : (meaning : Nodes → ℕ → Answer → Type 0) (id : Option (List ℕ)) (bytes : List ℕ)
    → ((tree : Nodes) (node : ℕ) → SaysYesAlone (meaning tree node)) → SaysYesAlone (OfDocument meaning id bytes)
document_alone meaning id bytes alone a b agrees (inl p) (inl q) =
    element_alone meaning id q.0 (alone q.0) a b agrees
    (subst (λ (t : Nodes). OfElement meaning id t a) (one_tree bytes p.0 q.0 p.1.spells q.1.spells) p.2) q.2
document_alone meaning id bytes alone a b agrees (inl p) (inr q) = absurd (spelled_not_refused bytes p.0 q.0 q.1 p.1 q.2 q.3)
document_alone meaning id bytes alone a b agrees (inr p) q = absurd (not_refused_too a p.1 agrees p.4)

pub some_is_one : {X : Type 0} (x y : X) (o : Option X) → o ≡ Some x → o ≡ Some y → x ≡ y
some_is_one x y o e f = cc

pub none_is_not_some : {X : Type 0} (x : X) (o : Option X) → o ≡ Some x → o ≡ None → ⊥
none_is_not_some x o e f = let clash : Some x ≡ None = sym e ∙ f in cc

pub too_long : (o : Option (List ℕ)) (bytes : List ℕ) (limit : ℕ) → o ≡ Some bytes → length bytes ≤ limit → IsSomeAnd o (λ b. limit < length b) → ⊥
too_long None bytes limit e h k = cc
too_long (Some b) bytes limit e h k = let same : b ≡ bytes = cc in let longer : limit < length bytes = subst (λ (z : List ℕ). limit < length z) same k in
    absurd (omega arith)

-- a file that is read is not one that can't be used
pub read_not_unread : (files : List File) (file : List ℕ) (limit : ℕ) (bytes : List ℕ) → Reads (Some files) file limit reads.Whole bytes
    → IsUnread (Some files) file limit → ⊥
read_not_unread files file limit bytes r (inl s) = none_is_not_some bytes (bytes_of files file) r.1 s.1
read_not_unread files file limit bytes r (inr s) = too_long (bytes_of files file) bytes limit r.1 r.0 s.1

pub file_alone : (meaning : List ℕ → Answer → Type 0) (files : List File) (file : List ℕ) (limit : ℕ) → ((bytes : List ℕ) → SaysYesAlone (meaning bytes)) →
    SaysYesAlone (OfFile meaning (Some files) file limit)
file_alone meaning files file limit alone a b agrees (inl p) (inl q) =
    alone q.0 a b agrees (subst (λ (bytes : List ℕ). meaning bytes a) (some_is_one p.0 q.0 (bytes_of files file) p.1.1 q.1.1) p.2) q.2
file_alone meaning files file limit alone a b agrees (inl p) (inr q) = absurd (read_not_unread files file limit p.0 p.1 q.0)
file_alone meaning files file limit alone a b agrees (inr p) q = absurd (not_bad_too a file 0 agrees p.1)
