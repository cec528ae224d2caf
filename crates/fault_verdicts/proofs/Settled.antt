-- What is judged fails or passes. The logic has no law of the excluded middle, so of what is not computed it is said that it can't do
-- neither.
use Rattle.std.proofs.Common.{◌≡◌, ℕ, List, Some, Result, Ok, Err, refl}
use Rattle.xml_spec.specs.Tree.{Nodes}
use Rattle.xml_spec.specs.Identifiers.{IsSingle}
use Rattle.xml_spec.specs.Document.{Spells}
use Rattle.saml_tree.specs.Documents.{IsSpelled, IsRefused}
use Rattle.saml_tree.specs.declared.node.TreeFault.{TreeFault}
use Rattle.saml_tree.specs.declared.node.TreeFault.TheVariants as trees
use Rattle.post_binding.specs.declared.fault.FormFault.{FormFault}
use Rattle.post_binding.specs.declared.fault.FormFault.TheVariants as forms
use Rattle.post_binding.specs.Form.{fault_of, form}
use Rattle.post_binding.proofs.Faults.{IsFaultOfForm, form_faults}
use Rattle.sig_reference.specs.Form.{Parts, HasForm}
use Rattle.sig_reference.specs.Signature.{Vouches, IsUnvouched}
use Rattle.sig_reference.specs.declared.fault.SigFault.{SigFault}
use Rattle.sig_reference.specs.declared.fault.SigFault.TheVariants as sigs
use Rattle.verdict_codes.specs.declared.codes.Verdict.{Verdict}
use Rattle.verdict_codes.specs.declared.codes.Verdict.TheVariants as verdicts
use Rattle.fault_verdicts.specs.Verdicts.{of_document, of_form, of_signature}

-- FORMS

-- a form is read, or refused with a verdict
abbrev pub IsJudgement : {X : Type 0} → Result X FormFault → Type 0
IsJudgement (Ok x) = Unit {0}
IsJudgement (Err fault) = (verdict : Verdict) × (of_form fault ≡ Some verdict)

with_verdict : (fault : FormFault) → fault_of fault ≡ Some fault → (verdict : Verdict) × (of_form fault ≡ Some verdict)
with_verdict forms.BadForm is = (verdicts.BadForm, refl)
with_verdict forms.BadBase64 is = (verdicts.BadBase64, refl)
with_verdict (forms.TooLarge bytes) is = (verdicts.TooLarge, refl)
with_verdict forms.NoMemory is = absurd (cc)

judgement : {X : Type 0} (result : Result X FormFault) → IsFaultOfForm result → IsJudgement result
judgement (Ok x) is = tt
judgement (Err fault) is = with_verdict fault is

pub form_judged : (body : List ℕ) → IsJudgement (form body)
form_judged body = judgement (form body) (form_faults body)

-- DOCUMENTS

-- a text spells a tree that is read, or is refused with a verdict
pub document_settled : (text : List ℕ) → ((tree : Nodes) → ¬ (IsSpelled text tree)) →
    ¬ ((fault : TreeFault) (verdict : Verdict) → IsRefused text fault → ¬ (of_document fault ≡ Some verdict))
document_settled text unread unrefused = unrefused trees.BadXml verdicts.BadXml (λ tree spells. spelled tree spells) refl
  where
    spelled : (tree : Nodes) → ¬ (Spells text tree)
    spelled tree spells = unrefused trees.XmlLimit verdicts.XmlLimit (
      tree,
      spells,
      λ limits.
          unrefused trees.BadNames verdicts.BadNames (
            tree,
            spells,
            limits,
            λ names.
                unrefused trees.DuplicateId verdicts.DuplicateId (
                  tree,
                  spells,
                  limits,
                  names,
                  λ single.
                      unread tree (record { spells = spells; limits = limits; names = names; single = single }),
                ) refl,
          ) refl,
    ) refl

-- SIGNATURES

-- an element of a tree without doubled IDs is vouched for, or is refused with a verdict
pub signature_settled : (key : List ℕ) (tree : Nodes) (e : ℕ) → IsSingle tree → ((parts : Parts) → ¬ (Vouches key tree e parts)) →
    ¬ ((fault : SigFault) (verdict : Verdict) → IsUnvouched key tree e fault → ¬ (of_signature fault ≡ Some verdict))
signature_settled key tree e single unvouched unrefused = unrefused sigs.BadSignatureForm verdicts.BadSignatureForm formed refl
  where
    formed : (parts : Parts) → ¬ (HasForm tree e parts)
    formed parts form = unrefused sigs.BadReference verdicts.BadReference (
      parts,
      form,
      λ reference.
          unrefused sigs.TagDiffers verdicts.TagDiffers (
            parts,
            form,
            reference,
            λ tag.
                unrefused sigs.DigestDiffers verdicts.DigestDiffers (
                  parts,
                  form,
                  reference,
                  tag,
                  λ digest.
                      unvouched parts (record { single = single; form = form; reference = reference; tag = tag; digest = digest }),
                ) refl,
          ) refl,
    ) refl
