-- The verdict for what a reader refuses has a code that is among those of forms, of documents or of signatures.
use Rattle.std.specs.Prelude.{Some}
use Rattle.std.proofs.Common.{◌≡◌, ◌≤◌, ℕ, subst, arith}
use Rattle.post_binding.specs.declared.fault.FormFault.{FormFault}
use Rattle.post_binding.specs.declared.fault.FormFault.TheVariants as forms
use Rattle.saml_tree.specs.declared.node.TreeFault.{TreeFault}
use Rattle.saml_tree.specs.declared.node.TreeFault.TheVariants as documents
use Rattle.sig_reference.specs.declared.fault.SigFault.{SigFault}
use Rattle.sig_reference.specs.declared.fault.SigFault.TheVariants as signatures
use Rattle.verdict_codes.specs.Codes.{number_of}
use Rattle.verdict_codes.specs.declared.codes.Verdict.{Verdict}
use Rattle.verdict_codes.specs.declared.codes.Verdict.TheVariants as verdicts
use Rattle.fault_verdicts.specs.Verdicts.{of_document, of_form, of_signature}

-- the code of a verdict is this one at most
abbrev pub EndsAt : ℕ → Verdict → Type 0
EndsAt last verdict = number_of verdict ≤ last

pub ends : (last : ℕ) (given verdict : Verdict) → EndsAt last given → Some given ≡ Some verdict → EndsAt last verdict
ends last given verdict few e = let same : given ≡ verdict = cc in subst (EndsAt last) same few

pub form_ends : (fault : FormFault) (verdict : Verdict) → of_form fault ≡ Some verdict → EndsAt 3 verdict
form_ends forms.BadForm verdict e = ends 3 verdicts.BadForm verdict (omega arith) e
form_ends forms.BadBase64 verdict e = ends 3 verdicts.BadBase64 verdict (omega arith) e
form_ends (forms.TooLarge bytes) verdict e = ends 3 verdicts.TooLarge verdict (omega arith) e
form_ends forms.NoMemory verdict e = absurd (cc)

pub document_ends : (fault : TreeFault) (verdict : Verdict) → of_document fault ≡ Some verdict → EndsAt 7 verdict
document_ends documents.BadXml verdict e = ends 7 verdicts.BadXml verdict (omega arith) e
document_ends documents.XmlLimit verdict e = ends 7 verdicts.XmlLimit verdict (omega arith) e
document_ends documents.BadNames verdict e = ends 7 verdicts.BadNames verdict (omega arith) e
document_ends documents.DuplicateId verdict e = ends 7 verdicts.DuplicateId verdict (omega arith) e
document_ends documents.NoMemory verdict e = absurd (cc)

pub signature_ends : (fault : SigFault) (verdict : Verdict) → of_signature fault ≡ Some verdict → EndsAt 14 verdict
signature_ends signatures.BadSignatureForm verdict e = ends 14 verdicts.BadSignatureForm verdict (omega arith) e
signature_ends signatures.BadReference verdict e = ends 14 verdicts.BadReference verdict (omega arith) e
signature_ends signatures.TagDiffers verdict e = ends 14 verdicts.TagDiffers verdict (omega arith) e
signature_ends signatures.DigestDiffers verdict e = ends 14 verdicts.DigestDiffers verdict (omega arith) e
signature_ends signatures.NoMemory verdict e = absurd (cc)
