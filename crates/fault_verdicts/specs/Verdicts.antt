-- The verdict for what a reader refuses; none for want of memory.
use Rattle.std.specs.Prelude.{Option, Some, None}
use Rattle.verdict_codes.specs.declared.codes.Verdict.{Verdict}
use Rattle.verdict_codes.specs.declared.codes.Verdict.TheVariants as verdicts
use Rattle.saml_tree.specs.declared.node.TreeFault.{TreeFault}
use Rattle.saml_tree.specs.declared.node.TreeFault.TheVariants as documents
use Rattle.post_binding.specs.declared.fault.FormFault.{FormFault}
use Rattle.post_binding.specs.declared.fault.FormFault.TheVariants as forms
use Rattle.sig_reference.specs.declared.fault.SigFault.{SigFault}
use Rattle.sig_reference.specs.declared.fault.SigFault.TheVariants as signatures

-- for a document that is not read
abbrev pub of_document : TreeFault → Option Verdict
of_document documents.BadXml = Some verdicts.BadXml
of_document documents.XmlLimit = Some verdicts.XmlLimit
of_document documents.BadNames = Some verdicts.BadNames
of_document documents.DuplicateId = Some verdicts.DuplicateId
of_document documents.NoMemory = None

-- for an element that is not vouched for
abbrev pub of_signature : SigFault → Option Verdict
of_signature signatures.BadSignatureForm = Some verdicts.BadSignatureForm
of_signature signatures.BadReference = Some verdicts.BadReference
of_signature signatures.TagDiffers = Some verdicts.TagDiffers
of_signature signatures.DigestDiffers = Some verdicts.DigestDiffers
of_signature signatures.NoMemory = None

-- for a form that is not read
abbrev pub of_form : FormFault → Option Verdict
of_form forms.BadForm = Some verdicts.BadForm
of_form forms.BadBase64 = Some verdicts.BadBase64
of_form (forms.TooLarge bytes) = Some verdicts.TooLarge
of_form forms.NoMemory = None
