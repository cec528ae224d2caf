-- What `vouch FILE ID KEYFILE` answers for the bytes of the file and the key.
use Rattle.std.specs.Prelude.{◌≡◌, ℕ, ◌<◌, ◌≤◌, ◌⊎◌, List, length, Some, codes}
use Rattle.xml_spec.specs.Tree.{Nodes}
use Rattle.verdict_codes.specs.declared.codes.Verdict.{Verdict}
use Rattle.sig_reference.specs.declared.fault.SigFault.{SigFault}
use Rattle.sig_reference.specs.Form.{Parts}
use Rattle.sig_reference.specs.Signature.{Vouches, IsUnvouched}
use Rattle.fault_verdicts.specs.Verdicts.{of_signature}
use Rattle.sp_setup.specs.declared.limits.TheConstants.{LEAST_KEY}
use Rattle.saml_commands.specs.Answers.{Answer, Printed, Refused, BadFile}
use Rattle.saml_commands.specs.Documents.{OfDocument}

-- an element that is vouched for with the key is answered with yes, another with the first part that fails
abbrev pub OfVouching : List ℕ → Nodes → ℕ → Answer → Type 0
OfVouching key tree node answer =
    ((parts : Parts) × Vouches key tree node parts × (answer ≡ Printed (codes "yes\n")))
    ⊎ ((fault : SigFault) × (verdict : Verdict) × IsUnvouched key tree node fault × (of_signature fault ≡ Some verdict) × (answer ≡ Refused verdict))

-- the element with this ID; a key that is too short makes its file one that can't be used
abbrev pub OfVouch : List ℕ → List ℕ → List ℕ → List ℕ → Answer → Type 0
OfVouch id key_file bytes key answer =
    ((length key < LEAST_KEY) × (answer ≡ BadFile key_file 0))
    ⊎ ((LEAST_KEY ≤ length key) × OfDocument (OfVouching key) (Some id) bytes answer)
