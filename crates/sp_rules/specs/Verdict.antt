-- The verdict on a posted form: the first condition that fails, in the order of the codes.
use Rattle.std.specs.Prelude.{◌≡◌, ℕ, ◌⊎◌, Bool, List, [], ◌∷◌, Option, None, Some, Result, Ok, Err, if◌then◌else◌}
use Rattle.xml_spec.specs.Tree.{Nodes}
use Rattle.saml_tree.specs.Documents.{IsSpelled}
use Rattle.saml_tree.specs.Documents as documents
use Rattle.saml_tree.specs.declared.node.TreeFault.{TreeFault}
use Rattle.post_binding.specs.Form.{form}
use Rattle.post_binding.specs.declared.fault.FormFault.{FormFault}
use Rattle.post_binding.specs.declared.posted.Field.{Field}
use Rattle.post_binding.specs.declared.posted.Field.TheVariants.{Request, Response}
use Rattle.post_binding.specs.declared.posted.Posted.{Posted}
use Rattle.protocol_messages.specs.Messages.{IsResponse}
use Rattle.protocol_messages.specs.declared.response.ResponseHead.{ResponseHead}
use Rattle.sig_reference.specs.declared.fault.SigFault.{SigFault}
use Rattle.assertion_model.specs.declared.login.Login.{Login}
use Rattle.assertion_model.specs.Parts.{login_at}
use Rattle.request_rows.specs.declared.row.AskedRow.{AskedRow}
use Rattle.request_rows.specs.Rows.{RowsView}
use Rattle.verdict_codes.specs.Codes.{number_of}
use Rattle.verdict_codes.specs.declared.codes.Verdict.{Verdict}
use Rattle.verdict_codes.specs.declared.codes.Verdict.TheVariants as verdicts
use Rattle.fault_verdicts.specs.Verdicts.{of_document, of_form, of_signature}
use Rattle.sp_rules.specs.declared.config.SpConfig.{SpConfig}
use Rattle.sp_rules.specs.Keys.{Key, usable}
use Rattle.sp_rules.specs.Covering.{IsCovered, IsUncovered}
use Rattle.sp_rules.specs.Meant.{consumer, is_from, is_for, is_sent_to, is_in_time}
use Rattle.sp_rules.specs.Outstanding.{asked_for, is_outstanding, is_unspent, is_unseen, is_relayed}
use Rattle.sp_rules.specs.Opening.{Carried, Posts, Carries, Asserts, Brought, Brings, Opens}

-- 1 to 3: the form is not read, or a request stands in it
abbrev pub form_refusal : Result Posted FormFault → Option Verdict
form_refusal (Err fault) = of_form fault
form_refusal (Ok posted) = in_field posted.field
  where
    in_field : Field → Option Verdict
    in_field Request = Some verdicts.BadForm
    in_field Response = None

-- 10: there is not one Assertion
abbrev pub number_refusal : List ℕ → Option Verdict
number_refusal (p ∷ []) = None
number_refusal _ = Some verdicts.NotOneAssertion

-- 9 and 10: the status is not Success, or there is not one Assertion
abbrev pub head_refusal : ResponseHead → Option Verdict
head_refusal head = if head.success then number_refusal head.assertions else Some verdicts.NotSuccess

-- the verdict of the first condition that fails
abbrev pub first_failing : List (Bool × Verdict) → Option Verdict
first_failing [] = None
first_failing ((holds, verdict) ∷ others) = if holds then first_failing others else Some verdict

-- 16 to 23: what a login is refused for
abbrev pub login_refusal : SpConfig → RowsView → ℕ → ℕ → ResponseHead → Option (List ℕ) → Login → Option Verdict
login_refusal config rows horizon now head relay login =
    let asked = asked_for rows horizon now login in
    first_failing ((is_from config head login, verdicts.WrongIssuer)
    ∷ (is_for config login, verdicts.WrongAudience)
    ∷ (is_sent_to (consumer config) head login, verdicts.WrongRecipient)
    ∷ (is_in_time config now login, verdicts.NotInTime)
    ∷ (is_outstanding asked head login, verdicts.NotOutstanding)
    ∷ (is_unspent rows login, verdicts.RequestSpent)
    ∷ (is_unseen rows horizon now login, verdicts.AssertionSeen)
    ∷ (is_relayed asked relay, verdicts.RelayDiffers) ∷ [])

-- the form is refused with this verdict
pub data IsRefused (config : SpConfig) (rows : RowsView) (horizon now : ℕ) (body : List ℕ) (verdict : Verdict) : Type 0 where
  -- 1 to 3
  by_form : form_refusal (form body) ≡ Some verdict → IsRefused config rows horizon now body verdict
  -- 4 to 7: the message is no document, or beyond a limit
  by_document : (message : List ℕ) (relay : Option (List ℕ)) (fault : TreeFault) → Posts body message relay
      → documents.IsRefused message fault → of_document fault ≡ Some verdict → IsRefused config rows horizon now body verdict
  -- 8: its root is no Response
  by_root : (message : List ℕ) (relay : Option (List ℕ)) (tree : Nodes) → Posts body message relay → IsSpelled message tree
      → ((head : ResponseHead) → ¬ (IsResponse tree 0 head)) → verdict ≡ verdicts.NotResponse → IsRefused config rows horizon now body verdict
  -- 9 and 10
  by_head : (c : Carried) → Carries body c → head_refusal c.head ≡ Some verdict → IsRefused config rows horizon now body verdict
  -- 11 to 14: its one Assertion is not covered
  by_signature : (c : Carried) (p : ℕ) (fault : SigFault) → Carries body c → Asserts c.head p
      → IsUncovered (usable config now) c.tree p fault → of_signature fault ≡ Some verdict → IsRefused config rows horizon now body verdict
  -- 15: it is covered, and has no login
  by_assertion : (c : Carried) (p e : ℕ) (key : Key) → Carries body c → Asserts c.head p
      → IsCovered (usable config now) c.tree p e key → login_at c.tree p ≡ None → verdict ≡ verdicts.BadAssertion
      → IsRefused config rows horizon now body verdict
  -- 16 to 23: its login is not meant, or answers no request that waits for it
  by_login : (b : Brought) → Brings config now body b → login_refusal config rows horizon now b.carried.head b.carried.relay b.login ≡ Some verdict
      → IsRefused config rows horizon now body verdict

-- the number of the verdict on a form: 0 where it opens a session
abbrev pub IsVerdict : SpConfig → RowsView → ℕ → ℕ → List ℕ → ℕ → Type 0
IsVerdict config rows horizon now body number =
    ((number ≡ 0) × ((b : Brought) × (asked : AskedRow) × Opens config rows horizon now body b asked))
    ⊎ ((verdict : Verdict) × (number ≡ number_of verdict) × IsRefused config rows horizon now body verdict)
