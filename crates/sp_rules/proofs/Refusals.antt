-- What a form is refused for.
use Rattle.std.proofs.Common.{◌≡◌, ℕ, Bool, true, false, List, [], ◌∷◌, Option, None, Some, Result, Ok, Err, refl, sym, ◌∙◌, ap, subst}
use Rattle.std.specs.Prelude.{IfOk, IfErr, IsErrAnd, ok_or, option_copied}
use Rattle.std.specs.Borrow.{Bor}
use Rattle.protocol_messages.specs.declared.response.ResponseHead.{ResponseHead}
use Rattle.assertion_model.specs.declared.login.Login.{Login}
use Rattle.request_rows.specs.declared.row.AskedRow.{AskedRow}
use Rattle.request_rows.specs.Rows.{RowsView}
use Rattle.verdict_codes.specs.declared.codes.Verdict.{Verdict}
use Rattle.verdict_codes.specs.declared.codes.Verdict.TheVariants as verdicts
use Rattle.sp_rules.specs.declared.config.SpConfig.{SpConfig}
use Rattle.fault_verdicts.specs.Judging.{judged_of, IsJudged}
use Rattle.fault_verdicts.specs.declared.judged.Judged.{Judged}
use Rattle.fault_verdicts.specs.declared.judged.Judged.TheVariants as judgements
use Rattle.sp_rules.specs.Meant.{consumer, is_from, is_for, is_sent_to, is_in_time}
use Rattle.sp_rules.specs.Outstanding.{asked_for, is_outstanding, is_unspent, is_unseen, is_relayed}
use Rattle.sp_rules.specs.Verdict.{first_failing, login_refusal}

-- a verdict that is there is judged by what is right for it
pub judged_right : (IsRight : Verdict → Type 0) (told : Option Verdict) → ((verdict : Verdict) → told ≡ Some verdict → IsRight verdict) →
    IsJudged IsRight (judged_of told)
judged_right IsRight None h = tt
judged_right IsRight (Some verdict) h = h verdict refl

-- what is right for one is right for another
pub judged_more : (P Q : Verdict → Type 0) (judged : Judged) → ((verdict : Verdict) → P verdict → Q verdict) → IsJudged P judged → IsJudged Q judged
judged_more P Q (judgements.Code verdict) f h = f verdict h
judged_more P Q judgements.NoMemory f h = tt

-- what holds of the error that is handed on holds of the error
pub handed_on : {T E : Type 0} (P : E → Type 0) (result : Result T E) (e : E) → IsErrAnd result (λ error. error ≡ e) → P e → IfErr result P
handed_on P (Ok x) e h is = tt
handed_on P (Err error) e h is = subst P (sym h) is

-- a condition that fails gives its verdict
pub asked_in_vain : {T : Type 0} (told : Option Verdict) (result : Result T Judged) (given verdict : Verdict) →
    IsErrAnd result (λ error. error ≡ judgements.Code given) → given ≡ verdict → told ≡ Some verdict → IfErr result (IsJudged (λ v. told ≡ Some v))
asked_in_vain told result given verdict h same is =
    handed_on (IsJudged (λ v. told ≡ Some v)) result (judgements.Code given) h (is ∙ ap Some (sym same))

-- THE FIRST CONDITION THAT FAILS

module _ (config : SpConfig) (rows : RowsView) (horizon now : ℕ) (head : ResponseHead) (relay : Option (List ℕ)) (login : Login) where
  abbrev asked : Option AskedRow
  asked = asked_for rows horizon now login

  abbrev refusal : Option Verdict
  refusal = login_refusal config rows horizon now head relay login

  -- the refusal, by what the conditions are
  abbrev chain : (from_ for_ sent in_time outstanding unspent unseen relayed : Bool) → Option Verdict
  chain from_ for_ sent in_time outstanding unspent unseen relayed =
      first_failing ((from_, verdicts.WrongIssuer)
      ∷ (for_, verdicts.WrongAudience)
      ∷ (sent, verdicts.WrongRecipient)
      ∷ (in_time, verdicts.NotInTime)
      ∷ (outstanding, verdicts.NotOutstanding)
      ∷ (unspent, verdicts.RequestSpent)
      ∷ (unseen, verdicts.AssertionSeen)
      ∷ (relayed, verdicts.RelayDiffers) ∷ [])

  pub wrong_issuer : is_from config head login ≡ false →
      refusal ≡ Some verdicts.WrongIssuer
  wrong_issuer a = λ i. chain (a i) (is_for config login) (is_sent_to (consumer config) head login) (is_in_time config now login) (is_outstanding asked head login) (is_unspent rows login) (is_unseen rows horizon now login) (is_relayed asked relay)

  pub wrong_audience : is_from config head login ≡ true → is_for config login ≡ false →
      refusal ≡ Some verdicts.WrongAudience
  wrong_audience a b = λ i. chain (a i) (b i) (is_sent_to (consumer config) head login) (is_in_time config now login) (is_outstanding asked head login) (is_unspent rows login) (is_unseen rows horizon now login) (is_relayed asked relay)

  pub wrong_recipient : is_from config head login ≡ true → is_for config login ≡ true → is_sent_to (consumer config) head login ≡ false →
      refusal ≡ Some verdicts.WrongRecipient
  wrong_recipient a b c = λ i. chain (a i) (b i) (c i) (is_in_time config now login) (is_outstanding asked head login) (is_unspent rows login) (is_unseen rows horizon now login) (is_relayed asked relay)

  pub not_in_time : is_from config head login ≡ true → is_for config login ≡ true → is_sent_to (consumer config) head login ≡ true → is_in_time config now login ≡ false →
      refusal ≡ Some verdicts.NotInTime
  not_in_time a b c d = λ i. chain (a i) (b i) (c i) (d i) (is_outstanding asked head login) (is_unspent rows login) (is_unseen rows horizon now login) (is_relayed asked relay)

  pub not_outstanding : is_from config head login ≡ true → is_for config login ≡ true → is_sent_to (consumer config) head login ≡ true → is_in_time config now login ≡ true → is_outstanding asked head login ≡ false →
      refusal ≡ Some verdicts.NotOutstanding
  not_outstanding a b c d e = λ i. chain (a i) (b i) (c i) (d i) (e i) (is_unspent rows login) (is_unseen rows horizon now login) (is_relayed asked relay)

  pub request_spent : is_from config head login ≡ true → is_for config login ≡ true → is_sent_to (consumer config) head login ≡ true → is_in_time config now login ≡ true → is_outstanding asked head login ≡ true → is_unspent rows login ≡ false →
      refusal ≡ Some verdicts.RequestSpent
  request_spent a b c d e f = λ i. chain (a i) (b i) (c i) (d i) (e i) (f i) (is_unseen rows horizon now login) (is_relayed asked relay)

  pub assertion_seen : is_from config head login ≡ true → is_for config login ≡ true → is_sent_to (consumer config) head login ≡ true → is_in_time config now login ≡ true → is_outstanding asked head login ≡ true → is_unspent rows login ≡ true → is_unseen rows horizon now login ≡ false →
      refusal ≡ Some verdicts.AssertionSeen
  assertion_seen a b c d e f g = λ i. chain (a i) (b i) (c i) (d i) (e i) (f i) (g i) (is_relayed asked relay)

  pub relay_differs : is_from config head login ≡ true → is_for config login ≡ true → is_sent_to (consumer config) head login ≡ true → is_in_time config now login ≡ true → is_outstanding asked head login ≡ true → is_unspent rows login ≡ true → is_unseen rows horizon now login ≡ true → is_relayed asked relay ≡ false →
      refusal ≡ Some verdicts.RelayDiffers
  relay_differs a b c d e f g h = λ i. chain (a i) (b i) (c i) (d i) (e i) (f i) (g i) (h i)

  pub not_refused : is_from config head login ≡ true → is_for config login ≡ true → is_sent_to (consumer config) head login ≡ true → is_in_time config now login ≡ true → is_outstanding asked head login ≡ true → is_unspent rows login ≡ true → is_unseen rows horizon now login ≡ true → is_relayed asked relay ≡ true → refusal ≡ None
  not_refused a b c d e f g h = λ i. chain (a i) (b i) (c i) (d i) (e i) (f i) (g i) (h i)

-- these conditions hold
abbrev pub AllHold : List (Bool × Verdict) → Type 0
AllHold [] = Unit {0}
AllHold ((holds, verdict) ∷ others) = (holds ≡ true) × AllHold others

-- where none fails, each holds
pub all_hold : (conditions : List (Bool × Verdict)) → first_failing conditions ≡ None → AllHold conditions
all_hold [] e = tt
all_hold ((true, verdict) ∷ others) e = (refl, all_hold others e)
all_hold ((false, verdict) ∷ others) e = absurd (cc)

-- THE ROW OF A REQUEST

pub row_found : (row : Option (Bor AskedRow)) (found : Option AskedRow) (fault : Judged) → option_copied row ≡ found →
    IfOk (ok_or row fault) (λ row. found ≡ Some row.now)
row_found None found fault e = tt
row_found (Some row) found fault e = sym e

pub row_there : (P : Judged → Type 0) (row : Option (Bor AskedRow)) (fault : Judged) (head : ResponseHead) (login : Login) →
    is_outstanding (option_copied row) head login ≡ true → IfErr (ok_or row fault) P
row_there P None fault head login e = absurd (cc)
row_there P (Some row) fault head login e = tt
