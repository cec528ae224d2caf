-- When a login that a form brings opens a session.
use Rattle.std.proofs.Common.{◌≡◌, ℕ, true, List, [], ◌∷◌, Option, None, Some, subst}
use Rattle.std.specs.Prelude.{◌&&◌}
use Rattle.protocol_messages.specs.declared.response.ResponseHead.{ResponseHead}
use Rattle.assertion_model.specs.declared.login.Login.{Login}
use Rattle.request_rows.specs.declared.row.AskedRow.{AskedRow}
use Rattle.request_rows.specs.Rows.{RowsView}
use Rattle.verdict_codes.specs.declared.codes.Verdict.TheVariants as verdicts
use Rattle.sp_rules.specs.declared.config.SpConfig.{SpConfig}
use Rattle.sp_rules.specs.Meant.{consumer, is_from, is_for, is_sent_to, is_in_time}
use Rattle.sp_rules.specs.Opening.{Brought, Brings, Opens}
use Rattle.sp_rules.specs.Outstanding.{asked_for, is_outstanding, is_unspent, is_unseen, is_relayed}
use Rattle.sp_rules.specs.Verdict.{login_refusal}
use Rattle.sp_rules.proofs.Refusals.{AllHold, all_hold}

module _ (config : SpConfig) (rows : RowsView) (horizon now : ℕ) where
  -- what holds of a login that is refused for nothing
  held_of : (head : ResponseHead) (relay : Option (List ℕ)) (login : Login) → login_refusal config rows horizon now head relay login ≡ None →
      AllHold ((is_from config head login, verdicts.WrongIssuer)
      ∷ (is_for config login, verdicts.WrongAudience)
      ∷ (is_sent_to (consumer config) head login, verdicts.WrongRecipient)
      ∷ (is_in_time config now login, verdicts.NotInTime)
      ∷ (is_outstanding (asked_for rows horizon now login) head login, verdicts.NotOutstanding)
      ∷ (is_unspent rows login, verdicts.RequestSpent)
      ∷ (is_unseen rows horizon now login, verdicts.AssertionSeen)
      ∷ (is_relayed (asked_for rows horizon now login) relay, verdicts.RelayDiffers) ∷ [])
  held_of head relay login none =
      all_hold ((is_from config head login, verdicts.WrongIssuer)
      ∷ (is_for config login, verdicts.WrongAudience)
      ∷ (is_sent_to (consumer config) head login, verdicts.WrongRecipient)
      ∷ (is_in_time config now login, verdicts.NotInTime)
      ∷ (is_outstanding (asked_for rows horizon now login) head login, verdicts.NotOutstanding)
      ∷ (is_unspent rows login, verdicts.RequestSpent)
      ∷ (is_unseen rows horizon now login, verdicts.AssertionSeen)
      ∷ (is_relayed (asked_for rows horizon now login) relay, verdicts.RelayDiffers) ∷ []) none

  -- its request is outstanding
  pub outstanding_held : (head : ResponseHead) (relay : Option (List ℕ)) (login : Login) → login_refusal config rows horizon now head relay login ≡ None →
      is_outstanding (asked_for rows horizon now login) head login ≡ true
  outstanding_held head relay login none = (held_of head relay login none).1.1.1.1.0

  -- a login that is refused for nothing opens a session for the row of its request
  pub opens : (body : List ℕ) (b : Brought) (asked : AskedRow) → Brings config now body b → asked_for rows horizon now b.login ≡ Some asked →
      login_refusal config rows horizon now b.carried.head b.carried.relay b.login ≡ None → Opens config rows horizon now body b asked
  opens body b asked brings found none =
      let held = held_of b.carried.head b.carried.relay b.login none in
      record {
        brings = brings;
        meant = λ i. held.0 i && held.1.0 i && held.1.1.0 i && held.1.1.1.0 i;
        request = found;
        outstanding = subst (λ row. is_outstanding row b.carried.head b.login ≡ true) found held.1.1.1.1.0;
        unspent = held.1.1.1.1.1.0;
        unseen = held.1.1.1.1.1.1.0;
        relayed = subst (λ row. is_relayed row b.carried.relay ≡ true) found held.1.1.1.1.1.1.1.0;
      }
