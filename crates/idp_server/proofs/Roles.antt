-- That what is said of the replies agrees with the answers.
use Rattle.std.specs.Prelude.{IfSome, Option, None, Some, Result, not}
use Rattle.std.proofs.Common.{◌≡◌, ℕ, ◌≤◌, Bool, if◌then◌else◌, List, sym, subst, ap, ◌∙◌}
use Rattle.http_wire.specs.declared.answer.Answer.TheVariants.{Full}
use Rattle.ledger_records.specs.declared.idp_record.IdpRecord.{IdpRecord}
use Rattle.ledger_rules.specs.declared.fault.DraftFault.{DraftFault}
use Rattle.idp_ledger.specs.Drafts.{DraftsSome}
use Rattle.record_ledger.specs.Drafts.{SameLedger}
use Rattle.idp_ledger.specs.Laws.{CompactionsChangeNoAnswer}
use Rattle.record_ledger.specs.Ledger.{CanCommit}
use Rattle.idp_ledger.specs.Ledger.{OpenedLedger}
use Rattle.idp_ledger.specs.Record.{idp_rules}
use Rattle.idp_rows.specs.Record.{LAST}
use Rattle.idp_ledger.specs.Standing.{idp_row_rules}
use Rattle.idp_rules.specs.Config.{IsUsable}
use Rattle.idp_rules.specs.declared.config.IdpConfig.{IdpConfig}
use Rattle.provider_node.specs.Drafted.{drafted_of}
use Rattle.provider_node.specs.Replies.{AreReplies, IsDrafted}
use Rattle.provider_node.proofs.Drafting.{drafted_some}
use Rattle.idp_answers.specs.Stating.{EachLoginHasAnAnswer, EachRefusalHasAnAnswer}
use Rattle.idp_server.specs.declared.reply.Reply.{Reply}
use Rattle.idp_server.specs.Replies.{found_record, idp_replies, is_nothing, record_for}
use Rattle.idp_server.specs.Step.{Answers}
use Rattle.idp_server.proofs.Alike.{alike}
use Rattle.idp_server.proofs.Pages.{some_page}
use Rattle.idp_server.proofs.Replies.{found_record_of, is_some_where, nothing_alike, nothing_where, page_answers, refused_at, wants_still}

pub idp_laws : EachLoginHasAnAnswer → EachRefusalHasAnAnswer → (setup : IdpConfig) (now : ℕ) → now ≤ LAST
    → IsUsable setup → CompactionsChangeNoAnswer → AreReplies idp_replies idp_rules Answers setup now
idp_laws logins refusals setup now moment usable compactions = record {
  answers = λ held request reply r bytes wants is shows. page_answers setup held request now reply r (Full bytes) wants
      is shows;
  has_page = λ held request reply r wants is. some_page logins refusals setup held request now setup.id_key reply r
      usable.entity moment wants is;
  refused = λ held request reply wants none.
      let found = found_record_of setup held request now setup.id_key reply wants in
      refused_at setup held request now reply wants (nothing_where (is_nothing held now reply) _ found.0 found.1 none);
  still = λ old new request reply are made wants. wants_still setup new old request now reply
      (alike compactions now old new are made) wants;
  stands = λ old new request reply are made wants.
      let like = alike compactions now old new are made in
      let before = found_record_of setup old request now setup.id_key reply wants in
      let behind =
      found_record_of setup new request now setup.id_key reply
      (wants_still setup new old request now reply like wants) in
      is_some_where (is_nothing new now reply) _ behind.0 behind.1 ∙ ap not (nothing_alike new old now reply like)
      ∙ sym (is_some_where (is_nothing old now reply) _ before.0 before.1);
}

-- of the record of a reply what holds of each that it may have
of_record : (P : IdpRecord → Type 0) (o : Option IdpRecord) (r : IdpRecord) → o ≡ Some r → IfSome o P → P r
of_record P o r is holds = subst (λ (o : Option IdpRecord). IfSome o P) is holds

-- what became of a draft
pub idp_drafted : (key : List ℕ) (old new : OpenedLedger) (now : ℕ) (reply : Reply) (r : IdpRecord)
    (result : Result (Option IdpRecord) DraftFault) → old.key ≡ key → SameLedger old new
    → found_record old.key old.held now reply ≡ Some r
    → IfSome (found_record old.key old.held now reply) (λ r. DraftsSome old new (is_nothing old.held now reply) r
    result)
    → IsDrafted idp_rules old.held (CanCommit idp_rules idp_row_rules new) (record_for key old.held now reply)
    (drafted_of result)
idp_drafted key old new now reply r result same_key same found drafts =
    let own : found_record key old.held now reply ≡ Some r =
    subst (λ (k : List ℕ). found_record k old.held now reply ≡ Some r) same_key found in
    let if_nothing = λ (b : Bool). if b then None else found_record key old.held now reply in
    drafted_some idp_rules idp_row_rules old new (is_nothing old.held now reply) r (record_for key old.held now reply)
    result same
    (λ none. ap if_nothing none) (λ some. ap if_nothing some ∙ own)
    (of_record (λ (r : IdpRecord). DraftsSome old new (is_nothing old.held now reply) r result) _ r found drafts)
