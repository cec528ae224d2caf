-- That what is said of the replies agrees with the answers.
use Rattle.std.specs.Prelude.{IfSome, Option, None, Some, Result, is_some}
use Rattle.std.proofs.Common.{◌≡◌, ℕ, ◌≤◌, true, false, List, sym, subst, ap, ◌∙◌}
use Rattle.ledger_records.specs.declared.hub_record.HubRecord.{HubRecord}
use Rattle.ledger_rules.specs.declared.fault.DraftFault.{DraftFault}
use Rattle.record_ledger.specs.Drafts.{DraftsSome, SameLedger}
use Rattle.record_ledger.specs.Ledger.{CanCommit}
use Rattle.hub_ledger.specs.Laws.{CompactionsChangeNoAnswer}
use Rattle.hub_ledger.specs.Ledger.{OpenedLedger}
use Rattle.hub_ledger.specs.Record.{LAST, hub_rules}
use Rattle.hub_ledger.specs.Standing.{hub_row_rules}
use Rattle.idp_answers.specs.Stating.{EachLoginHasAnAnswer, EachRefusalHasAnAnswer}
use Rattle.sp_answers.specs.Judging.{LikeRowsOpenAlike}
use Rattle.provider_node.specs.Drafted.{drafted_of}
use Rattle.provider_node.specs.Replies.{AreReplies, IsDrafted}
use Rattle.provider_node.proofs.Drafting.{drafted_some}
use Rattle.identity_hub.specs.declared.config.HubConfig.{HubConfig}
use Rattle.identity_hub.specs.declared.reply.Reply.{Reply}
use Rattle.identity_hub.specs.Config.{IsUsable}
use Rattle.identity_hub.specs.Replies.{IsPage, hub_replies, record_for}
use Rattle.identity_hub.specs.Step.{Answers}
use Rattle.identity_hub.proofs.Alike.{alike}
use Rattle.identity_hub.proofs.Replies.{page_answers, record_there, some_page, wants_still}

the_one : (one other : HubRecord) → Some one ≡ Some other → one ≡ other
the_one one other is = cc

pub hub_laws : EachLoginHasAnAnswer → EachRefusalHasAnAnswer → LikeRowsOpenAlike → CompactionsChangeNoAnswer
    → (setup : HubConfig) (now : ℕ) → now ≤ LAST → IsUsable setup → AreReplies hub_replies hub_rules Answers setup now
hub_laws logins refusals opens compactions setup now moment usable = record {
  answers = λ held request reply r bytes wants is shows.
      page_answers setup held request now reply r bytes wants is shows;
  has_page = λ held request reply r wants is.
      let own = record_there setup held request now setup.upstream.id_key reply wants in
      let page =
      some_page logins refusals setup held request now setup.upstream.id_key reply usable.texts.entity moment wants in
      (page.0, subst (λ (x : HubRecord). IsPage setup reply x now page.0) (the_one own.0 r (sym own.1 ∙ is)) page.1);
  refused = λ held request reply wants none.
      let own = record_there setup held request now setup.upstream.id_key reply wants in
      absurd (let clash : Some own.0 ≡ None = sym own.1 ∙ none in cc);
  still = λ old new request reply are made wants.
      wants_still opens setup new old request now reply (alike compactions now old new are made) wants;
  stands = λ old new request reply are made wants.
      let like = alike compactions now old new are made in
      let before = record_there setup old request now setup.upstream.id_key reply wants in
      let behind = record_there setup new request now setup.upstream.id_key reply
      (wants_still opens setup new old request now reply like wants) in
      ap is_some behind.1 ∙ sym (ap is_some before.1);
}

-- of the record of a reply what holds of each that it may have
of_record : (P : HubRecord → Type 0) (o : Option HubRecord) (r : HubRecord) → o ≡ Some r → IfSome o P → P r
of_record P o r is holds = subst (λ (o : Option HubRecord). IfSome o P) is holds

-- what became of a draft
pub hub_drafted : (key : List ℕ) (old new : OpenedLedger) (now : ℕ) (reply : Reply) (r : HubRecord)
    (result : Result (Option HubRecord) DraftFault) → old.key ≡ key → SameLedger old new
    → record_for old.key old.held now reply ≡ Some r
    → IfSome (record_for old.key old.held now reply) (λ r. DraftsSome hub_rules hub_row_rules old new false r result)
    → IsDrafted hub_rules old.held (CanCommit hub_rules hub_row_rules new) (record_for key old.held now reply)
    (drafted_of result)
hub_drafted key old new now reply r result same_key same found drafts =
    let own : record_for key old.held now reply ≡ Some r =
    subst (λ (k : List ℕ). record_for k old.held now reply ≡ Some r) same_key found in
    drafted_some hub_rules hub_row_rules old new false r (record_for key old.held now reply) result same
    (λ never. absurd (let clash : false ≡ true = never in cc)) (λ some. own)
    (of_record (λ (r : HubRecord). DraftsSome hub_rules hub_row_rules old new false r result) _ r found drafts)
