-- What a role of a provider says of its replies, and what its calls give.
use Rattle.std.specs.Prelude.{◌≡◌, ℕ, true, List, Option, None, Some, is_some, Result, Ok, Err}
use Rattle.http_wire.specs.declared.answer.Answer.{Answer}
use Rattle.http_wire.specs.declared.answer.Answer.TheVariants.{Fixed, Full}
use Rattle.http_wire.specs.Requests.{Request}
use Rattle.serve_loop.specs.Worlds.{HasBytes}
use Rattle.fault_verdicts.specs.Judging.{IsJudged}
use Rattle.fault_verdicts.specs.declared.judged.Judged.{Judged}
use Rattle.verdict_codes.specs.Codes.{number_of}
use Rattle.verdict_codes.specs.declared.codes.Verdict.{Verdict}
use Rattle.record_ledger.specs.Rules.{RecordRules, AreRecords}
use Rattle.record_ledger.specs.Ledger.{Held}
use Rattle.record_ledger.specs.Compacting.{Compacts}
use Rattle.provider_node.specs.declared.drafted.DraftOutcome.{DraftOutcome}
use Rattle.provider_node.specs.declared.drafted.DraftOutcome.TheVariants as drafts
use Rattle.provider_node.specs.declared.replied.Replied.{Replied}
use Rattle.provider_node.specs.declared.replied.Replied.TheVariants.{Plain, ForRecord}
use Rattle.provider_node.specs.Step.{AnswersBy, HasPlace, IsWhole, Ledger, MakesRoom, provider}

-- What is said of the replies that stand for records.
pub record ReplyRules (Setup R Reply : Type 0) : Type 1 where
  -- a request wants this reply over a ledger at a moment
  pub wants : Setup → Held R → Request → (now : ℕ) → Reply → Type 0
  -- the record for which it stands there; none where there is nothing to record
  pub record_for : Setup → Held R → (now : ℕ) → Reply → Option R
  -- the page of it and of its record has these bytes
  pub shows : Setup → Reply → R → (now : ℕ) → List ℕ → Type 0
  -- the verdict that is answered where there is nothing to record
  pub refusal : Reply → Verdict

-- a reply to a request: an answer that stands for no record, or a reply that is wanted
abbrev pub IsReplied : {Reply : Type 0} (IsAnswer : Answer → Type 0) (IsWanted : Reply → Type 0)
    → Replied Reply → Type 0
IsReplied IsAnswer IsWanted (Plain answer) = IsAnswer answer × HasBytes answer
IsReplied IsAnswer IsWanted (ForRecord reply) = IsWanted reply

-- what is replied to a request: so, or it is refused with the verdict whose page is the answer
abbrev pub Replies : {Reply : Type 0} (IsAnswer : Answer → Type 0) (IsWanted : Reply → Type 0)
    → Result (Replied Reply) Judged → Type 0
Replies IsAnswer IsWanted (Ok replied) = IsReplied IsAnswer IsWanted replied
Replies IsAnswer IsWanted (Err judged) = IsJudged (λ verdict. IsAnswer (Fixed (number_of verdict))) judged

-- there is something to record, and no place for it
pub record HasNoPlace {R : Type 0} (rules : RecordRules R) (held : Held R) (wanted : Option R) : Type 0 where
  pub r : R
  pub is : wanted ≡ Some r
  pub none : ¬ (HasPlace rules held r)

-- What became of the draft of what is to be recorded: a draft of it, which can be committed and has its place; there
-- was nothing to record; there is no place for it; there was no memory.
abbrev pub IsDrafted : {R : Type 0}
    → RecordRules R → Held R → (CanCommit : R → Type 0) (wanted : Option R) → DraftOutcome R → Type 0
IsDrafted rules held CanCommit wanted (drafts.Ready r) = (wanted ≡ Some r) × CanCommit r × HasPlace rules held r
IsDrafted rules held CanCommit wanted drafts.Nothing = wanted ≡ None
IsDrafted rules held CanCommit wanted drafts.NoPlace = HasNoPlace rules held wanted
IsDrafted rules held CanCommit wanted drafts.NoMemory = Unit {0}

module _ {Setup R Reply : Type 0} (replies : ReplyRules Setup R Reply) where
  -- a reply that a request wanted over some ledger, and the record for which it stood there
  pub record IsWanted (setup : Setup) (now : ℕ) (reply : Reply) (r : R) : Type 0 where
    pub held : Held R
    pub request : Request
    pub wants : replies.wants setup held request now reply
    pub is : replies.record_for setup held now reply ≡ Some r

  -- an answer is the page of a reply and of its record
  pub record IsPage (setup : Setup) (reply : Reply) (r : R) (now : ℕ) (answer : Answer) : Type 0 where
    pub bytes : List ℕ
    pub shows : replies.shows setup reply r now bytes
    pub is : answer ≡ Full bytes

  -- One compaction was made as there was no place for the record of a reply that a request wants. Behind it the reply
  -- is wanted as before, and there is something to record.
  pub record IsAgain (rules : RecordRules R) (Answers : AnswersBy Setup R)
      (setup : Setup) (now : ℕ) (old new : Ledger R) (request : Request) (reply : Reply) : Type 0 where
    pub room : MakesRoom rules Answers setup old.held request now new.held
    pub whole : IsWhole (provider setup old) (provider setup new) new.held
    pub wants : replies.wants setup new.held request now reply
    pub some : is_some (replies.record_for setup new.held now reply) ≡ true

  -- What is said of the replies agrees with the answers of the provider, of whichever request and ledger at this
  -- moment.
  pub record AreReplies (rules : RecordRules R) (Answers : AnswersBy Setup R) (setup : Setup) (now : ℕ) : Type 0 where
    -- the page of a reply that is wanted and of its record is the answer that adds this record, and there is such a
    -- page
    pub answers : (held : Held R) (request : Request) (reply : Reply) (r : R) (bytes : List ℕ)
        → replies.wants setup held request now reply → replies.record_for setup held now reply ≡ Some r
        → replies.shows setup reply r now bytes → Answers setup held request now (Full bytes) (Some r)
    pub has_page : (held : Held R) (request : Request) (reply : Reply) (r : R)
        → replies.wants setup held request now reply
        → replies.record_for setup held now reply ≡ Some r → (bytes : List ℕ) × replies.shows setup reply r now bytes
    -- where there is nothing to record the answer is its verdict
    pub refused : (held : Held R) (request : Request) (reply : Reply)
        → replies.wants setup held request now reply → replies.record_for setup held now reply ≡ None
        → Answers setup held request now (Fixed (number_of (replies.refusal reply))) None
    -- behind a compaction the reply is wanted as before it, and there is something to record as before
    pub still : (old new : Held R) (request : Request) (reply : Reply) → AreRecords rules old.records → Compacts
        rules now old new → replies.wants setup old request now reply → replies.wants setup new request now reply
    pub stands : (old new : Held R) (request : Request) (reply : Reply)
        → AreRecords rules old.records → Compacts rules now old new → replies.wants setup old request now reply
        → is_some (replies.record_for setup new now reply) ≡ is_some (replies.record_for setup old now reply)
