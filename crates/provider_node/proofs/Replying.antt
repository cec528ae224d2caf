-- What follows where a reply is wanted.
use Rattle.std.specs.Prelude.{OnOk, Result, Ok, Err, is_some}
use Rattle.std.proofs.Common.{◌≡◌, inl, inr, ℕ, true, false, Option, None, Some, sym, subst, refl, ap, ◌∙◌}
use Rattle.crash_disk.specs.Disk.{Image, DiskState}
use Rattle.http_wire.specs.declared.answer.Answer.{Answer}
use Rattle.http_wire.specs.declared.answer.Answer.TheVariants.{Fixed, Full}
use Rattle.http_wire.specs.Requests.{Request}
use Rattle.gate_journal.specs.declared.fault.OpenFault.{OpenFault}
use Rattle.record_ledger.specs.Rules.{RecordRules, AreRecords}
use Rattle.record_ledger.specs.Ledger.{Held}
use Rattle.record_ledger.specs.Compacting.{Compacts}
use Rattle.provider_node.specs.Replies.{AreReplies, HasNoPlace, IsAgain, IsPage, ReplyRules}
use Rattle.provider_node.specs.Serving.{Adds}
use Rattle.provider_node.specs.Calls.{CommittingLeaves, MakesCompaction}
use Rattle.provider_node.specs.Step.{AnswersBy, HasPlace, InCommit, IsWhole, Ledger, NoPlace, ServesOnDisk}
use Rattle.provider_node.specs.Step.{ServingLeaves, Starved, provider}
use Rattle.provider_node.specs.declared.codes.TheConstants.{FULL, NO_MEMORY}
use Rattle.provider_node.proofs.Serving.{adding, served, served_later, whole_on}

-- what leaves the ledger alone
pub same_ledger : {Setup R : Type 0} (setup : Setup) (old mid : Ledger R)
    → old.broken ≡ false → mid ≡ old → IsWhole (provider setup old) (provider setup mid) old.held
same_ledger {Setup} {R} setup old mid whole same = record {
  setup = refl;
  key = ap (λ (l : Ledger R). l.key) same;
  unbroken = ap (λ (l : Ledger R). l.broken) same ∙ whole;
  is = ap (λ (l : Ledger R). l.held) same;
}

-- there is something to record
some_of : {R : Type 0} (o : Option R) (r : R) → o ≡ Some r → is_some o ≡ true
some_of o r is = ap is_some is

module _ {Setup R Reply : Type 0} (replies : ReplyRules Setup R Reply) (rules : RecordRules R)
    (Answers : AnswersBy Setup R) (setup : Setup) (now : ℕ) (law : AreReplies replies rules Answers setup now) where
  -- a reply that is wanted over a ledger, and the record for which it stands
  pub record Stands (held : Held R) (request : Request) (reply : Reply) (r : R) : Type 0 where
    pub wants : replies.wants setup held request now reply
    pub is : replies.record_for setup held now reply ≡ Some r

  pub page_answers : (held : Held R) (request : Request) (reply : Reply) (r : R) (answer : Answer) → Stands
      held request reply r → IsPage replies setup reply r now answer → Answers setup held request now answer (Some r)
  page_answers held request reply r answer stands page = subst (λ (a : Answer). Answers setup held request
      now a (Some r)) (sym page.is) (law.answers held request reply r page.bytes stands.wants stands.is page.shows)

  pub answer_of : (held : Held R) (request : Request) (reply : Reply) (r : R)
      → Stands held request reply r → (other : Answer) × Answers setup held request now other (Some r)
  answer_of held request reply r stands = let page = law.has_page held request reply r stands.wants stands.is in
      (Full page.0, law.answers held request reply r page.0 stands.wants stands.is page.1)

  -- ---- at once

  pub serves_reply : (old mid new : Ledger R) (request : Request) (Risen : Type 0) (answer : Answer)
      (reply : Reply) (r : R) (told later : Option DiskState) → mid ≡ old → Stands old.held request reply r
      → HasPlace rules old.held r → Adds rules (IsPage replies setup reply r now) r Risen answer (provider setup mid)
      (provider setup new) told later → ServesOnDisk rules Answers old.held request now Risen answer
      (provider setup old) (provider setup new) told later
  serves_reply old mid new request Risen answer reply r told later same stands place adds = served rules Answers
      (provider setup old) (provider setup new) request now Risen answer r (IsPage replies setup reply r now) told later
      (λ other page. page_answers old.held request reply r other stands page) place (subst (λ (l : Ledger R). Adds rules
      (IsPage replies setup reply r now) r Risen answer (provider setup l) (provider setup new) told later) same adds)

  pub reply_leaves : (old mid : Ledger R) (request : Request) (reply : Reply) (r : R) (told : Option DiskState)
      → mid ≡ old → Stands old.held request reply r → HasPlace rules old.held r → (image : Image)
      → CommittingLeaves rules r mid.held told image → ServingLeaves rules Answers setup old.held request now told image
  reply_leaves old mid request reply r told same stands place image left =
      let other = answer_of old.held request reply r stands in
      InCommit (adding old.held told (inl (refl, refl)) r other.0 other.1 place)
      (subst (λ (l : Ledger R). CommittingLeaves rules r l.held told image) same left)

  -- ---- after a compaction

  again : (old anew : Ledger R) (request : Request) (reply : Reply)
      → AreRecords rules old.held.records → replies.wants setup old.held request now reply
      → HasNoPlace rules old.held (replies.record_for setup old.held now reply) → Compacts rules now old.held anew.held
      × (anew.broken ≡ false) → anew.key ≡ old.key → IsAgain replies rules Answers setup now old anew request reply
  again old anew request reply are wants full made key =
      let other = answer_of old.held request reply full.r (record { wants = wants; is = full.is }) in
      record {
        room = record {
          room = record { wanted = full.r; other = other.0; wants = other.1; none = full.none; are = are };
          made = made.0;
        };
        whole = record { setup = refl; key = key; unbroken = made.1; is = refl };
        wants = law.still old.held anew.held request reply are made.0 wants;
        some = law.stands old.held anew.held request reply are made.0 wants ∙ some_of _ full.r full.is;
      }

  pub again_where : (old anew : Ledger R) (request : Request) (reply : Reply) (result : Result (Unit {0}) OpenFault)
      → AreRecords rules old.held.records → replies.wants setup old.held request now reply
      → HasNoPlace rules old.held (replies.record_for setup old.held now reply)
      → OnOk result (Compacts rules now old.held anew.held × (anew.broken ≡ false))
      → anew.key ≡ old.key → OnOk result (IsAgain replies rules Answers setup now old anew request reply)
  again_where old anew request reply (Ok u) are wants full made key =
      again old anew request reply are wants full made key
  again_where old anew request reply (Err fault) are wants full made key = tt

  pub serves_again : (old anew mid new : Ledger R) (request : Request)
      (Risen : Type 0) (answer : Answer) (reply : Reply) (r : R) (told between later : Option DiskState)
      → IsAgain replies rules Answers setup now old anew request reply → MakesCompaction rules now old.held told between
      → mid ≡ anew → replies.record_for setup anew.held now reply ≡ Some r → HasPlace rules anew.held r → Adds rules
      (IsPage replies setup reply r now) r Risen answer (provider setup mid) (provider setup new) between later →
      ServesOnDisk rules Answers old.held request now Risen answer (provider setup old) (provider setup new) told later
  serves_again old anew mid new request Risen answer reply r told between later re made same is place adds =
      served_later rules Answers (provider setup old) (provider setup anew) (provider setup new)
      request now Risen answer r (IsPage replies setup reply r now) told between later re.room made re.whole
      (λ other page. page_answers anew.held request reply r other (record { wants = re.wants; is = is }) page) place
      (subst (λ (l : Ledger R). Adds rules (IsPage replies setup reply r now)
      r Risen answer (provider setup l) (provider setup new) between later) same adds)

  pub again_leaves : (old anew mid : Ledger R) (request : Request) (reply : Reply)
      (r : R) (told between : Option DiskState) → IsAgain replies rules Answers setup now old anew request reply
      → MakesCompaction rules now old.held told between → mid ≡ anew → replies.record_for setup anew.held now
      reply ≡ Some r → HasPlace rules anew.held r → (image : Image) → CommittingLeaves rules r mid.held between image
      → ServingLeaves rules Answers setup old.held request now told image
  again_leaves old anew mid request reply r told between re made same is place image left =
      let other = answer_of anew.held request reply r (record { wants = re.wants; is = is }) in
      InCommit (adding anew.held between (inr (re.room, made)) r other.0 other.1 place)
      (subst (λ (l : Ledger R). CommittingLeaves rules r l.held between image) same left)

  whole_again : (old anew mid : Ledger R) (request : Request) (reply : Reply) → IsAgain replies rules Answers
      setup now old anew request reply → mid ≡ anew → IsWhole (provider setup old) (provider setup mid) anew.held
  whole_again old anew mid request reply re same = whole_on (provider setup old) (provider setup anew)
      (provider setup mid) anew.held anew.held re.whole (same_ledger setup anew mid re.whole.unbroken same)

  pub starved_again : (old anew mid : Ledger R) (request : Request) (Risen : Type 0)
      (reply : Reply) (told later : Option DiskState) → IsAgain replies rules Answers setup now old anew request reply
      → MakesCompaction rules now old.held told later → mid ≡ anew → ServesOnDisk
      rules Answers old.held request now Risen (Fixed NO_MEMORY) (provider setup old) (provider setup mid) told later
  starved_again old anew mid request Risen reply told later re made same = record {
    serves = Starved anew.held (inr re.room) refl (whole_again old anew mid request reply re same);
    calls = made;
  }

  pub full_again : (old anew mid : Ledger R) (request : Request) (Risen : Type 0) (reply : Reply) (told later : Option
      DiskState) → IsAgain replies rules Answers setup now old anew request reply → MakesCompaction rules now old.held
      told later → mid ≡ anew → HasNoPlace rules anew.held (replies.record_for setup anew.held now reply) → ServesOnDisk
      rules Answers old.held request now Risen (Fixed FULL) (provider setup old) (provider setup mid) told later
  full_again old anew mid request Risen reply told later re made same full =
      let other = answer_of anew.held request reply full.r (record { wants = re.wants; is = full.is }) in
      record {
        serves = NoPlace anew.held full.r other.0 re.room other.1 full.none refl
            (whole_again old anew mid request reply re same);
        calls = made;
      }

  -- there is something to record behind it as before
  pub not_nothing : (old anew : Ledger R) (request : Request) (reply : Reply) → IsAgain
      replies rules Answers setup now old anew request reply → replies.record_for setup anew.held now reply ≡ None → ⊥
  not_nothing old anew request reply re none = let clash : true ≡ false = sym re.some ∙ ap is_some none in cc
