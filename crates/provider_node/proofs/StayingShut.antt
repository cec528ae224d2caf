-- That a session that is shut is never found again, whatever is added, compacted and opened since.
use Rattle.std.specs.Prelude.{Contains, None, Some, slice_get}
use Rattle.std.proofs.Common.{◌≡◌, inl, inr, ℕ, ◌<◌, ◌≤◌, max, Bool, true, false, ◌||◌, List, [], ◌∷◌, ◌++◌, All}
use Rattle.std.proofs.Common.{append_assoc, append-nil, sym, subst, ap, ◌∙◌, arith}
use Rattle.std.specs.List.{list_any}
use Rattle.std.specs.Str.{bytes_eq}
use Rattle.std.proofs.lemmas.Bool.{false≢true, false_from_ne_true, or_cases}
use Rattle.std.proofs.lemmas.List.Folds.{list_any-append}
use Rattle.ledger_rules.specs.Numbers.{Drawn, NUMBER_END, above, has_number}
use Rattle.record_ledger.specs.Rules.{RecordRules, AreRecords, AreRecordsAfter, next_of}
use Rattle.record_ledger.specs.Ledger.{Held, held_with, next_number}
use Rattle.record_ledger.specs.Compacting.{IsCompacted}
use Rattle.record_ledger.specs.Laws.{AreFreshlyDrawn, KeptAreRecords}
use Rattle.record_ledger.specs.Runs.{Event, Leads}
use Rattle.record_ledger.proofs.Numbers.{below_above, fresh_above, fresh_at, next_push, one_number}
use Rattle.record_ledger.proofs.Records.{AreRecords-push}
use Rattle.record_ledger.proofs.Words.{same_text}
use Rattle.provider_node.specs.Histories.{Includes}
use Rattle.provider_node.specs.Points.{AClosedSessionStaysClosed}
use Rattle.provider_node.proofs.Runs.{Lasts, lasts_behind, records_last, run_lasts}
use Rattle.provider_node.proofs.Sessions.{IsShut, Sessions, at_moment, found, is_there, keys_stay, none_more, none_open}
use Rattle.provider_node.proofs.Sessions.{none_shut, shut_where}

-- ---- numbers

-- a number below this one, with which a text begins
record HasNumber (text : List ℕ) (next : ℕ) : Type 0 where
  number : ℕ
  below : number < next
  small : number < NUMBER_END
  begins : has_number number text ≡ true

further : (text : List ℕ) (next later : ℕ) → next ≤ later → HasNumber text next → HasNumber text later
further text next later more has =
    record { number = has.number; below = omega (arith, has.below, more); small = has.small; begins = has.begins }

-- a text that begins with none of these numbers is another one
other_key : (least : ℕ) (key id : List ℕ) (number : ℕ)
    → HasNumber key least → least ≤ number → number < NUMBER_END → has_number number id ≡ true → bytes_eq id key ≡ false
other_key least key id number has above small begins = false_from_ne_true (bytes_eq id key)
    (λ same. let its = subst (λ (text : List ℕ). has_number number text ≡ true) (same_text id key same) begins in
    let one = one_number has.number number key has.small small has.begins its in omega (arith, one, has.below, above))

only_first : (b : Bool) → (b || false) ≡ true → b ≡ true
only_first true is = is
only_first false is = is

-- what is said of no records, and of each more, is said of those of a ledger
holds_of_records : {R : Type 0} (rules : RecordRules R) (P : List R → Type 0)
    → ((before : List R) (r : R) → rules.is_record before r ≡ true → P before → P (before ++ r ∷ []))
    → (before later : List R) → AreRecordsAfter rules before later → P before → P (before ++ later)
holds_of_records rules P more before [] are was = subst P (sym (append-nil before)) was
holds_of_records rules P more before (r ∷ later) are was = subst P (append_assoc before (r ∷ []) later)
    (holds_of_records rules P more (before ++ r ∷ []) later are.1 (more before r are.0 was))

-- ---- the sessions of a ledger

-- What becomes of the sessions of a ledger by a record: nothing; there is one more, whose key the record draws; or
-- some are shut.
pub data Becomes {S : Type 0} (sessions : Sessions S) (drawn : List Drawn) (old new : List S) : Type 0 where
  Same : new ≡ old → Becomes sessions drawn old new
  More : (row : S) (place number : ℕ) → slice_get drawn place ≡ Some (record { number = number; id = sessions.key row })
      → new ≡ old ++ row ∷ [] → Becomes sessions drawn old new
  Shut : (test : S → Bool) → new ≡ shut_where sessions test old → Becomes sessions drawn old new

-- What is said of the sessions that stand for the records of a ledger.
pub record KeepsSessions
    {R S : Type 0} (rules : RecordRules R) (sessions : Sessions S) (rows : List R → List S) : Type 0 where
  pub kept : KeptAreRecords rules
  pub fresh : AreFreshlyDrawn rules
  pub none : rows [] ≡ []
  pub becomes : (records : List R) (r : R) → Becomes sessions (rules.drawn r) (rows records) (rows (records ++ r ∷ []))
  pub alike : (now later : ℕ) (old new : Held R) (key : List ℕ)
      → AreRecords rules old.records → IsCompacted rules now old new → now ≤ later → found sessions
      (rows new.records) key later new.header.horizon ≡ found sessions (rows old.records) key later old.header.horizon

-- by its parts
pub keeps_sessions : {R S : Type 0} (rules : RecordRules R) (sessions : Sessions S) (rows : List R → List S)
    → KeptAreRecords rules → AreFreshlyDrawn rules → rows [] ≡ []
    → ((records : List R) (r : R) → Becomes sessions (rules.drawn r) (rows records) (rows (records ++ r ∷ [])))
    → ((now later : ℕ) (old new : Held R) (key : List ℕ) → AreRecords rules old.records → IsCompacted rules now old new
    → now ≤ later → found sessions (rows new.records) key later new.header.horizon ≡ found
    sessions (rows old.records) key later old.header.horizon) → KeepsSessions rules sessions rows
keeps_sessions rules sessions rows kept fresh none becomes alike =
    record { kept = kept; fresh = fresh; none = none; becomes = becomes; alike = alike }

module _ {R S : Type 0} (rules : RecordRules R)
    (sessions : Sessions S) (rows : List R → List S) (keeps : KeepsSessions rules sessions rows) where
  -- the key of a session begins with a number that was drawn
  abbrev HasItsNumber : List ℕ → List R → Type 0
  HasItsNumber key records = is_there sessions (rows records) key ≡ true → HasNumber key (next_of rules records)

  with_number : (key : List ℕ) (before : List R) (r : R)
      → rules.is_record before r ≡ true → HasItsNumber key before → HasItsNumber key (before ++ r ∷ [])
  with_number key before r is was there = of_case (keeps.becomes before r)
    where
      old : is_there sessions (rows before) key ≡ true → HasNumber key (next_of rules (before ++ r ∷ []))
      old there = let grown = next_push rules before r in
          further key (next_of rules before) (next_of rules (before ++ r ∷ [])) (omega (arith, grown)) (was there)

      of_case : Becomes sessions (rules.drawn r) (rows before) (rows (before ++ r ∷ []))
          → HasNumber key (next_of rules (before ++ r ∷ []))
      of_case (Same same) = old (ap (λ (l : List S). is_there sessions l key) (sym same) ∙ there)
      of_case (Shut test are) = old (sym (keys_stay sessions (rows before) key test)
          ∙ ap (λ (l : List S). is_there sessions l key) (sym are) ∙ there)
      of_case (More row place number at are) = let test : S → Bool = λ other. bytes_eq (sessions.key other) key in
          let joined : (list_any test (rows before) || (test row || false)) ≡ true = sym
          (list_any-append test (rows before) (row ∷ [])) ∙ ap (list_any test) (sym are) ∙ there in
          elim (or_cases (list_any test (rows before)) (test row || false) joined) [
            | inl earlier ↦ old earlier
            | inr own ↦
                let drawn : Drawn = record { number = number; id = sessions.key row } in
                let fresh = fresh_at (next_of rules before) (rules.drawn r) place drawn (keeps.fresh before r is) at in
                let below = below_above (rules.drawn r) place drawn at in
                let grown = next_push rules before r in
                record {
                  number = number;
                  below = omega (arith, below, grown);
                  small = fresh.small;
                  begins = subst (λ (id : List ℕ). has_number number id ≡ true)
                      (same_text (sessions.key row) key (only_first (test row) own)) fresh.begins;
                }
          ]

  key_number : (key : List ℕ) (records : List R) → AreRecords rules records → HasItsNumber key records
  key_number key records are = holds_of_records rules (HasItsNumber key) (with_number key) [] records are
      (λ there. absurd (false≢true (ap (λ (l : List S). is_there sessions l key) (sym keeps.none) ∙ there)))

  -- ---- from event to event

  -- no session of a key is found at any moment, and the key was drawn
  pub record NeverLives (key : List ℕ) (held : Held R) : Type 0 where
    drew : HasNumber key (next_number rules held)
    pub none : (now : ℕ) → found sessions (rows held.records) key now held.header.horizon ≡ None

  abbrev Never : List ℕ → Held R → Type 0
  Never key held = AreRecords rules held.records × NeverLives key held

  pub once_shut : (key : List ℕ) (held : Held R)
      → AreRecords rules held.records → IsShut sessions (rows held.records) key → Never key held
  once_shut key held are shut = (
    are,
    record {
      drew = further key (next_of rules held.records)
          (next_number rules held) (omega arith) (key_number key held.records are shut.there);
      none = λ now. none_open sessions (rows held.records) key now held.header.horizon shut.shut;
    },
  )

  added_none : (key : List ℕ) (before : Held R) (r : R) (now : ℕ) → rules.is_record before.records r ≡ true
      → All (λ (d : Drawn). next_number rules before ≤ d.number) (rules.drawn r)
      → NeverLives key before → Becomes sessions (rules.drawn r) (rows before.records) (rows (before.records ++ r ∷ []))
      → found sessions (rows (before.records ++ r ∷ [])) key now before.header.horizon ≡ None
  added_none key before r now is above never (Same same) =
      ap (λ (l : List S). found sessions l key now before.header.horizon) same ∙ never.none now
  added_none key before r now is above never (Shut test are) =
      ap (λ (l : List S). found sessions l key now before.header.horizon) are
      ∙ none_shut sessions (rows before.records) key now before.header.horizon test (never.none now)
  added_none key before r now is above never (More row place number at are) = let least = next_number rules before in
      let fresh = fresh_above
      (next_of rules before.records) least (rules.drawn r) (keeps.fresh before.records r is) above in
      let own = fresh_at least (rules.drawn r) place (record { number = number; id = sessions.key row }) fresh at in
      ap (λ (l : List S). found sessions l key now before.header.horizon) are
      ∙ none_more sessions (rows before.records) key now before.header.horizon row
      (other_key least key (sessions.key row) number never.drew own.greater own.small own.begins) (never.none now)

  never_lasts : (key : List ℕ) → Lasts rules (Never key)
  never_lasts key = let last = records_last rules keeps.kept in
      record {
        adds =
            λ before r is above (are, never). let grown = next_push rules before.records r in (
              last.adds before r is above are,
              record {
                drew = further key (next_number rules before)
                    (next_number rules (held_with r before)) (omega (arith, grown)) never.drew;
                none = λ now. added_none key before r now is above never (keeps.becomes before.records r);
              },
            );
        compacts = λ now before held made (are, never). (
          last.compacts now before held made are,
          record {
            drew =
                further key (next_number rules before) (next_number rules held) (omega (arith, made.next)) never.drew;
            none = λ then_now. at_moment sessions (rows held.records) key then_now held.header.horizon
                (max then_now now) (omega (arith, made.horizon)) ∙ keeps.alike now
                (max then_now now) before held key are made (omega arith) ∙ never.none (max then_now now);
          },
        );
        opens = λ before (are, never). (are, record { drew = never.drew; none = never.none });
      }

  -- ---- over a history

  module _ (IsClosed : Held R → List ℕ → Type 0)
      (shut : (held : Held R) (key : List ℕ) → IsClosed held key → IsShut sessions (rows held.records) key) where
    pub stays_shut : AClosedSessionStaysClosed rules IsClosed
        (λ held key. (now : ℕ) → found sessions (rows held.records) key now held.header.horizon ≡ None)
    stays_shut start held events key are closed leads = (run_lasts rules
        (Never key) (never_lasts key) start held events (once_shut key start are (shut start key closed)) leads).1.none

  -- also from a record on that shuts it
  pub shut_behind : (start : Held R) → AreRecords rules start.records → (r : R) (key : List ℕ) → ((before : Held R)
      → rules.is_record before.records r ≡ true → IsShut sessions (rows (before.records ++ r ∷ [])) key)
      → (events : List (Event R)) (records : List R) (held : Held R) → Includes events records → Contains records r →
      Leads rules start events held → (now : ℕ) → found sessions (rows held.records) key now held.header.horizon ≡ None
  shut_behind start are r key shuts events records held includes has leads = let last = records_last rules keeps.kept in
      (lasts_behind rules (Never key) (λ held. AreRecords rules held.records)
      (never_lasts key) last start are r (λ before was is. once_shut key (held_with r before)
      (AreRecords-push rules before.records r was is) (shuts before is)) events records held includes has leads).1.none
