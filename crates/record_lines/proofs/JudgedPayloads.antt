-- Payloads that are judged one after the other.
use Rattle.std.proofs.Common.{◌≡◌, ℕ, ◌+◌, ◌<◌, ◌≤◌, true, false, List, [], ◌∷◌, ◌++◌, length, take, None, Some, Ok, Err, refl, sym, ap, ◌∙◌, arith}
use Rattle.std.specs.Prelude.{IsOk, Option, Result}
use Rattle.std.proofs.lemmas.Bool.{true≢false}
use Rattle.std.proofs.lemmas.List.{append-nil, append_assoc, take_at}
use Rattle.gate_journal.specs.Format.{Kept, Fault, end_of}
use Rattle.gate_journal.proofs.Payloads.{sizes-push}
use Rattle.record_ledger.specs.Rules.{RecordRules, records_from, records_of}
use Rattle.record_ledger.specs.Ledger.{Held, of_journal, some_held, with_records}
use Rattle.record_ledger.proofs.Records.{records_of-record, records_of-none, next_unread, next_refused}
use Rattle.record_ledger.proofs.Committing.{sizes_least}
use Rattle.record_lines.specs.Judging.{AreRead}

module _ {R S : Type 0} (rules : RecordRules R) (stands : S → List R → Type 0) where
  -- none yet
  pub none_read : (version : ℕ) (standing : S) → stands standing [] → AreRead rules stands version [] standing
  unfolding records_from
  none_read version standing stand = record { records = []; are = refl; stand = stand }

  -- one more that is a record
  pub one_read : (version : ℕ) (payloads : List (List ℕ)) (payload : List ℕ) (r : R) (old new : S) → AreRead rules stands version payloads old → rules.found version payload ≡ Some r
      → ((records : List R) → stands old records → true ≡ rules.is_record records r) → ((records : List R) → stands old records → stands new (records ++ r ∷ []))
      → AreRead rules stands version (payloads ++ payload ∷ []) new
  one_read version payloads payload r old new l found is after = record {
    records = l.records ++ r ∷ [];
    are = records_of-record rules version l.records payloads payload r l.are found (sym (is l.records l.stand));
    stand = after l.records l.stand;
  }

  -- one more that is none, whatever comes behind it
  pub one_unread : (version : ℕ) (payloads later : List (List ℕ)) (payload : List ℕ) (old : S) → AreRead rules stands version payloads old → rules.found version payload ≡ None
      → records_of rules version (payloads ++ payload ∷ later) ≡ Err (length payloads)
  one_unread version payloads later payload old l found =
      records_of-none rules version l.records payloads later payload (length l.records) l.are
      (next_unread rules l.records (rules.found version payload) (λ s. Ok (l.records ++ s ∷ [])) found)

  pub one_refused : (version : ℕ) (payloads later : List (List ℕ)) (payload : List ℕ) (r : R) (old : S) → AreRead rules stands version payloads old → rules.found version payload ≡ Some r
      → ((records : List R) → stands old records → false ≡ rules.is_record records r) → records_of rules version (payloads ++ payload ∷ later) ≡ Err (length payloads)
  one_refused version payloads later payload r old l found is =
      records_of-none rules version l.records payloads later payload (length l.records) l.are
      (next_refused rules l.records (rules.found version payload) (λ s. Ok (l.records ++ s ∷ [])) r found (sym (is l.records l.stand)))

  -- So many payloads of a file were read, up to this place; the others are still to come.
  pub record IsMidway (version : ℕ) (payloads rest : List (List ℕ)) (place : ℕ) (standing : S) : Type 0 where
    pub passed : List (List ℕ)
    pub split : payloads ≡ passed ++ rest
    pub here : place ≡ end_of passed
    pub within : place ≤ 134217728
    pub read : AreRead rules stands version passed standing

  pub begun : (version : ℕ) (payloads rest : List (List ℕ)) (place : ℕ) (standing : S) → payloads ≡ rest → place ≡ 72 → stands standing [] → IsMidway version payloads rest place standing
  begun version payloads rest place standing all first stand =
      record { passed = []; split = all; here = first; within = omega arith; read = none_read version standing stand }

  pub few : (version : ℕ) (payloads rest : List (List ℕ)) (place : ℕ) (standing : S) → (m : IsMidway version payloads rest place standing) → length m.passed < 4294967295
  few version payloads rest place standing m = omega (arith, sizes_least m.passed, m.here, m.within)

  pub went_on : (version : ℕ) (payloads rest later : List (List ℕ)) (payload : List ℕ) (place next : ℕ) (old new : S) → (m : IsMidway version payloads rest place old) → rest ≡ payload ∷ later
      → next ≡ place + (length payload + 5) → next ≤ 134217728 → AreRead rules stands version (m.passed ++ payload ∷ []) new → IsMidway version payloads later next new
  went_on version payloads rest later payload place next old new m same moved low read = record {
    passed = m.passed ++ payload ∷ [];
    split = m.split ∙ ap (λ ps. m.passed ++ ps) same ∙ sym (append_assoc m.passed (payload ∷ []) later);
    here = omega (arith, moved, m.here, sizes-push m.passed payload);
    within = low;
    read = read;
  }

  pub all_read : (version : ℕ) (payloads rest : List (List ℕ)) (place : ℕ) (standing : S) → (m : IsMidway version payloads rest place standing) → rest ≡ [] → records_of rules version payloads ≡ Ok m.read.records
  all_read version payloads rest place standing m none =
      ap (records_of rules version) (m.split ∙ ap (λ ps. m.passed ++ ps) none ∙ append-nil m.passed) ∙ m.read.are

  pub stopped : (version : ℕ) (payloads rest later : List (List ℕ)) (payload : List ℕ) (place : ℕ) (old : S) → (m : IsMidway version payloads rest place old) → rest ≡ payload ∷ later
      → ((more : List (List ℕ)) → records_of rules version (m.passed ++ payload ∷ more) ≡ Err (length m.passed))
      → (n : ℕ) × (records_of rules version payloads ≡ Err n) × (place ≡ end_of (take n payloads))
  stopped version payloads rest later payload place old m same none =
      let split : payloads ≡ m.passed ++ payload ∷ later = m.split ∙ ap (λ ps. m.passed ++ ps) same in (
        length m.passed,
        ap (records_of rules version) split ∙ none later,
        m.here ∙ ap end_of (sym (ap (take (length m.passed)) split ∙ take_at m.passed (payload ∷ later) (length m.passed) refl)),
      )

-- what the records are, where each payload is one
pub read_ok : {X : Type 0} (r : Result X ℕ) → IsOk r → (x : X) × (r ≡ Ok x)
read_ok (Ok x) is = (x, refl)
read_ok (Err n) is = absurd (true≢false (sym is))

-- a journal each of whose payloads is a record
pub judged : {R : Type 0} (rules : RecordRules R) (journal : Result (Option Kept) Fault) (kept : Kept) → journal ≡ Ok (Some kept) → IsOk (records_of rules kept.holds.version kept.holds.payloads)
    → (held : Held R) × (of_journal rules journal ≡ Ok (Some held)) × (records_of rules kept.holds.version kept.holds.payloads ≡ Ok held.records)
judged rules journal kept stands are =
    let (records, is) = read_ok (records_of rules kept.holds.version kept.holds.payloads) are in (
      record { file = kept.file; version = kept.holds.version; header = kept.holds.header; records = records },
      ap (of_journal rules) stands ∙ ap (λ r. some_held (with_records kept r)) is,
      is,
    )
