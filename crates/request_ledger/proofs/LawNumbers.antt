-- The numbers that records draw.
use Rattle.std.proofs.Common.{◌≡◌, ℕ, ◌<◌, ◌≤◌, max, true, false, List, [], ◌∷◌, ◌++◌, refl, subst, inl, inr, arith}
use Rattle.std.specs.List.{list_any}
use Rattle.std.proofs.lemmas.Bool.{false≢true, or_cases, or_from, false_from_ne_true}
use Rattle.record_ledger.proofs.Numbers as any
use Rattle.record_ledger.proofs.Numbers.{one_number, all_fresh}
use Rattle.ledger_records.specs.declared.sp_record.SpRecord.{SpRecord}
use Rattle.ledger_records.specs.declared.sp_record.SpRecord.TheVariants as kinds
use Rattle.ledger_rules.specs.Numbers.{has_number, above, are_fresh, NUMBER_END}
use Rattle.record_ledger.proofs.Words.{same_text}
use Rattle.request_ledger.specs.Record.{drawn, next_of, AreRecordsAfter, request_rules}
use Rattle.request_ledger.specs.Naming.{names_asked}
use Rattle.request_ledger.proofs.LawWords.{parts}

-- the number above all that are drawn
pub next_cons : (r : SpRecord) (later : List SpRecord) → next_of (r ∷ later) ≡ max (above (drawn r)) (next_of later)
next_cons = any.next_cons request_rules

pub next_push : (before : List SpRecord) (r : SpRecord) → next_of (before ++ r ∷ []) ≡ max (next_of before) (above (drawn r))
next_push = any.next_push request_rules

-- a number below this one, with which a text begins
pub record HasNumber (request : List ℕ) (next : ℕ) : Type 0 where
  pub number : ℕ
  pub below : number < next
  pub small : number < NUMBER_END
  pub begins : has_number number request ≡ true

pub number_further : (request : List ℕ) (next further : ℕ) → next ≤ further → HasNumber request next → HasNumber request further
number_further request next further more has = record { number = has.number; below = omega (arith, has.below, more); small = has.small; begins = has.begins }

-- the request of a record that asks
pub record AskedAs (least : ℕ) (r : SpRecord) (request : List ℕ) : Type 0 where
  pub number : ℕ
  pub greater : least ≤ number
  pub below : number < above (drawn r)
  pub small : number < NUMBER_END
  pub begins : has_number number request ≡ true

pub asked_as : (least : ℕ) (r : SpRecord) (request : List ℕ) → are_fresh least (drawn r) ≡ true → names_asked request r ≡ true → AskedAs least r request
asked_as least (kinds.Asked r) request fresh here =
    let own = all_fresh least (drawn (kinds.Asked r)) fresh in
    record {
      number = r.first;
      greater = own.0.greater;
      below = omega arith;
      small = own.0.small;
      begins = subst (λ id. has_number r.first id ≡ true) (same_text r.request request here) own.0.begins;
    }
asked_as least other request fresh here = absurd (false≢true here)

-- no record asks with a request that begins with a number that was drawn
pub not_asked : (least : ℕ) (r : SpRecord) (request : List ℕ) → are_fresh least (drawn r) ≡ true → HasNumber request least → names_asked request r ≡ false
not_asked least r request fresh has =
    false_from_ne_true (names_asked request r) (λ here.
    let own = asked_as least r request fresh here in
    let same = one_number has.number own.number request has.small own.small has.begins own.begins in
    omega (arith, same, has.below, own.greater))

pub not_asked_later : (request : List ℕ) (before later : List SpRecord) → HasNumber request (next_of before) → AreRecordsAfter before later
    → list_any (names_asked request) later ≡ false
not_asked_later request before [] has are = refl
not_asked_later request before (r ∷ later) has are =
    let grown = next_push before r in
    or_from (names_asked request r) (list_any (names_asked request) later)
    (not_asked (next_of before) r request (parts before r are.0).fresh has)
    (not_asked_later request (before ++ r ∷ []) later
    (number_further request (next_of before) (next_of (before ++ r ∷ [])) (omega arith) has) are.1)

-- a request that is asked begins with a number that was drawn
pub asked_number : (request : List ℕ) (before later : List SpRecord) → AreRecordsAfter before later → list_any (names_asked request) later ≡ true
    → HasNumber request (next_of later)
asked_number request before [] are some = absurd (false≢true some)
asked_number request before (r ∷ later) are some =
    let joined = next_cons r later in
    elim (or_cases (names_asked request r) (list_any (names_asked request) later) some) [
      | inl here ↦
          let own = asked_as (next_of before) r request (parts before r are.0).fresh here in
          record { number = own.number; below = omega (arith, joined, own.below); small = own.small; begins = own.begins }
      | inr there ↦
          number_further request (next_of later) (next_of (r ∷ later)) (omega arith)
          (asked_number request (before ++ r ∷ []) later are.1 there)
    ]
