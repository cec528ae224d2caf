-- Words for the laws, and facts of texts, tests and records one by one.
use Rattle.std.proofs.Common.{◌≡◌, ℕ, zero, suc, ◌<◌, ◌⊎◌, Bool, true, false, ◌&&◌, ◌||◌, not, nat_le, List, [], ◌∷◌, ◌++◌, length, slice_index_or, bytes_eq, refl, sym, ap, ◌∙◌, subst, inl, inr, arith}
use Rattle.std.specs.List.{list_any, list_all}
use Rattle.record_ledger.specs.Marks as any
use Rattle.record_ledger.proofs.Words.{same_text}
use Rattle.std.proofs.lemmas.Bool.{false≢true, and_parts, or_parts, or_from, or_cases, not-true}
use Rattle.std.proofs.lemmas.List.Folds.{list_any-append}
use Rattle.ledger_records.specs.declared.sp_record.SpRecord.{SpRecord}
use Rattle.ledger_records.specs.declared.sp_record.SpRecord.TheVariants as kinds
use Rattle.ledger_rules.specs.Numbers.{are_fresh, is_xml_text}
use Rattle.request_rows.specs.Rows.{is_spent}
use Rattle.request_ledger.specs.RowsOf.{rows_of, asked_rows, opened_rows}
use Rattle.request_ledger.specs.Record.{is_asked, is_free, drawn, texts, moment_of, LAST, next_of, is_record}
use Rattle.request_ledger.specs.Naming.{names_asked}

-- whether a record opens a session for this request
abbrev pub opens : List ℕ → SpRecord → Bool
opens request (kinds.Opened r) = bytes_eq r.request request
opens request other = false

-- what holds of each
abbrev pub Each : {X : Type 0} → (X → Type 0) → List X → Type 0
Each = any.Each

pub each_at : (P : List ℕ → Type 0) (texts : List (List ℕ)) → Each P texts → (k : ℕ) → k < length texts → P (slice_index_or texts k [])
each_at P [] each k within = absurd (omega arith)
each_at P (t ∷ texts) each zero within = each.0
each_at P (t ∷ texts) each (suc k) within = each_at P texts each.1 k (omega arith)

-- the rows of requests and of sessions, by their records
pub asked_any : (records : List SpRecord) (request : List ℕ) → is_asked (asked_rows records) request ≡ list_any (names_asked request) records
asked_any [] request = refl
asked_any (kinds.Asked r ∷ later) request = ap (λ b. bytes_eq r.request request || b) (asked_any later request)
asked_any (other ∷ later) request = asked_any later request

pub spent_any : (records : List SpRecord) (request : List ℕ) → is_spent (opened_rows records) request ≡ list_any (opens request) records
spent_any [] request = refl
spent_any (kinds.Opened r ∷ later) request = ap (λ b. bytes_eq r.request request || b) (spent_any later request)
spent_any (other ∷ later) request = spent_any later request

-- The four parts of what makes a record one of the ledger.
pub record NextParts (before : List SpRecord) (r : SpRecord) : Type 0 where
  pub free : is_free (rows_of before) r ≡ true
  pub fresh : are_fresh (next_of before) (drawn r) ≡ true
  pub texts : list_all is_xml_text (texts r) ≡ true
  pub moment : nat_le (moment_of r) LAST ≡ true

and_four : (a b c d : Bool) → (a && b && c && d) ≡ true → (a ≡ true) × (b ≡ true) × (c ≡ true) × (d ≡ true)
and_four true true true true is = (refl, refl, refl, refl)
and_four true true true false is = absurd (false≢true is)
and_four true true false d is = absurd (false≢true is)
and_four true false c d is = absurd (false≢true is)
and_four false b c d is = absurd (false≢true is)

four_and : (a b c d : Bool) → a ≡ true → b ≡ true → c ≡ true → d ≡ true → (a && b && c && d) ≡ true
four_and a b c d p q r s = rw (p, q, r, s) refl

pub parts : (before : List SpRecord) (r : SpRecord) → is_record before r ≡ true → NextParts before r
unfolding is_record
parts before r is =
    let four = and_four (is_free (rows_of before) r) (are_fresh (next_of before) (drawn r)) (list_all is_xml_text (texts r)) (nat_le (moment_of r) LAST) is in
    record { free = four.0; fresh = four.1; texts = four.2; moment = four.3 }

pub from_parts : (before : List SpRecord) (r : SpRecord) → NextParts before r → is_record before r ≡ true
unfolding is_record
from_parts before r p =
    four_and (is_free (rows_of before) r) (are_fresh (next_of before) (drawn r)) (list_all is_xml_text (texts r)) (nat_le (moment_of r) LAST)
    p.free p.fresh p.texts p.moment

-- a record that opens a session: its request was asked before, and not spent
pub record OpensRightly (before : List SpRecord) (request : List ℕ) : Type 0 where
  pub asked : list_any (names_asked request) before ≡ true
  pub unspent : list_any (opens request) before ≡ false

pub opens_rightly : (before : List SpRecord) (r : SpRecord) (request : List ℕ) → is_record before r ≡ true → opens request r ≡ true → OpensRightly before request
opens_rightly before (kinds.Opened r) request is here =
    let same = same_text r.request request here in
    let both = and_parts (is_asked (asked_rows before) r.request) (not (is_spent (opened_rows before) r.request)) (parts before (kinds.Opened r) is).free in
    record {
      asked = subst (λ q. list_any (names_asked q) before ≡ true) same (sym (asked_any before r.request) ∙ both.0);
      unspent = subst (λ q. list_any (opens q) before ≡ false) same (sym (spent_any before r.request) ∙ not-true (is_spent (opened_rows before) r.request) both.1);
    }
opens_rightly before other request is here = absurd (false≢true here)

-- none among all: none at the front, and not the last
pub none_push : {X : Type 0} (test : X → Bool) (xs : List X) (x : X) → list_any test (xs ++ x ∷ []) ≡ false → (list_any test xs ≡ false) × (test x ≡ false)
none_push test xs x none =
    let both = or_parts (list_any test xs) (list_any test (x ∷ [])) (sym (list_any-append test xs (x ∷ [])) ∙ none) in
    (both.0, (or_parts (test x) false both.1).0)

pub push_none : {X : Type 0} (test : X → Bool) (xs : List X) (x : X) → list_any test xs ≡ false → test x ≡ false → list_any test (xs ++ x ∷ []) ≡ false
push_none test xs x none here =
    list_any-append test xs (x ∷ []) ∙ or_from (list_any test xs) (list_any test (x ∷ [])) none (or_from (test x) false here refl)

pub push_some : {X : Type 0} (test : X → Bool) (xs : List X) (x : X) → list_any test (xs ++ x ∷ []) ≡ true → (list_any test xs ≡ true) ⊎ (test x ≡ true)
push_some test xs x some =
    elim (or_cases (list_any test xs) (list_any test (x ∷ [])) (sym (list_any-append test xs (x ∷ [])) ∙ some)) [
      | inl before ↦ inl before
      | inr here ↦ elim (or_cases (test x) false here) [ inl is ↦ inr is | inr wrong ↦ absurd (false≢true wrong) ]
    ]
