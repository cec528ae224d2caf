-- Where a request is kept, so is the session that was opened for it.
use Rattle.std.proofs.Common.{◌≡◌, ℕ, Bool, true, false, ◌||◌, List, [], ◌∷◌, ◌++◌, refl, sym, ap, ◌∙◌, subst, inl, inr, arith}
use Rattle.std.specs.List.{list_any}
use Rattle.std.proofs.lemmas.Bool.{cases_Bool, false≢true, false_from_ne_true}
use Rattle.ledger_records.specs.declared.sp_record.SpRecord.{SpRecord}
use Rattle.ledger_records.specs.declared.sp_record.SpRecord.TheVariants as kinds
use Rattle.request_ledger.specs.Naming.{names, names_asked}
use Rattle.record_ledger.specs.Marks.{all, kept, KeepsAll}
use Rattle.record_ledger.proofs.Words.{each_weaker, same_text}
use Rattle.record_ledger.proofs.KeptMarks.{any_same, none_kept}
use Rattle.record_ledger.proofs.KeptFlags.{are_marked}
use Rattle.request_ledger.specs.Record.{next_of, is_record, AreRecordsAfter, AreRecords, request_rules}
use Rattle.request_ledger.specs.Compacting.{AreKept}
use Rattle.request_ledger.proofs.LawWords.{opens, parts, opens_rightly, push_none}
use Rattle.request_ledger.proofs.LawNumbers.{next_push, asked_as, not_asked_later}
use Rattle.request_ledger.proofs.KeptMarks.{Marked, NamersOf, AreClosed}

-- what opens a session for a request names the record that asked with it
opener_names : (request : List ℕ) (x r : SpRecord) → names_asked request r ≡ true → opens request x ≡ true → names x r ≡ true
opener_names request (kinds.Opened o) r asked here = subst (λ q. names_asked q r ≡ true) (sym (same_text o.request request here)) asked
opener_names request other r asked here = absurd (false≢true here)

openers_kept : (request : List ℕ) (r : SpRecord) (later : List Marked) → names_asked request r ≡ true → NamersOf (true, r) later → KeepsAll (opens request) later
openers_kept request r later asked =
    each_weaker (λ (n : Marked). names n.1 r ≡ true → n.0 ≡ true) (λ (n : Marked). opens request n.1 ≡ true → n.0 ≡ true)
    (λ n keeps here. keeps (opener_names request n.1 r asked here)) later

-- no request is asked twice
asked_once : (request : List ℕ) (before later : List SpRecord) (r : SpRecord) → is_record before r ≡ true → names_asked request r ≡ true
    → AreRecordsAfter (before ++ r ∷ []) later → list_any (names_asked request) later ≡ false
asked_once request before later r is asked are =
    let own = asked_as (next_of before) r request (parts before r is).fresh asked in
    let grown = next_push before r in
    not_asked_later request (before ++ r ∷ []) later
    (record { number = own.number; below = omega (arith, grown, own.below); small = own.small; begins = own.begins }) are

not_opened_now : (request : List ℕ) (before : List SpRecord) (r : SpRecord) → is_record before r ≡ true → list_any (names_asked request) before ≡ false
    → opens request r ≡ false
not_opened_now request before r is none =
    false_from_ne_true (opens request r) (λ here. false≢true (sym none ∙ (opens_rightly before r request is here).asked))

other_one : (a b : Bool) → (a || b) ≡ true → a ≡ false → b ≡ true
other_one true b is none = absurd (false≢true (sym none))
other_one false b is none = is

spent_kept : (request : List ℕ) (before : List SpRecord) (marks : List Marked) → AreRecordsAfter before (all marks)
    → list_any (names_asked request) before ≡ false → AreClosed marks → list_any (names_asked request) (kept marks) ≡ true
    → list_any (opens request) (kept marks) ≡ list_any (opens request) (all marks)
spent_kept request before [] are none linked some = absurd (false≢true some)
spent_kept request before ((true, r) ∷ marks) are none linked some =
    elim (cases_Bool (names_asked request r)) [
      | inl asked ↦ ap (λ b. opens request r || b) (any_same (opens request) marks (openers_kept request r marks asked linked.0))
      | inr not_asked ↦
          let there = other_one (names_asked request r) (list_any (names_asked request) (kept marks)) some not_asked in
          ap (λ b. opens request r || b)
          (spent_kept request (before ++ r ∷ []) marks are.1 (push_none (names_asked request) before r none not_asked) linked.1 there)
    ]
spent_kept request before ((false, r) ∷ marks) are none linked some =
    elim (cases_Bool (names_asked request r)) [
      | inl asked ↦
          absurd (false≢true (sym (none_kept (names_asked request) marks (asked_once request before (all marks) r are.0 asked are.1)) ∙ some))
      | inr not_asked ↦
          spent_kept request (before ++ r ∷ []) marks are.1 (push_none (names_asked request) before r none not_asked) linked.1 some
          ∙ sym (ap (λ b. b || list_any (opens request) (all marks)) (not_opened_now request before r are.0 none))
    ]

pub spent_alike : (now horizon : ℕ) (records some : List SpRecord) → AreRecords records → AreKept now horizon records some
    → (request : List ℕ) → list_any (names_asked request) some ≡ true → list_any (opens request) some ≡ list_any (opens request) records
spent_alike now horizon records some are are_kept request there =
    let m = are_marked request_rules now horizon records some are_kept in
    let alike = spent_kept request [] m.marks (subst AreRecords (sym m.are_all) are) refl m.closed
    (subst (λ l. list_any (names_asked request) l ≡ true) (sym m.are_kept) there) in
    sym (ap (list_any (opens request)) m.are_kept) ∙ alike ∙ ap (list_any (opens request)) m.are_all

-- what is found among the kept is found among all
pub found_among_all : (test : SpRecord → Bool) (now horizon : ℕ) (records some : List SpRecord) → AreKept now horizon records some
    → list_any test some ≡ true → list_any test records ≡ true
found_among_all test now horizon records some are_kept there =
    let m = are_marked request_rules now horizon records some are_kept in
    elim (cases_Bool (list_any test records)) [
      | inl found ↦ found
      | inr none ↦
          let gone = none_kept test m.marks (ap (list_any test) m.are_all ∙ none) in
          absurd (false≢true (sym gone ∙ ap (list_any test) m.are_kept ∙ there))
    ]
