-- The rounds of what is kept: each is kept with all its answers, or none of these is.
use Rattle.std.proofs.Common.{◌≡◌, ℕ, inl, inr, Bool, true, false, cond, not, List, [], ◌∷◌, Option, None, Some, filter, bytes_eq, refl, sym, ap, ◌∙◌, subst}
use Rattle.std.specs.List.{list_any, list_all}
use Rattle.std.proofs.lemmas.Bool.{false≢true, and_parts, or_cases, or_left, or_right, false_from_ne_true}
use Rattle.ledger_records.specs.declared.idp_round.Round.{Round}
use Rattle.ledger_records.specs.declared.idp_round.Told.{Told}
use Rattle.ledger_records.specs.declared.idp_record.IdpRecord.{IdpRecord}
use Rattle.ledger_records.specs.declared.idp_record.IdpRecord.TheVariants as kinds
use Rattle.round_rows.specs.declared.row.RoundRow.{RoundRow}
use Rattle.round_rows.specs.Rounds.{is_done, waits_for, after_answer, answered_if}
use Rattle.record_ledger.specs.Marks.{all, kept, KeepsAll}
use Rattle.record_ledger.proofs.Words.{same_text, text_itself}
use Rattle.record_ledger.proofs.Draftable.{both}
use Rattle.idp_rows.specs.Finding.{visible}
use Rattle.idp_rows.specs.RoundsOf.{round_row, round_behind, round_rows}
use Rattle.idp_ledger.specs.Naming.{has_request, has_visible, names}
use Rattle.idp_rows.specs.Record.{fits_where_waiting, is_answer_free}
use Rattle.idp_ledger.proofs.KeptMarks.{Marked, NamersOf, AreClosed}
use Rattle.owned_values.specs.Options.{is_there}
use Rattle.std.specs.Option.{unwrap_or}

-- a record that made the request for which a round waits is named by the Told that answers it
asks_so : (h : IdpRecord) (row : RoundRow) (t : Told) → has_request row.request h ≡ true → waits_for t.request row ≡ true → names (kinds.Told t) h ≡ true
asks_so h row t has waits =
    let same = same_text row.request t.request (and_parts (bytes_eq row.request t.request) (not (is_done row)) waits).0 in
    subst (λ q. has_request q h ≡ true) same has

-- what holds of the record that made the request for which a round waits
record Holder (P : IdpRecord → Type 0) (row : RoundRow) : Type 0 where
  maker : IdpRecord
  has : has_request row.request maker ≡ true
  its : P maker

next_holder : (P : IdpRecord → Type 0) (row : RoundRow) (t : Told) (next : Option (List ℕ)) → t.next ≡ next → Holder P row → P (kinds.Told t) → Holder P (after_answer t.confirmed t.next row)
next_holder P row t None none h its = record { maker = h.maker; has = ap (λ n. has_request (unwrap_or n row.request) h.maker) none ∙ h.has; its = h.its }
next_holder P row t (Some id) some h its =
    record { maker = kinds.Told t; has = ap (λ n. is_there (unwrap_or n row.request) n) some ∙ text_itself id; its = its }

-- ---- a round that is kept

-- the makers of requests are kept, and so all that name them
Kept : List Marked → IdpRecord → Type 0
Kept marks h = NamersOf (true, h) marks

kept_told : (row : RoundRow) (t : Told) (marks : List Marked) (b : Bool) → waits_for t.request row ≡ b → Holder (Kept marks) row → NamersOf (true, kinds.Told t) marks
    → ((row : RoundRow) → Holder (Kept marks) row → round_behind row (kept marks) ≡ round_behind row (all marks))
    → round_behind (answered_if b t.confirmed t.next row) (kept marks) ≡ round_behind (answered_if b t.confirmed t.next row) (all marks)
unfolding Kept
kept_told row t marks true takes h its rest = rest (after_answer t.confirmed t.next row) (next_holder (Kept marks) row t t.next refl h its)
kept_told row t marks false takes h its rest = rest row h

left_told : (row : RoundRow) (t : Told) (marks : List Marked) (b : Bool) → waits_for t.request row ≡ b → Holder (Kept ((false, kinds.Told t) ∷ marks)) row
    → round_behind row (kept marks) ≡ round_behind row (all marks)
    → round_behind row (kept marks) ≡ round_behind (answered_if b t.confirmed t.next row) (all marks)
unfolding Kept
left_told row t marks true takes h rest = absurd (false≢true (h.its.0 (asks_so h.maker row t h.has takes)))
left_told row t marks false takes h rest = rest

kept_later : (row : RoundRow) (m : Marked) (marks : List Marked) → Holder (Kept (m ∷ marks)) row → Holder (Kept marks) row
unfolding Kept
kept_later row m marks h = record { maker = h.maker; has = h.has; its = h.its.1 }

behind_alike : (row : RoundRow) (marks : List Marked) → Holder (Kept marks) row → AreClosed marks → round_behind row (kept marks) ≡ round_behind row (all marks)
behind_alike row [] h closed = refl
behind_alike row ((true, kinds.Pending r) ∷ marks) h closed = behind_alike row marks (kept_later row (true, kinds.Pending r) marks h) closed.1
behind_alike row ((true, kinds.Issued r) ∷ marks) h closed = behind_alike row marks (kept_later row (true, kinds.Issued r) marks h) closed.1
behind_alike row ((true, kinds.Ended r) ∷ marks) h closed = behind_alike row marks (kept_later row (true, kinds.Ended r) marks h) closed.1
behind_alike row ((true, kinds.Left r) ∷ marks) h closed = behind_alike row marks (kept_later row (true, kinds.Left r) marks h) closed.1
behind_alike row ((true, kinds.Confirmed r) ∷ marks) h closed = behind_alike row marks (kept_later row (true, kinds.Confirmed r) marks h) closed.1
behind_alike row ((true, kinds.Spoke r) ∷ marks) h closed = behind_alike row marks (kept_later row (true, kinds.Spoke r) marks h) closed.1
behind_alike row ((true, kinds.Round r) ∷ marks) h closed = behind_alike row marks (kept_later row (true, kinds.Round r) marks h) closed.1
behind_alike row ((true, kinds.Told t) ∷ marks) h closed =
    kept_told row t marks (waits_for t.request row) refl (kept_later row (true, kinds.Told t) marks h) closed.0 (λ row h. behind_alike row marks h closed.1)
behind_alike row ((false, kinds.Pending r) ∷ marks) h closed = behind_alike row marks (kept_later row (false, kinds.Pending r) marks h) closed.1
behind_alike row ((false, kinds.Issued r) ∷ marks) h closed = behind_alike row marks (kept_later row (false, kinds.Issued r) marks h) closed.1
behind_alike row ((false, kinds.Ended r) ∷ marks) h closed = behind_alike row marks (kept_later row (false, kinds.Ended r) marks h) closed.1
behind_alike row ((false, kinds.Left r) ∷ marks) h closed = behind_alike row marks (kept_later row (false, kinds.Left r) marks h) closed.1
behind_alike row ((false, kinds.Confirmed r) ∷ marks) h closed = behind_alike row marks (kept_later row (false, kinds.Confirmed r) marks h) closed.1
behind_alike row ((false, kinds.Spoke r) ∷ marks) h closed = behind_alike row marks (kept_later row (false, kinds.Spoke r) marks h) closed.1
behind_alike row ((false, kinds.Round r) ∷ marks) h closed = behind_alike row marks (kept_later row (false, kinds.Round r) marks h) closed.1
behind_alike row ((false, kinds.Told t) ∷ marks) h closed =
    left_told row t marks (waits_for t.request row) refl h (behind_alike row marks (kept_later row (false, kinds.Told t) marks h) closed.1)

unfolding_kept : (marks : List Marked) (h : IdpRecord) → NamersOf (true, h) marks → Kept marks h
unfolding Kept
unfolding_kept marks h namers = namers

round_alike : (r : Round) (marks : List Marked) → NamersOf (true, kinds.Round r) marks → AreClosed marks → round_behind (round_row r) (kept marks) ≡ round_behind (round_row r) (all marks)
round_alike r marks namers closed =
    behind_alike (round_row r) marks (record { maker = kinds.Round r; has = text_itself r.request; its = unfolding_kept marks (kinds.Round r) namers }) closed

-- ---- a round that is left out

-- the makers of requests are left out, and so all that name them, and none of them makes this request
Left : List ℕ → List Marked → IdpRecord → Type 0
Left q marks h = NamersOf (false, h) marks × (has_request q h ≡ true → ⊥)

left_later : (q : List ℕ) (row : RoundRow) (m : Marked) (marks : List Marked) → Holder (Left q (m ∷ marks)) row → Holder (Left q marks) row
unfolding Left
left_later q row m marks h = record { maker = h.maker; has = h.has; its = (h.its.0.1, h.its.1) }

lost_told : (q : List ℕ) (row : RoundRow) (t : Told) (marks : List Marked) (kept : Bool) (b : Bool) → waits_for t.request row ≡ b → Holder (Left q ((kept, kinds.Told t) ∷ marks)) row
    → NamersOf (kept, kinds.Told t) marks → (has_request q (kinds.Told t) ≡ true → kept ≡ true)
    → ((row : RoundRow) → Holder (Left q marks) row → waits_for q (round_behind row (all marks)) ≡ true → ⊥)
    → waits_for q (round_behind (answered_if b t.confirmed t.next row) (all marks)) ≡ true → ⊥
unfolding Left
lost_told q row t marks kept true takes h namers keeps rest waits =
    let out : kept ≡ false = h.its.0.0 (asks_so h.maker row t h.has takes) in
    rest (after_answer t.confirmed t.next row)
    (next_holder (Left q marks) row t t.next refl (left_later q row (kept, kinds.Told t) marks h)
    (subst (λ k. NamersOf (k, kinds.Told t) marks) out namers, λ has. false≢true (sym out ∙ keeps has))) waits
lost_told q row t marks kept false takes h namers keeps rest waits = rest row (left_later q row (kept, kinds.Told t) marks h) waits

lost : (q : List ℕ) (row : RoundRow) (marks : List Marked) → Holder (Left q marks) row → AreClosed marks → KeepsAll (has_request q) marks
    → waits_for q (round_behind row (all marks)) ≡ true → ⊥
unfolding Left
lost q row [] h closed keeps waits =
    let same = same_text row.request q (and_parts (bytes_eq row.request q) (not (is_done row)) waits).0 in
    h.its.1 (subst (λ x. has_request x h.maker ≡ true) same h.has)
lost q row ((kept, kinds.Pending r) ∷ marks) h closed keeps waits = lost q row marks (left_later q row (kept, kinds.Pending r) marks h) closed.1 keeps.1 waits
lost q row ((kept, kinds.Issued r) ∷ marks) h closed keeps waits = lost q row marks (left_later q row (kept, kinds.Issued r) marks h) closed.1 keeps.1 waits
lost q row ((kept, kinds.Ended r) ∷ marks) h closed keeps waits = lost q row marks (left_later q row (kept, kinds.Ended r) marks h) closed.1 keeps.1 waits
lost q row ((kept, kinds.Left r) ∷ marks) h closed keeps waits = lost q row marks (left_later q row (kept, kinds.Left r) marks h) closed.1 keeps.1 waits
lost q row ((kept, kinds.Confirmed r) ∷ marks) h closed keeps waits = lost q row marks (left_later q row (kept, kinds.Confirmed r) marks h) closed.1 keeps.1 waits
lost q row ((kept, kinds.Spoke r) ∷ marks) h closed keeps waits = lost q row marks (left_later q row (kept, kinds.Spoke r) marks h) closed.1 keeps.1 waits
lost q row ((kept, kinds.Round r) ∷ marks) h closed keeps waits = lost q row marks (left_later q row (kept, kinds.Round r) marks h) closed.1 keeps.1 waits
lost q row ((kept, kinds.Told t) ∷ marks) h closed keeps waits =
    lost_told q row t marks kept (waits_for t.request row) refl h closed.0 keeps.0 (λ row h. lost q row marks h closed.1 keeps.1) waits

round_lost : (q : List ℕ) (r : Round) (marks : List Marked) → NamersOf (false, kinds.Round r) marks → AreClosed marks → (has_request q (kinds.Round r) ≡ true → false ≡ true)
    → KeepsAll (has_request q) marks → waits_for q (round_behind (round_row r) (all marks)) ≡ true → ⊥
unfolding Left
round_lost q r marks namers closed keep keeps =
    lost q (round_row r) marks (record { maker = kinds.Round r; has = text_itself r.request; its = (namers, λ has. false≢true (keep has)) }) closed keeps

-- ---- all rounds

all_kept : (test : RoundRow → Bool) (marks : List Marked) → AreClosed marks → list_all test (round_rows (all marks)) ≡ true → list_all test (round_rows (kept marks)) ≡ true
all_kept test [] closed are = refl
all_kept test ((true, kinds.Round r) ∷ marks) closed are =
    let parts = and_parts (test (round_behind (round_row r) (all marks))) (list_all test (round_rows (all marks))) are in
    both (test (round_behind (round_row r) (kept marks))) (list_all test (round_rows (kept marks)))
    (ap test (round_alike r marks closed.0 closed.1) ∙ parts.0) (all_kept test marks closed.1 parts.1)
all_kept test ((false, kinds.Round r) ∷ marks) closed are =
    all_kept test marks closed.1 (and_parts (test (round_behind (round_row r) (all marks))) (list_all test (round_rows (all marks))) are).1
all_kept test ((true, kinds.Pending r) ∷ marks) closed are = all_kept test marks closed.1 are
all_kept test ((true, kinds.Issued r) ∷ marks) closed are = all_kept test marks closed.1 are
all_kept test ((true, kinds.Ended r) ∷ marks) closed are = all_kept test marks closed.1 are
all_kept test ((true, kinds.Left r) ∷ marks) closed are = all_kept test marks closed.1 are
all_kept test ((true, kinds.Confirmed r) ∷ marks) closed are = all_kept test marks closed.1 are
all_kept test ((true, kinds.Spoke r) ∷ marks) closed are = all_kept test marks closed.1 are
all_kept test ((true, kinds.Told r) ∷ marks) closed are = all_kept test marks closed.1 are
all_kept test ((false, kinds.Pending r) ∷ marks) closed are = all_kept test marks closed.1 are
all_kept test ((false, kinds.Issued r) ∷ marks) closed are = all_kept test marks closed.1 are
all_kept test ((false, kinds.Ended r) ∷ marks) closed are = all_kept test marks closed.1 are
all_kept test ((false, kinds.Left r) ∷ marks) closed are = all_kept test marks closed.1 are
all_kept test ((false, kinds.Confirmed r) ∷ marks) closed are = all_kept test marks closed.1 are
all_kept test ((false, kinds.Spoke r) ∷ marks) closed are = all_kept test marks closed.1 are
all_kept test ((false, kinds.Told r) ∷ marks) closed are = all_kept test marks closed.1 are

waits_kept : (q : List ℕ) (marks : List Marked) → AreClosed marks → KeepsAll (has_request q) marks → list_any (waits_for q) (round_rows (all marks)) ≡ true
    → list_any (waits_for q) (round_rows (kept marks)) ≡ true
waits_kept q [] closed keeps waits = waits
waits_kept q ((true, kinds.Round r) ∷ marks) closed keeps waits =
    let here_now = waits_for q (round_behind (round_row r) (kept marks)) in
    let later_now = list_any (waits_for q) (round_rows (kept marks)) in
    elim (or_cases (waits_for q (round_behind (round_row r) (all marks))) (list_any (waits_for q) (round_rows (all marks))) waits) [
      | inl here ↦ or_left here_now later_now (ap (waits_for q) (round_alike r marks closed.0 closed.1) ∙ here)
      | inr there ↦ or_right here_now later_now (waits_kept q marks closed.1 keeps.1 there)
    ]
waits_kept q ((false, kinds.Round r) ∷ marks) closed keeps waits =
    elim (or_cases (waits_for q (round_behind (round_row r) (all marks))) (list_any (waits_for q) (round_rows (all marks))) waits) [
      | inl here ↦ absurd (round_lost q r marks closed.0 closed.1 keeps.0 keeps.1 here)
      | inr there ↦ waits_kept q marks closed.1 keeps.1 there
    ]
waits_kept q ((true, kinds.Pending r) ∷ marks) closed keeps waits = waits_kept q marks closed.1 keeps.1 waits
waits_kept q ((true, kinds.Issued r) ∷ marks) closed keeps waits = waits_kept q marks closed.1 keeps.1 waits
waits_kept q ((true, kinds.Ended r) ∷ marks) closed keeps waits = waits_kept q marks closed.1 keeps.1 waits
waits_kept q ((true, kinds.Left r) ∷ marks) closed keeps waits = waits_kept q marks closed.1 keeps.1 waits
waits_kept q ((true, kinds.Confirmed r) ∷ marks) closed keeps waits = waits_kept q marks closed.1 keeps.1 waits
waits_kept q ((true, kinds.Spoke r) ∷ marks) closed keeps waits = waits_kept q marks closed.1 keeps.1 waits
waits_kept q ((true, kinds.Told r) ∷ marks) closed keeps waits = waits_kept q marks closed.1 keeps.1 waits
waits_kept q ((false, kinds.Pending r) ∷ marks) closed keeps waits = waits_kept q marks closed.1 keeps.1 waits
waits_kept q ((false, kinds.Issued r) ∷ marks) closed keeps waits = waits_kept q marks closed.1 keeps.1 waits
waits_kept q ((false, kinds.Ended r) ∷ marks) closed keeps waits = waits_kept q marks closed.1 keeps.1 waits
waits_kept q ((false, kinds.Left r) ∷ marks) closed keeps waits = waits_kept q marks closed.1 keeps.1 waits
waits_kept q ((false, kinds.Confirmed r) ∷ marks) closed keeps waits = waits_kept q marks closed.1 keeps.1 waits
waits_kept q ((false, kinds.Spoke r) ∷ marks) closed keeps waits = waits_kept q marks closed.1 keeps.1 waits
waits_kept q ((false, kinds.Told r) ∷ marks) closed keeps waits = waits_kept q marks closed.1 keeps.1 waits

pub answer_kept : (marks : List Marked) (t : Told) → AreClosed marks → KeepsAll (has_request t.request) marks
    → is_answer_free (round_rows (all marks)) t ≡ true → is_answer_free (round_rows (kept marks)) t ≡ true
answer_kept marks t closed keeps free =
    let parts = and_parts (list_any (waits_for t.request) (round_rows (all marks))) (list_all (fits_where_waiting t) (round_rows (all marks))) free in
    both (list_any (waits_for t.request) (round_rows (kept marks))) (list_all (fits_where_waiting t) (round_rows (kept marks)))
    (waits_kept t.request marks closed keeps parts.0) (all_kept (fits_where_waiting t) marks closed parts.1)

-- ---- the rounds that are visible

same_until : (b : Bool) (t : Told) (row : RoundRow) → (answered_if b t.confirmed t.next row).until ≡ row.until
same_until true t row = refl
same_until false t row = refl

until_stays : (row : RoundRow) (later : List IdpRecord) → (round_behind row later).until ≡ row.until
until_stays row [] = refl
until_stays row (kinds.Told t ∷ later) =
    until_stays (answered_if (waits_for t.request row) t.confirmed t.next row) later ∙ same_until (waits_for t.request row) t row
until_stays row (other ∷ later) = until_stays row later

module _ (now horizon : ℕ) where
  abbrev pub round_seen : RoundRow → Bool
  round_seen row = visible row.until now horizon

  pub rounds_alike : (marks : List Marked) → KeepsAll (has_visible now horizon) marks → AreClosed marks
      → filter round_seen (round_rows (kept marks)) ≡ filter round_seen (round_rows (all marks))
  rounds_alike [] keeps closed = refl
  rounds_alike ((true, kinds.Round r) ∷ marks) keeps closed =
      let rest = filter round_seen (round_rows (kept marks)) in
      let row = round_behind (round_row r) (all marks) in
      ap (λ x. cond (round_seen x) (x ∷ rest) rest) (round_alike r marks closed.0 closed.1)
      ∙ ap (λ rows. cond (round_seen row) (row ∷ rows) rows) (rounds_alike marks keeps.1 closed.1)
  rounds_alike ((false, kinds.Round r) ∷ marks) keeps closed =
      let row = round_behind (round_row r) (all marks) in
      let rows = filter round_seen (round_rows (all marks)) in
      let unseen : round_seen row ≡ false =
      ap (λ until. visible until now horizon) (until_stays (round_row r) (all marks))
      ∙ false_from_ne_true (visible r.until now horizon) (λ here. false≢true (keeps.0 here)) in
      rounds_alike marks keeps.1 closed.1 ∙ sym (ap (λ b. cond b (row ∷ rows) rows) unseen)
  rounds_alike ((true, kinds.Pending r) ∷ marks) keeps closed = rounds_alike marks keeps.1 closed.1
  rounds_alike ((true, kinds.Issued r) ∷ marks) keeps closed = rounds_alike marks keeps.1 closed.1
  rounds_alike ((true, kinds.Ended r) ∷ marks) keeps closed = rounds_alike marks keeps.1 closed.1
  rounds_alike ((true, kinds.Left r) ∷ marks) keeps closed = rounds_alike marks keeps.1 closed.1
  rounds_alike ((true, kinds.Confirmed r) ∷ marks) keeps closed = rounds_alike marks keeps.1 closed.1
  rounds_alike ((true, kinds.Spoke r) ∷ marks) keeps closed = rounds_alike marks keeps.1 closed.1
  rounds_alike ((true, kinds.Told r) ∷ marks) keeps closed = rounds_alike marks keeps.1 closed.1
  rounds_alike ((false, kinds.Pending r) ∷ marks) keeps closed = rounds_alike marks keeps.1 closed.1
  rounds_alike ((false, kinds.Issued r) ∷ marks) keeps closed = rounds_alike marks keeps.1 closed.1
  rounds_alike ((false, kinds.Ended r) ∷ marks) keeps closed = rounds_alike marks keeps.1 closed.1
  rounds_alike ((false, kinds.Left r) ∷ marks) keeps closed = rounds_alike marks keeps.1 closed.1
  rounds_alike ((false, kinds.Confirmed r) ∷ marks) keeps closed = rounds_alike marks keeps.1 closed.1
  rounds_alike ((false, kinds.Spoke r) ∷ marks) keeps closed = rounds_alike marks keeps.1 closed.1
  rounds_alike ((false, kinds.Told r) ∷ marks) keeps closed = rounds_alike marks keeps.1 closed.1
