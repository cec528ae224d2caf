-- The record that another one names, which no other names.
use Rattle.std.proofs.Common.{◌≡◌, ℕ, suc, inl, inr, Bool, true, false, not, List, [], ◌∷◌, slice_get, Some, bytes_eq, refl, sym, ◌∙◌, subst}
use Rattle.std.specs.List.{list_any}
use Rattle.std.proofs.lemmas.Bool.{false≢true, and_parts, or_from, or_cases, not-true}
use Rattle.ledger_records.specs.declared.sp_record.SpRecord.{SpRecord}
use Rattle.ledger_records.specs.declared.sp_record.SpRecord.TheVariants as kinds
use Rattle.request_rows.specs.Rows.{is_spent}
use Rattle.record_ledger.proofs.Words.{other_way, same_text}
use Rattle.request_ledger.specs.RowsOf.{is_among, closes, confirms, asked_rows, opened_rows, left_rows}
use Rattle.request_ledger.specs.Record.{is_asked, is_open, is_waiting, is_record, request_rules}
use Rattle.record_ledger.specs.Linking.{has_id, FreeRow}
use Rattle.request_ledger.specs.Naming.{names, names_asked, names_opened, names_left}
use Rattle.request_ledger.specs.Linking.{named, request_links}
use Rattle.record_ledger.proofs.FreeRows.{free_among, free_at}
use Rattle.request_ledger.proofs.FreeTokens.{first_named, has_token, open_tokens, waiting_requests}
use Rattle.request_ledger.proofs.LawWords.{opens, asked_any, spent_any, parts}
use Rattle.record_ledger.proofs.LinkRows.{alone, other_not, among_one, none_at}

pub some_at : {X : Type 0} (test : X → Bool) (xs : List X) → list_any test xs ≡ true → (k : ℕ) × ((x : X) × (slice_get xs k ≡ Some x) × (test x ≡ true))
some_at test [] some = absurd (false≢true some)
some_at test (x ∷ xs) some =
    elim (or_cases (test x) (list_any test xs) some) [
      | inl here ↦ (0, (x, refl, here))
      | inr there ↦ let rest = some_at test xs there in (suc rest.0, rest.1)
    ]

-- a record that is named has one of the IDs
names_asked_has : (request : List ℕ) (x : SpRecord) → names_asked request x ≡ true → has_id request_rules request_links (request ∷ []) x ≡ true
names_asked_has request (kinds.Asked a) is = alone (bytes_eq request a.request) (other_way a.request request is)
names_asked_has request other is = absurd (false≢true is)

names_opened_has : (tokens : List (List ℕ)) (x : SpRecord) → names_opened tokens x ≡ true → has_id request_rules request_links tokens x ≡ true
names_opened_has tokens (kinds.Opened x) is = is
names_opened_has tokens other is = absurd (false≢true is)

names_left_has : (request : List ℕ) (x : SpRecord) → names_left request x ≡ true → has_id request_rules request_links (request ∷ []) x ≡ true
names_left_has request (kinds.Left l) is = alone (bytes_eq request l.request) (other_way l.request request is)
names_left_has request other is = absurd (false≢true is)

pub names_has : (r x : SpRecord) → names r x ≡ true → has_id request_rules request_links (named r) x ≡ true
names_has (kinds.Asked r) x is = absurd (false≢true is)
names_has (kinds.Opened r) x is = names_asked_has r.request x is
names_has (kinds.Left r) x is = names_opened_has (r.token ∷ []) x is
names_has (kinds.Ended r) x is = names_opened_has r.tokens x is
names_has (kinds.Confirmed r) x is = names_left_has r.request x is

-- a record does not name what it does not close, confirm or answer
unclosed : (token : List ℕ) (x y : SpRecord) → has_token token x ≡ true → closes token y ≡ false → names y x ≡ false
unclosed token (kinds.Opened o) (kinds.Left r) has none =
    or_from (bytes_eq r.token o.token) false (subst (λ t. bytes_eq r.token t ≡ false) (sym (same_text o.token token has)) none) refl
unclosed token (kinds.Opened o) (kinds.Ended r) has none = subst (λ t. is_among t r.tokens ≡ false) (sym (same_text o.token token has)) none
unclosed token (kinds.Opened o) (kinds.Asked r) has none = refl
unclosed token (kinds.Opened o) (kinds.Opened r) has none = refl
unclosed token (kinds.Opened o) (kinds.Confirmed r) has none = refl
unclosed token other y has none = absurd (false≢true has)

unconfirmed : (request : List ℕ) (x y : SpRecord) → names_left request x ≡ true → confirms request y ≡ false → names y x ≡ false
unconfirmed request (kinds.Left o) (kinds.Confirmed r) has none =
    subst (λ t. bytes_eq t r.request ≡ false) (sym (same_text o.request request has)) (other_not r.request request none)
unconfirmed request (kinds.Left o) (kinds.Asked r) has none = refl
unconfirmed request (kinds.Left o) (kinds.Opened r) has none = refl
unconfirmed request (kinds.Left o) (kinds.Left r) has none = refl
unconfirmed request (kinds.Left o) (kinds.Ended r) has none = refl
unconfirmed request other y has none = absurd (false≢true has)

unanswered : (request : List ℕ) (x y : SpRecord) → names_asked request x ≡ true → opens request y ≡ false → names y x ≡ false
unanswered request (kinds.Asked a) (kinds.Asked r) asks none = refl
unanswered request (kinds.Asked a) (kinds.Opened r) asks none =
    let same = same_text a.request request asks in
    subst (λ t. bytes_eq t r.request ≡ false) (sym same) (other_not r.request request none)
unanswered request (kinds.Asked a) (kinds.Left r) asks none = refl
unanswered request (kinds.Asked a) (kinds.Ended r) asks none = refl
unanswered request (kinds.Asked a) (kinds.Confirmed r) asks none = refl
unanswered request (kinds.Opened a) y asks none = absurd (false≢true asks)
unanswered request (kinds.Left a) y asks none = absurd (false≢true asks)
unanswered request (kinds.Ended a) y asks none = absurd (false≢true asks)
unanswered request (kinds.Confirmed a) y asks none = absurd (false≢true asks)

open_free : (before : List SpRecord) (r : SpRecord) (id : List ℕ) → is_open (opened_rows before) id ≡ true
    → ((x : SpRecord) → has_token id x ≡ true → names r x ≡ true) → FreeRow request_rules request_links before r id
open_free before r id is named =
    let o = free_at open_tokens before id is in
    record {
      place = o.place;
      row = o.row;
      there = o.there;
      has = names_opened_has (id ∷ []) o.row (first_named id [] o.row o.has_it);
      named_is = named o.row o.has_it;
      free = λ l y less there. unclosed id o.row y o.has_it (o.free l y less there);
    }

-- a session of a token that is listed is named
listed_named : (tokens : List (List ℕ)) (id : List ℕ) (x : SpRecord) → is_among id tokens ≡ true → has_token id x ≡ true → names_opened tokens x ≡ true
listed_named tokens id (kinds.Opened o) among has = subst (λ t. is_among t tokens ≡ true) (sym (same_text o.token id has)) among
listed_named tokens id other among has = absurd (false≢true has)

pub free_row : (before : List SpRecord) (r : SpRecord) (id : List ℕ) → is_record before r ≡ true → is_among id (named r) ≡ true → FreeRow request_rules request_links before r id
free_row before (kinds.Asked r) id is among = absurd (false≢true among)
free_row before (kinds.Opened r) id is among =
    let same : id ≡ r.request = among_one r.request id among in
    let both = and_parts (is_asked (asked_rows before) r.request) (not (is_spent (opened_rows before) r.request)) (parts before (kinds.Opened r) is).free in
    let none = sym (spent_any before r.request) ∙ not-true (is_spent (opened_rows before) r.request) both.1 in
    let at = some_at (names_asked r.request) before (sym (asked_any before r.request) ∙ both.0) in
    record {
      place = at.0;
      row = at.1.0;
      there = at.1.1;
      has = subst (λ t. has_id request_rules request_links (t ∷ []) at.1.0 ≡ true) (sym same) (names_has (kinds.Opened r) at.1.0 at.1.2);
      named_is = at.1.2;
      free = λ l y less there. unanswered r.request at.1.0 y at.1.2 (none_at (opens r.request) before none l y there);
    }
free_row before (kinds.Left r) id is among =
    let same : id ≡ r.token = among_one r.token id among in
    open_free before (kinds.Left r) id
    (subst (λ t. is_open (opened_rows before) t ≡ true) (sym same) (parts before (kinds.Left r) is).free)
    (λ x. listed_named (r.token ∷ []) id x among)
free_row before (kinds.Ended r) id is among =
    open_free before (kinds.Ended r) id (free_among open_tokens before r.tokens id (parts before (kinds.Ended r) is).free among)
    (λ x. listed_named r.tokens id x among)
free_row before (kinds.Confirmed r) id is among =
    let same : id ≡ r.request = among_one r.request id among in
    let o = free_at waiting_requests before id (subst (λ t. is_waiting (left_rows before) t ≡ true) (sym same) (parts before (kinds.Confirmed r) is).free) in
    record {
      place = o.place;
      row = o.row;
      there = o.there;
      has = names_left_has id o.row o.has_it;
      named_is = subst (λ t. names_left t o.row ≡ true) same o.has_it;
      free = λ l y less there. unconfirmed id o.row y o.has_it (o.free l y less there);
    }
