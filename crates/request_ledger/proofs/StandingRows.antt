-- Rows that a record closes or confirms, and what a record draws.
use Rattle.std.proofs.Common.{◌≡◌, ℕ, zero, suc, ◌+◌, ◌<◌, ◌≤◌, ◌^◌, Bool, true, false, not, ◌&&◌, ◌||◌, nat_le, nat_lt, List, [], ◌∷◌, ◌++◌, map, length, Option, None, Some, sym, refl, ap, ◌∙◌, arith}
use Rattle.std.specs.List.{list_all, slice_get}
use Rattle.std.specs.Option.{IfSome, IfNone, is_some}
use Rattle.std.specs.Str.{bytes_eq}
use Rattle.std.proofs.lemmas.Bool.{and_parts, or_parts, false_from_ne_true, leb-true, ltb-true}
use Rattle.std.proofs.lemmas.Slice.Eq.{bytes_eq-Decides}
use Rattle.ledger_records.specs.declared.sp_record.Asked.{Asked}
use Rattle.ledger_records.specs.declared.sp_record.Opened.{Opened}
use Rattle.ledger_records.specs.declared.sp_record.Left.{Left}
use Rattle.ledger_records.specs.declared.sp_record.Ended.{Ended}
use Rattle.ledger_records.specs.declared.sp_record.SpRecord.{SpRecord}
use Rattle.ledger_records.specs.declared.sp_record.SpRecord.TheVariants as kinds
use Rattle.ledger_rules.specs.Numbers.{Drawn, has_number, are_fresh, is_xml_text}
use Rattle.request_rows.specs.declared.row.OpenedRow.{OpenedRow}
use Rattle.request_rows.specs.declared.row.LeftRow.{LeftRow}
use Rattle.request_rows.specs.Rows.{closed_at, confirmed_at}
use Rattle.request_ledger.specs.RowsOf.{SpRows, is_among, closed_where, confirmed_where}
use Rattle.request_ledger.specs.Record.{is_open, is_waiting, is_free, drawn, texts, moment_of, LAST, is_next}
use Rattle.request_ledger.specs.Standing.{IsOpenAt, IsWaitingAt}
use Rattle.request_ledger.proofs.RowLaws.{list_any-push}
use Rattle.ledger_rules.proofs.Passing.{any_is_at, any_is_nowhere}

eq_back : (a b : List ℕ) → bytes_eq a b ≡ true → bytes_eq b a ≡ true
eq_back a b e = (bytes_eq-Decides b a).1 (sym ((bytes_eq-Decides a b).0 e))

-- a flag that is set again where it was set, and one that is not set again
set_again : (was now there : Bool) → (now ≡ true → there ≡ true) → (there && not was) ≡ false → (was || now) ≡ was
set_again true now there if_now off = refl
set_again false false there if_now off = refl
set_again false true true if_now off = off
set_again false true false if_now off = sym (if_now refl)

or_true : (a : Bool) → (a || true) ≡ true
or_true true = refl
or_true false = refl

or_assoc : (a b c : Bool) → ((a || b) || c) ≡ (a || (b || c))
or_assoc true b c = refl
or_assoc false b c = refl

-- where no session of a token is open, none is closed
pub closes_nothing : (rows : List OpenedRow) (token : List ℕ) → is_open rows token ≡ false → closed_where (λ row. bytes_eq token row.token) rows ≡ rows
closes_nothing [] token none = refl
closes_nothing (x ∷ xs) token none =
    let parts = or_parts (bytes_eq x.token token && not x.closed) (is_open xs token) none in
    let head = set_again x.closed (bytes_eq token x.token) (bytes_eq x.token token) (eq_back token x.token) parts.0 in
    let rest = closes_nothing xs token parts.1 in
    λ i. record x { closed = head i } ∷ rest i

no_token : (x : OpenedRow) (token : List ℕ) → (x.token ≡ token → ⊥) → (bytes_eq x.token token && not x.closed) ≡ true → ⊥
no_token x token differs passes = differs ((bytes_eq-Decides x.token token).0 (and_parts (bytes_eq x.token token) (not x.closed) passes).0)

-- the session of a token at its place
closes_at : (rows : List OpenedRow) (token : List ℕ) (place : ℕ) (row : OpenedRow) → slice_get rows place ≡ Some row → row.token ≡ token
    → ((k : ℕ) (other : OpenedRow) → slice_get rows k ≡ Some other → other.token ≡ token → k ≡ place)
    → closed_at rows place ≡ closed_where (λ row. bytes_eq token row.token) rows
closes_at [] token place row there same only = refl
closes_at (x ∷ xs) token zero row there same only =
    let is : x ≡ row = cc in
    let now = (bytes_eq-Decides token x.token).1 (sym (ap (λ (r : OpenedRow). r.token) is ∙ same)) in
    let head : true ≡ (x.closed || bytes_eq token x.token) = sym (ap (λ b. x.closed || b) now ∙ or_true x.closed) in
    let rest = closes_nothing xs token (any_is_nowhere (λ r. bytes_eq r.token token && not r.closed) xs (λ k other at.
    no_token other token (λ e. absurd (omega (arith, only (suc k) other at e))))) in
    λ i. record x { closed = head i } ∷ sym rest i
closes_at (x ∷ xs) token (suc n) row there same only =
    let off = false_from_ne_true (bytes_eq token x.token) (λ e. absurd (omega (arith, only zero x refl (sym ((bytes_eq-Decides token x.token).0 e))))) in
    let head = set_again x.closed (bytes_eq token x.token) false (λ e. sym off ∙ e) refl in
    let rest = closes_at xs token n row there same (λ k other at e. let k_is = only (suc k) other at e in omega (arith, k_is)) in
    λ i. record x { closed = sym head i } ∷ rest i

pub closes_open : (rows : List OpenedRow) (token : List ℕ) (place : ℕ) → IsOpenAt rows token place
    → closed_at rows place ≡ closed_where (λ row. bytes_eq token row.token) rows
closes_open rows token place is = closes_at rows token place is.row is.there is.token_is is.only

pub open_is_open : (rows : List OpenedRow) (token : List ℕ) (place : ℕ) → IsOpenAt rows token place → is_open rows token ≡ true
open_is_open rows token place is =
    any_is_at (λ row. bytes_eq row.token token && not row.closed) rows place is.row is.there
    (λ k other at passes. is.only k other at ((bytes_eq-Decides other.token token).0 (and_parts (bytes_eq other.token token) (not other.closed) passes).0))
    ∙ ap (λ b. b && not is.row.closed) ((bytes_eq-Decides is.row.token token).1 is.token_is) ∙ ap not is.unclosed

-- sessions that are closed one after the other
pub closes_more : (rows : List OpenedRow) (tokens : List (List ℕ)) (token : List ℕ)
    → closed_where (λ row. bytes_eq token row.token) (closed_where (λ row. is_among row.token tokens) rows)
    ≡ closed_where (λ row. is_among row.token (tokens ++ token ∷ [])) rows
closes_more [] tokens token = refl
closes_more (x ∷ xs) tokens token =
    let head = or_assoc x.closed (is_among x.token tokens) (bytes_eq token x.token)
    ∙ ap (λ b. x.closed || b) (sym (list_any-push (λ other. bytes_eq other x.token) tokens token)) in
    let rest = closes_more xs tokens token in
    λ i. record x { closed = head i } ∷ rest i

-- a session that is closed keeps its token
pub closed_tokens : (rows : List OpenedRow) (place : ℕ) → map (λ row. row.token) (closed_at rows place) ≡ map (λ row. row.token) rows
closed_tokens [] place = refl
closed_tokens (x ∷ xs) zero = refl
closed_tokens (x ∷ xs) (suc n) = ap (λ rest. x.token ∷ rest) (closed_tokens xs n)

pub length-closed_at : (rows : List OpenedRow) (place : ℕ) → length (closed_at rows place) ≡ length rows
length-closed_at [] place = refl
length-closed_at (x ∷ xs) zero = refl
length-closed_at (x ∷ xs) (suc n) = ap suc (length-closed_at xs n)

-- where no logout of a request waits, none is confirmed
pub confirms_nothing : (rows : List LeftRow) (request : List ℕ) → is_waiting rows request ≡ false → confirmed_where (λ row. bytes_eq request row.request) rows ≡ rows
confirms_nothing [] request none = refl
confirms_nothing (x ∷ xs) request none =
    let parts = or_parts (bytes_eq x.request request && not x.confirmed) (is_waiting xs request) none in
    let head = set_again x.confirmed (bytes_eq request x.request) (bytes_eq x.request request) (eq_back request x.request) parts.0 in
    let rest = confirms_nothing xs request parts.1 in
    λ i. record x { confirmed = head i } ∷ rest i

no_request : (x : LeftRow) (request : List ℕ) → (x.request ≡ request → ⊥) → (bytes_eq x.request request && not x.confirmed) ≡ true → ⊥
no_request x request differs passes = differs ((bytes_eq-Decides x.request request).0 (and_parts (bytes_eq x.request request) (not x.confirmed) passes).0)

-- the logout of a request at its place
confirms_at : (rows : List LeftRow) (request : List ℕ) (place : ℕ) (row : LeftRow) → slice_get rows place ≡ Some row → row.request ≡ request
    → ((k : ℕ) (other : LeftRow) → slice_get rows k ≡ Some other → other.request ≡ request → k ≡ place)
    → confirmed_at rows place ≡ confirmed_where (λ row. bytes_eq request row.request) rows
confirms_at [] request place row there same only = refl
confirms_at (x ∷ xs) request zero row there same only =
    let is : x ≡ row = cc in
    let now = (bytes_eq-Decides request x.request).1 (sym (ap (λ (r : LeftRow). r.request) is ∙ same)) in
    let head : true ≡ (x.confirmed || bytes_eq request x.request) = sym (ap (λ b. x.confirmed || b) now ∙ or_true x.confirmed) in
    let rest = confirms_nothing xs request (any_is_nowhere (λ r. bytes_eq r.request request && not r.confirmed) xs (λ k other at.
    no_request other request (λ e. absurd (omega (arith, only (suc k) other at e))))) in
    λ i. record x { confirmed = head i } ∷ sym rest i
confirms_at (x ∷ xs) request (suc n) row there same only =
    let off = false_from_ne_true (bytes_eq request x.request) (λ e. absurd (omega (arith, only zero x refl (sym ((bytes_eq-Decides request x.request).0 e))))) in
    let head = set_again x.confirmed (bytes_eq request x.request) false (λ e. sym off ∙ e) refl in
    let rest = confirms_at xs request n row there same (λ k other at e. let k_is = only (suc k) other at e in omega (arith, k_is)) in
    λ i. record x { confirmed = sym head i } ∷ rest i

pub confirms_waiting : (rows : List LeftRow) (request : List ℕ) (place : ℕ) → IsWaitingAt rows request place
    → confirmed_at rows place ≡ confirmed_where (λ row. bytes_eq request row.request) rows
confirms_waiting rows request place is = confirms_at rows request place is.row is.there is.request_is is.only

pub waiting_is_waiting : (rows : List LeftRow) (request : List ℕ) (place : ℕ) → IsWaitingAt rows request place → is_waiting rows request ≡ true
waiting_is_waiting rows request place is =
    any_is_at (λ row. bytes_eq row.request request && not row.confirmed) rows place is.row is.there
    (λ k other at passes. is.only k other at ((bytes_eq-Decides other.request request).0 (and_parts (bytes_eq other.request request) (not other.confirmed) passes).0))
    ∙ ap (λ b. b && not is.row.confirmed) ((bytes_eq-Decides is.row.request request).1 is.request_is) ∙ ap not is.waits

-- a logout that is confirmed keeps its request
pub confirmed_requests : (rows : List LeftRow) (place : ℕ) → map (λ row. row.request) (confirmed_at rows place) ≡ map (λ row. row.request) rows
confirmed_requests [] place = refl
confirmed_requests (x ∷ xs) zero = refl
confirmed_requests (x ∷ xs) (suc n) = ap (λ rest. x.request ∷ rest) (confirmed_requests xs n)

pub length-confirmed_at : (rows : List LeftRow) (place : ℕ) → length (confirmed_at rows place) ≡ length rows
length-confirmed_at [] place = refl
length-confirmed_at (x ∷ xs) zero = refl
length-confirmed_at (x ∷ xs) (suc n) = ap suc (length-confirmed_at xs n)

-- a record behind others draws fresh numbers
pub fresh_of_next : (rows : SpRows) (next : ℕ) (r : SpRecord) → is_next rows next r ≡ true → are_fresh next (drawn r) ≡ true
fresh_of_next rows next r is =
    let dated = and_parts (is_free rows r && are_fresh next (drawn r) && list_all is_xml_text (texts r)) (nat_le (moment_of r) LAST) is in
    let spelled = and_parts (is_free rows r && are_fresh next (drawn r)) (list_all is_xml_text (texts r)) dated.0 in
    (and_parts (is_free rows r) (are_fresh next (drawn r)) spelled.0).1

-- and each row that it names is there, and free for it
pub free_of_next : (rows : SpRows) (next : ℕ) (r : SpRecord) → is_next rows next r ≡ true → is_free rows r ≡ true
free_of_next rows next r is =
    let dated = and_parts (is_free rows r && are_fresh next (drawn r) && list_all is_xml_text (texts r)) (nat_le (moment_of r) LAST) is in
    let spelled = and_parts (is_free rows r && are_fresh next (drawn r)) (list_all is_xml_text (texts r)) dated.0 in
    (and_parts (is_free rows r) (are_fresh next (drawn r)) spelled.0).0

-- a number that is drawn
pub record IsFresh (least number : ℕ) (id : List ℕ) : Type 0 where
  pub least_is : least ≤ number
  pub below : number < 2 ^ 63
  pub has : has_number number id ≡ true

pub first_fresh : (least : ℕ) (d : Drawn) (more : List Drawn) → are_fresh least (d ∷ more) ≡ true → IsFresh least d.number d.id
first_fresh least d more fresh =
    let front = and_parts (nat_le least d.number && nat_lt d.number (2 ^ 63) && has_number d.number d.id) (are_fresh least more) fresh in
    let id = and_parts (nat_le least d.number && nat_lt d.number (2 ^ 63)) (has_number d.number d.id) front.0 in
    let bounds = and_parts (nat_le least d.number) (nat_lt d.number (2 ^ 63)) id.0 in
    record {
      least_is = leb-true least d.number bounds.0;
      below = ltb-true d.number (2 ^ 63) bounds.1;
      has = id.1;
    }

pub later_fresh : (least : ℕ) (d : Drawn) (more : List Drawn) → are_fresh least (d ∷ more) ≡ true → are_fresh least more ≡ true
later_fresh least d more fresh =
    (and_parts (nat_le least d.number && nat_lt d.number (2 ^ 63) && has_number d.number d.id) (are_fresh least more) fresh).1

-- whether a place was found
pub found_open : (rows : List OpenedRow) (token : List ℕ) (found : Option ℕ) → IfSome found (IsOpenAt rows token) → IfNone found (is_open rows token ≡ false)
    → is_some found ≡ is_open rows token
found_open rows token None some none = sym none
found_open rows token (Some place) some none = sym (open_is_open rows token place some)

pub found_waiting : (rows : List LeftRow) (request : List ℕ) (found : Option ℕ) → IfSome found (IsWaitingAt rows request) → IfNone found (is_waiting rows request ≡ false)
    → is_some found ≡ is_waiting rows request
found_waiting rows request None some none = sym none
found_waiting rows request (Some place) some none = sym (waiting_is_waiting rows request place some)

-- what each kind of record draws
pub fresh_request : (rows : SpRows) (next : ℕ) (r : Asked) → is_next rows next (kinds.Asked r) ≡ true → IsFresh next r.first r.request
fresh_request rows next r is =
    first_fresh next (record { number = r.first; id = r.request }) (record { number = r.first + 1; id = r.relay } ∷ []) (fresh_of_next rows next (kinds.Asked r) is)

pub fresh_relay : (rows : SpRows) (next : ℕ) (r : Asked) → is_next rows next (kinds.Asked r) ≡ true → IsFresh next (r.first + 1) r.relay
fresh_relay rows next r is =
    first_fresh next (record { number = r.first + 1; id = r.relay }) []
    (later_fresh next (record { number = r.first; id = r.request }) (record { number = r.first + 1; id = r.relay } ∷ []) (fresh_of_next rows next (kinds.Asked r) is))

pub fresh_token : (rows : SpRows) (next : ℕ) (r : Opened) → is_next rows next (kinds.Opened r) ≡ true → IsFresh next r.first r.token
fresh_token rows next r is = first_fresh next (record { number = r.first; id = r.token }) [] (fresh_of_next rows next (kinds.Opened r) is)

pub fresh_logout : (rows : SpRows) (next : ℕ) (r : Left) → is_next rows next (kinds.Left r) ≡ true → IsFresh next r.first r.request
fresh_logout rows next r is = first_fresh next (record { number = r.first; id = r.request }) [] (fresh_of_next rows next (kinds.Left r) is)

pub fresh_answer : (rows : SpRows) (next : ℕ) (r : Ended) → is_next rows next (kinds.Ended r) ≡ true → IsFresh next r.first r.message
fresh_answer rows next r is = first_fresh next (record { number = r.first; id = r.message }) [] (fresh_of_next rows next (kinds.Ended r) is)
