-- The record that another one names, which no other names.
use Rattle.std.proofs.Common.{◌≡◌, ℕ, Bool, true, false, ◌&&◌, not, List, [], ◌∷◌, slice_get, Option, None, Some, bytes_eq, refl, sym, ap, ◌∙◌, subst}
use Rattle.std.specs.List.{list_any, list_all}
use Rattle.std.proofs.lemmas.Bool.{false≢true, and_parts, or_from}
use Rattle.ledger_records.specs.declared.idp_record.Pending.{Pending}
use Rattle.ledger_records.specs.declared.idp_record.Issued.{Issued}
use Rattle.ledger_records.specs.declared.idp_record.Left.{Left}
use Rattle.ledger_records.specs.declared.idp_round.Round.{Round}
use Rattle.ledger_records.specs.declared.idp_round.Told.{Told}
use Rattle.ledger_records.specs.declared.idp_record.IdpRecord.{IdpRecord}
use Rattle.ledger_records.specs.declared.idp_record.IdpRecord.TheVariants as kinds
use Rattle.std.specs.Option.{is_some, option_to_list}
use Rattle.ledger_rules.specs.Numbers.{Drawn}
use Rattle.record_ledger.specs.Compacting.{passes}
use Rattle.record_ledger.specs.Linking as any
use Rattle.record_ledger.proofs.Words.{same_text, other_way}
use Rattle.record_ledger.proofs.LinkRows.{alone, other_not, among_one}
use Rattle.idp_rows.specs.RowsOf.{is_among, uses, ends, confirms, pending_rows, session_rows, left_rows, rows_of}
use Rattle.idp_ledger.specs.Record.{is_record, AreRecords, idp_rules}
use Rattle.idp_rows.specs.Record.{is_unused, is_unended, is_waiting, is_issue_free, fits_where_waiting}
use Rattle.idp_ledger.specs.Naming.{has_cookie, has_pending, has_session, has_logout, has_request, issue_names, names}
use Rattle.idp_ledger.specs.Linking.{idp_links, named, row_found, next_found, session_found, where_none, within}
use Rattle.round_rows.specs.Rounds.{waits_for}
use Rattle.idp_rows.specs.RoundsOf.{round_rows}
use Rattle.record_ledger.proofs.FreeRows.{free_among, free_at}
use Rattle.idp_ledger.proofs.FreeKeys.{unended_cookies, unused_pendings, waiting_logouts}
use Rattle.idp_ledger.proofs.RoundChains.{answers_it, holder_at}
use Rattle.idp_ledger.proofs.LawWords.{parts}
use Rattle.owned_values.specs.Options.{is_there}

-- whether a record has a row with one of these IDs, and whether one names another that is linked to it
abbrev pub has_id : List (List ℕ) → IdpRecord → Bool
has_id = any.has_id idp_rules idp_links

abbrev pub names_up : IdpRecord → IdpRecord → Bool
names_up = any.names_up idp_rules idp_links

abbrev pub names_down : IdpRecord → IdpRecord → Bool
names_down = any.names_down idp_rules idp_links

abbrev pub FreeRow : List IdpRecord → IdpRecord → List ℕ → Type 0
FreeRow = any.FreeRow idp_rules idp_links

-- the cookie of an Issued that began a session
cookie_found : (ids : List (List ℕ)) (p : Option (List ℕ)) (first : ℕ) (cookie : List ℕ) → passes (λ (d : Drawn). is_among d.id ids) (session_found p first cookie) ≡ has_cookie ids p cookie
cookie_found ids None first cookie = refl
cookie_found ids (Some pending) first cookie = refl

pub pending_has : (id : List ℕ) (x : IdpRecord) → has_pending id x ≡ true → has_id (id ∷ []) x ≡ true
pending_has id (kinds.Pending a) is = alone (bytes_eq id a.pending) (other_way a.pending id is)
pending_has id other is = absurd (false≢true is)

pub session_has : (ids : List (List ℕ)) (x : IdpRecord) → has_session ids x ≡ true → has_id ids x ≡ true
session_has ids (kinds.Issued x) is = cookie_found ids x.pending x.first x.cookie ∙ is
session_has ids other is = absurd (false≢true is)

logout_has : (request : List ℕ) (x : IdpRecord) → has_logout request x ≡ true → has_id (request ∷ []) x ≡ true
logout_has request (kinds.Left l) is = alone (bytes_eq request l.request) (other_way l.request request is)
logout_has request other is = absurd (false≢true is)

request_found : (request : List ℕ) (first : ℕ) (next : Option (List ℕ)) → is_there request next ≡ true → passes (λ (d : Drawn). is_among d.id (request ∷ [])) (next_found first next) ≡ true
request_found request first None is = absurd (false≢true is)
request_found request first (Some next) is = alone (bytes_eq request next) (other_way next request is)

request_has : (request : List ℕ) (x : IdpRecord) → has_request request x ≡ true → has_id (request ∷ []) x ≡ true
request_has request (kinds.Round x) is = alone (bytes_eq request x.request) (other_way x.request request is)
request_has request (kinds.Told x) is = request_found request x.first x.next is
request_has request other is = absurd (false≢true is)

-- a record that is named and linked has one of the IDs
issue_has : (p : Option (List ℕ)) (cookie : List ℕ) (x : IdpRecord) → (not (is_some (where_none p cookie)) && issue_names p cookie x) ≡ true → has_id (option_to_list p) x ≡ true
issue_has None cookie x is = absurd (false≢true is)
issue_has (Some pending) cookie x is = pending_has pending x is

pub names_has : (r x : IdpRecord) → names_up r x ≡ true → has_id (named r) x ≡ true
names_has (kinds.Issued r) x is = issue_has r.pending r.cookie x is
names_has (kinds.Ended r) x is = session_has r.cookies x is
names_has (kinds.Left r) x is = session_has (r.cookie ∷ []) x is
names_has (kinds.Confirmed r) x is = logout_has r.request x is
names_has (kinds.Round r) x is = session_has r.cookies x is
names_has (kinds.Told r) x is = request_has r.request x is
names_has other x is = absurd (false≢true is)

-- a record that is linked does not name what it does not use, end or confirm
unused_by : (o : Pending) (p : Option (List ℕ)) (cookie : List ℕ) → is_there o.pending p ≡ false → (not (is_some (where_none p cookie)) && issue_names p cookie (kinds.Pending o)) ≡ false
unused_by o None cookie none = refl
unused_by o (Some pending) cookie none = other_not pending o.pending none

unused_names : (id : List ℕ) (x y : IdpRecord) → has_pending id x ≡ true → uses id y ≡ false → names_up y x ≡ false
unused_names id (kinds.Pending o) (kinds.Issued r) has none =
    unused_by o r.pending r.cookie (subst (λ t. is_there t r.pending ≡ false) (sym (same_text o.pending id has)) none)
unused_names id (kinds.Pending o) (kinds.Pending r) has none = refl
unused_names id (kinds.Pending o) (kinds.Ended r) has none = refl
unused_names id (kinds.Pending o) (kinds.Left r) has none = refl
unused_names id (kinds.Pending o) (kinds.Confirmed r) has none = refl
unused_names id (kinds.Pending o) (kinds.Spoke r) has none = refl
unused_names id (kinds.Pending o) (kinds.Round r) has none = refl
unused_names id (kinds.Pending o) (kinds.Told r) has none = refl
unused_names id other y has none = absurd (false≢true has)

within_or_pending : (o : Issued) (p : Option (List ℕ)) (cookie : List ℕ) → (not (is_some (where_none p cookie)) && issue_names p cookie (kinds.Issued o)) ≡ false
within_or_pending o None cookie = refl
within_or_pending o (Some pending) cookie = refl

not_among : (cookies : List (List ℕ)) (p : Option (List ℕ)) (cookie : List ℕ) → is_among cookie cookies ≡ false → has_cookie cookies p cookie ≡ false
not_among cookies None cookie none = refl
not_among cookies (Some pending) cookie none = none

-- the cookie of a session that has one
cookie_is : (id : List ℕ) (p : Option (List ℕ)) (own : List ℕ) → has_cookie (id ∷ []) p own ≡ true → own ≡ id
cookie_is id None own has = absurd (false≢true has)
cookie_is id (Some pending) own has = among_one id own has

not_listed : (cookies : List (List ℕ)) (id : List ℕ) (o : Issued) → has_cookie (id ∷ []) o.pending o.cookie ≡ true → is_among id cookies ≡ false
    → has_cookie cookies o.pending o.cookie ≡ false
not_listed cookies id o has none =
    not_among cookies o.pending o.cookie (subst (λ t. is_among t cookies ≡ false) (sym (cookie_is id o.pending o.cookie has)) none)

unended_names : (id : List ℕ) (x y : IdpRecord) → has_session (id ∷ []) x ≡ true → ends id y ≡ false → names_up y x ≡ false
unended_names id (kinds.Issued o) (kinds.Issued r) has none = within_or_pending o r.pending r.cookie
unended_names id (kinds.Issued o) (kinds.Ended r) has none = not_listed r.cookies id o has none
unended_names id (kinds.Issued o) (kinds.Left r) has none = not_listed (r.cookie ∷ []) id o has (or_from (bytes_eq r.cookie id) false none refl)
unended_names id (kinds.Issued o) (kinds.Round r) has none = not_listed r.cookies id o has none
unended_names id (kinds.Issued o) (kinds.Pending r) has none = refl
unended_names id (kinds.Issued o) (kinds.Confirmed r) has none = refl
unended_names id (kinds.Issued o) (kinds.Spoke r) has none = refl
unended_names id (kinds.Issued o) (kinds.Told r) has none = refl
unended_names id other y has none = absurd (false≢true has)

unconfirmed_by : (o : Left) (p : Option (List ℕ)) (cookie : List ℕ) → (not (is_some (where_none p cookie)) && issue_names p cookie (kinds.Left o)) ≡ false
unconfirmed_by o None cookie = refl
unconfirmed_by o (Some pending) cookie = refl

unconfirmed_names : (id : List ℕ) (x y : IdpRecord) → has_logout id x ≡ true → confirms id y ≡ false → names_up y x ≡ false
unconfirmed_names id (kinds.Left o) (kinds.Issued r) has none = unconfirmed_by o r.pending r.cookie
unconfirmed_names id (kinds.Left o) (kinds.Confirmed r) has none =
    subst (λ t. bytes_eq t r.request ≡ false) (sym (same_text o.request id has)) (other_not r.request id none)
unconfirmed_names id (kinds.Left o) (kinds.Pending r) has none = refl
unconfirmed_names id (kinds.Left o) (kinds.Ended r) has none = refl
unconfirmed_names id (kinds.Left o) (kinds.Left r) has none = refl
unconfirmed_names id (kinds.Left o) (kinds.Spoke r) has none = refl
unconfirmed_names id (kinds.Left o) (kinds.Round r) has none = refl
unconfirmed_names id (kinds.Left o) (kinds.Told r) has none = refl
unconfirmed_names id other y has none = absurd (false≢true has)

-- a record that made a request, and a record that does not answer it
unasked_by : (a : Round) (p : Option (List ℕ)) (cookie : List ℕ) → (not (is_some (where_none p cookie)) && issue_names p cookie (kinds.Round a)) ≡ false
unasked_by a None cookie = refl
unasked_by a (Some pending) cookie = refl

untold_by : (a : Told) (p : Option (List ℕ)) (cookie : List ℕ) → (not (is_some (where_none p cookie)) && issue_names p cookie (kinds.Told a)) ≡ false
untold_by a None cookie = refl
untold_by a (Some pending) cookie = refl

not_next : (q request : List ℕ) (next : Option (List ℕ)) → is_there q next ≡ true → bytes_eq request q ≡ false → is_there request next ≡ false
not_next q request None has none = refl
not_next q request (Some id) has none = ap (λ x. bytes_eq x request) (same_text id q has) ∙ other_not request q none

unanswered_names : (q : List ℕ) (x y : IdpRecord) → has_request q x ≡ true → answers_it q y ≡ false → names_up y x ≡ false
unanswered_names q (kinds.Pending a) y has none = absurd (false≢true has)
unanswered_names q (kinds.Issued a) y has none = absurd (false≢true has)
unanswered_names q (kinds.Ended a) y has none = absurd (false≢true has)
unanswered_names q (kinds.Left a) y has none = absurd (false≢true has)
unanswered_names q (kinds.Confirmed a) y has none = absurd (false≢true has)
unanswered_names q (kinds.Spoke a) y has none = absurd (false≢true has)
unanswered_names q (kinds.Round a) (kinds.Issued r) has none = unasked_by a r.pending r.cookie
unanswered_names q (kinds.Round a) (kinds.Told r) has none = ap (λ x. bytes_eq x r.request) (same_text a.request q has) ∙ other_not r.request q none
unanswered_names q (kinds.Round a) (kinds.Pending r) has none = refl
unanswered_names q (kinds.Round a) (kinds.Ended r) has none = refl
unanswered_names q (kinds.Round a) (kinds.Left r) has none = refl
unanswered_names q (kinds.Round a) (kinds.Confirmed r) has none = refl
unanswered_names q (kinds.Round a) (kinds.Spoke r) has none = refl
unanswered_names q (kinds.Round a) (kinds.Round r) has none = refl
unanswered_names q (kinds.Told a) (kinds.Issued r) has none = untold_by a r.pending r.cookie
unanswered_names q (kinds.Told a) (kinds.Told r) has none = not_next q r.request a.next has none
unanswered_names q (kinds.Told a) (kinds.Pending r) has none = refl
unanswered_names q (kinds.Told a) (kinds.Ended r) has none = refl
unanswered_names q (kinds.Told a) (kinds.Left r) has none = refl
unanswered_names q (kinds.Told a) (kinds.Confirmed r) has none = refl
unanswered_names q (kinds.Told a) (kinds.Spoke r) has none = refl
unanswered_names q (kinds.Told a) (kinds.Round r) has none = refl

unended_free : (before : List IdpRecord) (r : IdpRecord) (id : List ℕ) → is_unended (session_rows before) id ≡ true
    → ((x : IdpRecord) → has_session (id ∷ []) x ≡ true → names_up r x ≡ true) → FreeRow before r id
unended_free before r id is named =
    let o = free_at unended_cookies before id is in
    record {
      place = o.place;
      row = o.row;
      there = o.there;
      has = session_has (id ∷ []) o.row o.has_it;
      named_is = named o.row o.has_it;
      free = λ l y less there. unended_names id o.row y o.has_it (o.free l y less there);
    }

-- a session of a cookie that is listed is named
listed_cookie : (cookies : List (List ℕ)) (id : List ℕ) (p : Option (List ℕ)) (own : List ℕ) → is_among id cookies ≡ true → has_cookie (id ∷ []) p own ≡ true
    → has_cookie cookies p own ≡ true
listed_cookie cookies id None own among has = has
listed_cookie cookies id (Some pending) own among has = subst (λ t. is_among t cookies ≡ true) (sym (among_one id own has)) among

listed_named : (cookies : List (List ℕ)) (id : List ℕ) (x : IdpRecord) → is_among id cookies ≡ true → has_session (id ∷ []) x ≡ true → has_session cookies x ≡ true
listed_named cookies id (kinds.Issued o) among has = listed_cookie cookies id o.pending o.cookie among has
listed_named cookies id other among has = absurd (false≢true has)

issued_free : (before : List IdpRecord) (r : Issued) (id : List ℕ) (p : Option (List ℕ)) → r.pending ≡ p → is_issue_free (rows_of before) p r.cookie ≡ true → is_among id (option_to_list p) ≡ true
    → FreeRow before (kinds.Issued r) id
issued_free before r id None e free among = absurd (false≢true among)
issued_free before r id (Some pending) e free among =
    let same : id ≡ pending = among_one pending id among in
    let o = free_at unused_pendings before id (subst (λ t. is_unused (pending_rows before) t ≡ true) (sym same) free) in
    record {
      place = o.place;
      row = o.row;
      there = o.there;
      has = pending_has id o.row o.has_it;
      named_is = ap (λ q. not (is_some (where_none q r.cookie)) && issue_names q r.cookie o.row) e
          ∙ subst (λ t. has_pending t o.row ≡ true) same o.has_it;
      free = λ l y less there. unused_names id o.row y o.has_it (o.free l y less there);
    }

told_free : (before : List IdpRecord) (r : Told) (id : List ℕ) → AreRecords before → is_record before (kinds.Told r) ≡ true → is_among id (r.request ∷ []) ≡ true → FreeRow before (kinds.Told r) id
told_free before r id are is among =
    let same : id ≡ r.request = among_one r.request id among in
    let waits = (and_parts (list_any (waits_for r.request) (round_rows before)) (list_all (fits_where_waiting r) (round_rows before)) (parts before (kinds.Told r) is).free).0 in
    let h = holder_at [] before are r.request waits in
    record {
      place = h.place;
      row = h.row;
      there = h.there;
      has = subst (λ t. has_id (t ∷ []) h.row ≡ true) (sym same) (request_has r.request h.row h.has);
      named_is = h.has;
      free = λ l y less there. unanswered_names r.request h.row y h.has (h.free l y less there);
    }

pub free_row : (before : List IdpRecord) (r : IdpRecord) (id : List ℕ) → AreRecords before → is_record before r ≡ true → is_among id (named r) ≡ true → FreeRow before r id
free_row before (kinds.Issued r) id are is among = issued_free before r id r.pending refl (parts before (kinds.Issued r) is).free among
free_row before (kinds.Left r) id are is among =
    let same : id ≡ r.cookie = among_one r.cookie id among in
    unended_free before (kinds.Left r) id
    (subst (λ t. is_unended (session_rows before) t ≡ true) (sym same) (parts before (kinds.Left r) is).free)
    (λ x. listed_named (r.cookie ∷ []) id x among)
free_row before (kinds.Ended r) id are is among =
    unended_free before (kinds.Ended r) id (free_among unended_cookies before r.cookies id (parts before (kinds.Ended r) is).free among)
    (λ x. listed_named r.cookies id x among)
free_row before (kinds.Confirmed r) id are is among =
    let same : id ≡ r.request = among_one r.request id among in
    let o = free_at waiting_logouts before id (subst (λ t. is_waiting (left_rows before) t ≡ true) (sym same) (parts before (kinds.Confirmed r) is).free) in
    record {
      place = o.place;
      row = o.row;
      there = o.there;
      has = logout_has id o.row o.has_it;
      named_is = subst (λ t. has_logout t o.row ≡ true) same o.has_it;
      free = λ l y less there. unconfirmed_names id o.row y o.has_it (o.free l y less there);
    }
free_row before (kinds.Round r) id are is among =
    unended_free before (kinds.Round r) id (free_among unended_cookies before r.cookies id (parts before (kinds.Round r) is).free among)
    (λ x. listed_named r.cookies id x among)
free_row before (kinds.Told r) id are is among = told_free before r id are is among
free_row before other id are is among = absurd (false≢true among)

-- ---- the record that began a session

-- an Issued in a session names the record that has the cookie, and no other
pub record BeganAt (before : List IdpRecord) (cookie : List ℕ) : Type 0 where
  pub place : ℕ
  pub row : IdpRecord
  pub there : slice_get before place ≡ Some row
  pub has : has_session (cookie ∷ []) row ≡ true

pub began_at : (before : List IdpRecord) (r : Issued) → r.pending ≡ None → is_record before (kinds.Issued r) ≡ true → BeganAt before r.cookie
began_at before r none is =
    let free = ap (λ p. is_issue_free (rows_of before) p r.cookie) (sym none) ∙ (parts before (kinds.Issued r) is).free in
    let o = free_at unended_cookies before r.cookie free in
    record { place = o.place; row = o.row; there = o.there; has = o.has_it }

-- what a record that is itself linked is
pub record IsWithin (r : IdpRecord) (id : List ℕ) : Type 0 where
  pub issue : Issued
  pub is : r ≡ kinds.Issued issue
  pub none : issue.pending ≡ None
  pub id_is : issue.cookie ≡ id

pub is_within : (r : IdpRecord) (id : List ℕ) → within r ≡ Some id → IsWithin r id
is_within (kinds.Issued r) id some = let both = by_pending r.pending some in record { issue = r; is = refl; none = both.0; id_is = both.1 }
  where
    by_pending : (p : Option (List ℕ)) → where_none p r.cookie ≡ Some id → (p ≡ None) × (r.cookie ≡ id)
    by_pending None e = (refl, cc)
    by_pending (Some pending) e = absurd (cc)
is_within (kinds.Pending r) id some = absurd (cc)
is_within (kinds.Ended r) id some = absurd (cc)
is_within (kinds.Left r) id some = absurd (cc)
is_within (kinds.Confirmed r) id some = absurd (cc)
is_within (kinds.Spoke r) id some = absurd (cc)
is_within (kinds.Round r) id some = absurd (cc)
is_within (kinds.Told r) id some = absurd (cc)

pub within_row : (before : List IdpRecord) (r : IdpRecord) (id : List ℕ) → is_record before r ≡ true → within r ≡ Some id → any.NamedRow idp_rules idp_links before r id
within_row before r id is some =
    let w = is_within r id some in
    let b = began_at before w.issue w.none (ap (is_record before) (sym w.is) ∙ is) in
    record {
      place = b.place;
      row = b.row;
      there = b.there;
      has = subst (λ t. has_id (t ∷ []) b.row ≡ true) w.id_is (session_has (w.issue.cookie ∷ []) b.row b.has);
      named_is = ap (λ x. names x b.row) w.is ∙ ap (λ p. issue_names p w.issue.cookie b.row) w.none ∙ b.has;
    }

pub within_names : (r x : IdpRecord) (id : List ℕ) → within r ≡ Some id → names r x ≡ true → has_id (id ∷ []) x ≡ true
within_names r x id some is =
    let w = is_within r id some in
    let has = sym (ap (λ y. names y x) w.is ∙ ap (λ p. issue_names p w.issue.cookie x) w.none) ∙ is in
    subst (λ t. has_id (t ∷ []) x ≡ true) w.id_is (session_has (w.issue.cookie ∷ []) x has)

pub within_none : (r : IdpRecord) (id : List ℕ) → within r ≡ Some id → row_found r ≡ None
within_none r id some =
    let w = is_within r id some in
    ap row_found w.is ∙ ap (λ p. session_found p w.issue.first w.issue.cookie) w.none
