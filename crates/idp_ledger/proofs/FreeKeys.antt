-- Pending logins, sessions and logouts as rows that a record behind them takes.
use Rattle.std.proofs.Common.{◌≡◌, ℕ, Bool, true, false, ◌&&◌, ◌||◌, not, List, [], ◌∷◌, ◌++◌, Option, None, Some, bytes_eq, refl, sym, ap, ◌∙◌, inl, inr}
use Rattle.std.specs.List.{list_any}
use Rattle.std.proofs.lemmas.Bool.{false≢true, or_cases, or_from, or_left, or_right}
use Rattle.ledger_records.specs.declared.idp_record.Issued.{Issued}
use Rattle.ledger_records.specs.declared.idp_record.IdpRecord.{IdpRecord}
use Rattle.ledger_records.specs.declared.idp_record.IdpRecord.TheVariants as kinds
use Rattle.record_ledger.proofs.FreeRows.{FreeRows, any_free, asked_of}
use Rattle.record_ledger.proofs.LinkRows.{alone, other_not}
use Rattle.record_ledger.proofs.Words.{other_way}
use Rattle.idp_rows.specs.RowsOf.{confirms, ends, if_pending, is_among, left_rows, pending_rows, session_row, session_rows, uses}
use Rattle.idp_rows.specs.Record.{is_unended, is_unused, is_waiting}
use Rattle.idp_ledger.specs.Naming.{has_cookie, has_logout, has_pending, has_session}

pub unused_any : (records : List IdpRecord) (pending : List ℕ) → is_unused (pending_rows records) pending ≡ any_free (has_pending pending) (uses pending) records
unused_any [] pending = refl
unused_any (kinds.Pending o ∷ later) pending =
    λ i. asked_of o.pending pending (λ t. not (list_any (uses t) later)) i || unused_any later pending i
unused_any (other ∷ later) pending = unused_any later pending

-- the pending logins, by their IDs
abbrev pub unused_pendings : FreeRows IdpRecord
unused_pendings = record { has = has_pending; takes = uses; is_free = λ records pending. is_unused (pending_rows records) pending; any = unused_any }

pub waiting_any : (records : List IdpRecord) (request : List ℕ) → is_waiting (left_rows records) request ≡ any_free (has_logout request) (confirms request) records
waiting_any [] request = refl
waiting_any (kinds.Left o ∷ later) request =
    λ i. asked_of o.request request (λ t. not (list_any (confirms t) later)) i || waiting_any later request i
waiting_any (other ∷ later) request = waiting_any later request

-- the logouts, by their requests
abbrev pub waiting_logouts : FreeRows IdpRecord
waiting_logouts = record { has = has_logout; takes = confirms; is_free = λ records request. is_waiting (left_rows records) request; any = waiting_any }

-- a text that is another one is among that one alone
turned : (one other : List ℕ) → bytes_eq one other ≡ (bytes_eq other one || false)
turned one other = by_test (bytes_eq one other) refl
  where
    by_test : (b : Bool) → bytes_eq one other ≡ b → b ≡ (bytes_eq other one || false)
    by_test true is = sym (alone (bytes_eq other one) (other_way one other is))
    by_test false is = sym (or_from (bytes_eq other one) false (other_not one other is) refl)

-- an Issued begins a session where a login was pending
begun_any : (o : Issued) (p : Option (List ℕ)) (later : List IdpRecord) (cookie : List ℕ)
    → is_unended (session_rows later) cookie ≡ any_free (has_session (cookie ∷ [])) (ends cookie) later
    → is_unended (if_pending p (session_row (list_any (ends o.cookie) later) o ∷ []) ++ session_rows later) cookie
    ≡ ((has_cookie (cookie ∷ []) p o.cookie && not (list_any (ends cookie) later)) || any_free (has_session (cookie ∷ [])) (ends cookie) later)
begun_any o None later cookie rest = rest
begun_any o (Some pending) later cookie rest =
    λ i. (asked_of o.cookie cookie (λ t. not (list_any (ends t) later))
    ∙ ap (λ b. b && not (list_any (ends cookie) later)) (turned o.cookie cookie)) i || rest i

pub unended_any : (records : List IdpRecord) (cookie : List ℕ)
    → is_unended (session_rows records) cookie ≡ any_free (has_session (cookie ∷ [])) (ends cookie) records
unended_any [] cookie = refl
unended_any (kinds.Issued o ∷ later) cookie = begun_any o o.pending later cookie (unended_any later cookie)
unended_any (other ∷ later) cookie = unended_any later cookie

-- the sessions, by their cookies
abbrev pub unended_cookies : FreeRows IdpRecord
unended_cookies = record {
  has = λ cookie. has_session (cookie ∷ []);
  takes = ends;
  is_free = λ records cookie. is_unended (session_rows records) cookie;
  any = unended_any;
}

-- the session of a cookie that is listed is named
first_cookie : (cookie : List ℕ) (cookies : List (List ℕ)) (p : Option (List ℕ)) (own : List ℕ) → has_cookie (cookie ∷ []) p own ≡ true → has_cookie (cookie ∷ cookies) p own ≡ true
first_cookie cookie cookies None own here = here
first_cookie cookie cookies (Some pending) own here =
    elim (or_cases (bytes_eq cookie own) false here) [
      | inl is ↦ or_left (bytes_eq cookie own) (is_among own cookies) is
      | inr wrong ↦ absurd (false≢true wrong)
    ]

rest_cookie : (cookie : List ℕ) (cookies : List (List ℕ)) (p : Option (List ℕ)) (own : List ℕ) → has_cookie cookies p own ≡ true → has_cookie (cookie ∷ cookies) p own ≡ true
rest_cookie cookie cookies None own here = here
rest_cookie cookie cookies (Some pending) own here = or_right (bytes_eq cookie own) (is_among own cookies) here

pub first_named : (cookie : List ℕ) (cookies : List (List ℕ)) (x : IdpRecord) → has_session (cookie ∷ []) x ≡ true → has_session (cookie ∷ cookies) x ≡ true
first_named cookie cookies (kinds.Issued r) here = first_cookie cookie cookies r.pending r.cookie here
first_named cookie cookies other here = absurd (false≢true here)

pub rest_named : (cookie : List ℕ) (cookies : List (List ℕ)) (x : IdpRecord) → has_session cookies x ≡ true → has_session (cookie ∷ cookies) x ≡ true
rest_named cookie cookies (kinds.Issued r) here = rest_cookie cookie cookies r.pending r.cookie here
rest_named cookie cookies other here = absurd (false≢true here)
