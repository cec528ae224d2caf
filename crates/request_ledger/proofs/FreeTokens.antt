-- Sessions and logouts as rows that a record behind them takes.
use Rattle.std.proofs.Common.{◌≡◌, ℕ, Bool, true, false, ◌||◌, not, List, [], ◌∷◌, bytes_eq, refl}
use Rattle.std.specs.List.{list_any}
use Rattle.std.proofs.lemmas.Bool.{false≢true, or_left, or_right}
use Rattle.ledger_records.specs.declared.sp_record.SpRecord.{SpRecord}
use Rattle.ledger_records.specs.declared.sp_record.SpRecord.TheVariants as kinds
use Rattle.record_ledger.proofs.FreeRows.{FreeRows, any_free, asked_of}
use Rattle.record_ledger.proofs.Words.{other_way}
use Rattle.request_ledger.specs.Naming.{names_left, names_opened}
use Rattle.request_ledger.specs.Record.{is_open, is_waiting}
use Rattle.request_ledger.specs.RowsOf.{closes, confirms, is_among, left_rows, opened_rows}

-- whether a record opens the session of this token
abbrev pub has_token : List ℕ → SpRecord → Bool
has_token token (kinds.Opened r) = bytes_eq r.token token
has_token token other = false

pub open_any : (records : List SpRecord) (token : List ℕ) → is_open (opened_rows records) token ≡ any_free (has_token token) (closes token) records
open_any [] token = refl
open_any (kinds.Opened o ∷ later) token =
    λ i. asked_of o.token token (λ t. not (list_any (closes t) later)) i || open_any later token i
open_any (other ∷ later) token = open_any later token

-- the sessions, by their tokens
abbrev pub open_tokens : FreeRows SpRecord
open_tokens = record { has = has_token; takes = closes; is_free = λ records token. is_open (opened_rows records) token; any = open_any }

pub waiting_any : (records : List SpRecord) (request : List ℕ)
    → is_waiting (left_rows records) request ≡ any_free (names_left request) (confirms request) records
waiting_any [] request = refl
waiting_any (kinds.Left o ∷ later) request =
    λ i. asked_of o.request request (λ t. not (list_any (confirms t) later)) i || waiting_any later request i
waiting_any (other ∷ later) request = waiting_any later request

-- the logouts, by their requests
abbrev pub waiting_requests : FreeRows SpRecord
waiting_requests = record { has = names_left; takes = confirms; is_free = λ records request. is_waiting (left_rows records) request; any = waiting_any }

-- the session of a token that is listed is named
pub first_named : (token : List ℕ) (tokens : List (List ℕ)) (x : SpRecord) → has_token token x ≡ true → names_opened (token ∷ tokens) x ≡ true
first_named token tokens (kinds.Opened r) here = or_left (bytes_eq token r.token) (is_among r.token tokens) (other_way r.token token here)
first_named token tokens other here = absurd (false≢true here)

pub rest_named : (token : List ℕ) (tokens : List (List ℕ)) (x : SpRecord) → names_opened tokens x ≡ true → names_opened (token ∷ tokens) x ≡ true
rest_named token tokens (kinds.Opened r) here = or_right (bytes_eq token r.token) (is_among r.token tokens) here
rest_named token tokens other here = here
