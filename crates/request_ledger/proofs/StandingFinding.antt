-- The row that a request or a token has.
use Rattle.std.proofs.Common.{◌≡◌, ℕ, false, not, ◌&&◌, List, map, get_or, None, Some, ◌∙◌}
use Rattle.std.specs.Str.{bytes_eq}
use Rattle.std.proofs.lemmas.Bool.{and_parts}
use Rattle.std.proofs.lemmas.Slice.Eq.{bytes_eq-Decides}
use Rattle.ledger_rules.specs.Numbers.{IsPlaceOf}
use Rattle.request_rows.specs.declared.row.AskedRow.{AskedRow}
use Rattle.request_rows.specs.declared.row.OpenedRow.{OpenedRow}
use Rattle.request_rows.specs.declared.row.LeftRow.{LeftRow}
use Rattle.request_ledger.specs.Record.{is_asked, is_open, is_waiting}
use Rattle.request_ledger.specs.Standing.{HaveNumbers, IsOpenAt, IsWaitingAt}
use Rattle.request_ledger.proofs.StandingPlaces.{only_place, read_there, IsOfId, any_there, any_nowhere}

asked_of : (request : List ℕ) → IsOfId {X = AskedRow} (λ row. row.request) request (λ row. bytes_eq row.request request)
asked_of request = record { of_id = λ row passes. (bytes_eq-Decides row.request request).0 passes }

open_of : (token : List ℕ) → IsOfId {X = OpenedRow} (λ row. row.token) token (λ row. bytes_eq row.token token && not row.closed)
open_of token = record { of_id = λ row passes. (bytes_eq-Decides row.token token).0 (and_parts (bytes_eq row.token token) (not row.closed) passes).0 }

waiting_of : (request : List ℕ) → IsOfId {X = LeftRow} (λ row. row.request) request (λ row. bytes_eq row.request request && not row.confirmed)
waiting_of request = record { of_id = λ row passes. (bytes_eq-Decides row.request request).0 (and_parts (bytes_eq row.request request) (not row.confirmed) passes).0 }

pub asked_there : (rows : List AskedRow) (next : ℕ) (numbers : List ℕ) → HaveNumbers next numbers (map (λ row. row.request) rows)
    → (request : List ℕ) (p : ℕ) → IsPlaceOf numbers request (Some p) → (row : AskedRow) → row ≡ get_or rows p row → is_asked rows request ≡ bytes_eq row.request request
asked_there rows next numbers have request p is row read =
    any_there (λ r. r.request) (λ r. bytes_eq r.request request) rows next numbers have request (asked_of request) p is row read

pub asked_nowhere : (rows : List AskedRow) (next : ℕ) (numbers : List ℕ) → HaveNumbers next numbers (map (λ row. row.request) rows)
    → (request : List ℕ) → IsPlaceOf numbers request None → is_asked rows request ≡ false
asked_nowhere rows next numbers have request is = any_nowhere (λ r. r.request) (λ r. bytes_eq r.request request) rows next numbers have request (asked_of request) is

pub open_there : (rows : List OpenedRow) (next : ℕ) (numbers : List ℕ) → HaveNumbers next numbers (map (λ row. row.token) rows)
    → (token : List ℕ) (p : ℕ) → IsPlaceOf numbers token (Some p) → (row : OpenedRow) → row ≡ get_or rows p row → row.token ≡ token → row.closed ≡ false → IsOpenAt rows token p
open_there rows next numbers have token p is row read same unclosed = record {
  row = row;
  there = read_there (λ r. r.token) rows next numbers have token p is row read;
  token_is = same;
  unclosed = unclosed;
  only = only_place (λ r. r.token) rows next numbers have token p is;
}

pub open_refused : (rows : List OpenedRow) (next : ℕ) (numbers : List ℕ) → HaveNumbers next numbers (map (λ row. row.token) rows)
    → (token : List ℕ) (p : ℕ) → IsPlaceOf numbers token (Some p) → (row : OpenedRow) → row ≡ get_or rows p row
    → (bytes_eq row.token token && not row.closed) ≡ false → is_open rows token ≡ false
open_refused rows next numbers have token p is row read fails =
    any_there (λ r. r.token) (λ r. bytes_eq r.token token && not r.closed) rows next numbers have token (open_of token) p is row read ∙ fails

pub open_nowhere : (rows : List OpenedRow) (next : ℕ) (numbers : List ℕ) → HaveNumbers next numbers (map (λ row. row.token) rows)
    → (token : List ℕ) → IsPlaceOf numbers token None → is_open rows token ≡ false
open_nowhere rows next numbers have token is = any_nowhere (λ r. r.token) (λ r. bytes_eq r.token token && not r.closed) rows next numbers have token (open_of token) is

pub waiting_there : (rows : List LeftRow) (next : ℕ) (numbers : List ℕ) → HaveNumbers next numbers (map (λ row. row.request) rows)
    → (request : List ℕ) (p : ℕ) → IsPlaceOf numbers request (Some p) → (row : LeftRow) → row ≡ get_or rows p row → row.request ≡ request → row.confirmed ≡ false → IsWaitingAt rows request p
waiting_there rows next numbers have request p is row read same waits = record {
  row = row;
  there = read_there (λ r. r.request) rows next numbers have request p is row read;
  request_is = same;
  waits = waits;
  only = only_place (λ r. r.request) rows next numbers have request p is;
}

pub waiting_refused : (rows : List LeftRow) (next : ℕ) (numbers : List ℕ) → HaveNumbers next numbers (map (λ row. row.request) rows)
    → (request : List ℕ) (p : ℕ) → IsPlaceOf numbers request (Some p) → (row : LeftRow) → row ≡ get_or rows p row
    → (bytes_eq row.request request && not row.confirmed) ≡ false → is_waiting rows request ≡ false
waiting_refused rows next numbers have request p is row read fails =
    any_there (λ r. r.request) (λ r. bytes_eq r.request request && not r.confirmed) rows next numbers have request (waiting_of request) p is row read ∙ fails

pub waiting_nowhere : (rows : List LeftRow) (next : ℕ) (numbers : List ℕ) → HaveNumbers next numbers (map (λ row. row.request) rows)
    → (request : List ℕ) → IsPlaceOf numbers request None → is_waiting rows request ≡ false
waiting_nowhere rows next numbers have request is = any_nowhere (λ r. r.request) (λ r. bytes_eq r.request request && not r.confirmed) rows next numbers have request (waiting_of request) is
