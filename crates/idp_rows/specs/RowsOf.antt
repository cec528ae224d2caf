-- What the records of an identity provider stand for: its rows.
use Rattle.std.specs.Prelude.{ℕ, Bool, false, ◌||◌, List, [], ◌∷◌, ◌++◌, map, length, Option, None, Some}
use Rattle.std.specs.List.{list_any}
use Rattle.std.specs.Str.{bytes_eq}
use Rattle.ledger_records.specs.declared.idp_record.Pending.{Pending}
use Rattle.ledger_records.specs.declared.idp_record.Issued.{Issued}
use Rattle.ledger_records.specs.declared.idp_record.Left.{Left}
use Rattle.ledger_records.specs.declared.idp_record.IdpRecord.{IdpRecord}
use Rattle.ledger_records.specs.declared.idp_record.IdpRecord.TheVariants as kinds
use Rattle.round_rows.specs.declared.row.RoundRow.{RoundRow}
use Rattle.round_rows.specs.Rounds.{answered}
use Rattle.idp_rows.specs.declared.row.PendingRow.{PendingRow}
use Rattle.idp_rows.specs.declared.row.IssuedRow.{IssuedRow}
use Rattle.idp_rows.specs.declared.row.SessionRow.{SessionRow}
use Rattle.idp_rows.specs.declared.row.LeftRow.{LeftRow}
use Rattle.idp_rows.specs.RoundsOf.{round_row, round_rows}
use Rattle.owned_values.specs.Options.{is_there}
pub use Rattle.ledger_rules.specs.Texts.{is_among}

-- the rows of each kind, in the order of their records
pub record IdpRows : Type 0 where
  pub pendings : List PendingRow
  pub issues : List IssuedRow
  pub sessions : List SessionRow
  pub lefts : List LeftRow
  pub rounds : List RoundRow

-- a row has the fields of its record
abbrev pub pending_row : Bool → Pending → PendingRow
pending_row used r = record {
  until = r.until;
  pending = r.pending;
  request = r.request;
  peer = r.peer;
  consumer = r.consumer;
  relay = r.relay;
  used = used;
}

abbrev pub issued_row : Issued → IssuedRow
issued_row r = record {
  pending = r.pending;
  cookie = r.cookie;
  index = r.index;
  session_end = r.session_end;
  assertion = r.assertion;
  message = r.message;
  user = r.user;
  peer = r.peer;
  consumer = r.consumer;
  request = r.request;
  relay = r.relay;
  until = r.until;
  attributes = r.attributes;
}

abbrev pub session_row : Bool → Issued → SessionRow
session_row ended r =
    record { cookie = r.cookie; index = r.index; user = r.user; attributes = r.attributes; until = r.session_end; ended = ended }

abbrev pub left_row : Bool → Left → LeftRow
left_row confirmed r = record { request = r.request; until = r.until; confirmed = confirmed }

-- these where a login was pending, nothing where the user had a session
abbrev pub if_pending : {X : Type 0} → Option (List ℕ) → List X → List X
if_pending None items = []
if_pending (Some pending) items = items

-- the session that an Issued begins: it draws a cookie where a login was pending
abbrev pub begun : Bool → Issued → List SessionRow
begun ended r = if_pending r.pending (session_row ended r ∷ [])

-- whether a record uses the pending login of this ID: an Issued that names it
abbrev pub uses : List ℕ → IdpRecord → Bool
uses pending (kinds.Issued r) = is_there pending r.pending
uses pending other = false

-- whether a record ends the session of this cookie: a Left of it, or an Ended or a Round that lists it
abbrev pub ends : List ℕ → IdpRecord → Bool
ends cookie (kinds.Ended r) = is_among cookie r.cookies
ends cookie (kinds.Left r) = bytes_eq r.cookie cookie
ends cookie (kinds.Round r) = is_among cookie r.cookies
ends cookie other = false

-- whether a record confirms the logout of this request
abbrev pub confirms : List ℕ → IdpRecord → Bool
confirms request (kinds.Confirmed r) = bytes_eq r.request request
confirms request other = false

-- a pending row for each Pending, used where a later Issued names it
abbrev pub pending_rows : List IdpRecord → List PendingRow
pending_rows [] = []
pending_rows (kinds.Pending r ∷ later) = pending_row (list_any (uses r.pending) later) r ∷ pending_rows later
pending_rows (other ∷ later) = pending_rows later

-- an issued row for each Issued
abbrev pub issued_rows : List IdpRecord → List IssuedRow
issued_rows [] = []
issued_rows (kinds.Issued r ∷ later) = issued_row r ∷ issued_rows later
issued_rows (other ∷ later) = issued_rows later

-- a session for each Issued that draws its cookie, ended where a later record ends it
abbrev pub session_rows : List IdpRecord → List SessionRow
session_rows [] = []
session_rows (kinds.Issued r ∷ later) = begun (list_any (ends r.cookie) later) r ++ session_rows later
session_rows (other ∷ later) = session_rows later

-- a row of a logout for each Left, confirmed where a later record confirms it
abbrev pub left_rows : List IdpRecord → List LeftRow
left_rows [] = []
left_rows (kinds.Left r ∷ later) = left_row (list_any (confirms r.request) later) r ∷ left_rows later
left_rows (other ∷ later) = left_rows later

abbrev pub rows_of : List IdpRecord → IdpRows
rows_of records = record {
  pendings = pending_rows records;
  issues = issued_rows records;
  sessions = session_rows records;
  lefts = left_rows records;
  rounds = round_rows records;
}

-- The rows after one record more: rows more, a login used, sessions ended, a logout confirmed, or a round answered.
abbrev pub used_if : Bool → PendingRow → PendingRow
used_if now row = record row { used = row.used || now }

abbrev pub used_where : (PendingRow → Bool) → List PendingRow → List PendingRow
used_where test rows = map (λ row. used_if (test row) row) rows

abbrev pub ended_if : Bool → SessionRow → SessionRow
ended_if now row = record row { ended = row.ended || now }

abbrev pub ended_where : (SessionRow → Bool) → List SessionRow → List SessionRow
ended_where test rows = map (λ row. ended_if (test row) row) rows

abbrev pub confirmed_if : Bool → LeftRow → LeftRow
confirmed_if now row = record row { confirmed = row.confirmed || now }

abbrev pub confirmed_where : (LeftRow → Bool) → List LeftRow → List LeftRow
confirmed_where test rows = map (λ row. confirmed_if (test row) row) rows

abbrev pub rows_after : IdpRows → IdpRecord → IdpRows
rows_after rows (kinds.Pending r) = record rows { pendings = rows.pendings ++ pending_row false r ∷ [] }
rows_after rows (kinds.Issued r) = record rows {
  pendings = used_where (λ row. is_there row.pending r.pending) rows.pendings;
  issues = rows.issues ++ issued_row r ∷ [];
  sessions = rows.sessions ++ begun false r;
}
rows_after rows (kinds.Ended r) = record rows { sessions = ended_where (λ row. is_among row.cookie r.cookies) rows.sessions }
rows_after rows (kinds.Left r) = record rows {
  sessions = ended_where (λ row. bytes_eq r.cookie row.cookie) rows.sessions;
  lefts = rows.lefts ++ left_row false r ∷ [];
}
rows_after rows (kinds.Confirmed r) = record rows { lefts = confirmed_where (λ row. bytes_eq r.request row.request) rows.lefts }
rows_after rows (kinds.Spoke r) = rows
rows_after rows (kinds.Round r) = record rows {
  sessions = ended_where (λ row. is_among row.cookie r.cookies) rows.sessions;
  rounds = rows.rounds ++ round_row r ∷ [];
}
rows_after rows (kinds.Told r) = record rows { rounds = answered r.request r.confirmed r.next rows.rounds }

-- how many rows there are of a record's kind, where it has rows
abbrev pub rows_of_kind : IdpRows → IdpRecord → Option ℕ
rows_of_kind rows (kinds.Pending r) = Some (length rows.pendings)
rows_of_kind rows (kinds.Issued r) = Some (length rows.issues)
rows_of_kind rows (kinds.Left r) = Some (length rows.lefts)
rows_of_kind rows (kinds.Round r) = Some (length rows.rounds)
rows_of_kind rows other = None
