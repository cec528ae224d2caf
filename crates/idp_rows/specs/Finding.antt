-- What is looked up in the rows of an identity provider. A moment is the milliseconds since 1970-01-01T00:00:00Z.
use Rattle.std.specs.Prelude.{ℕ, Bool, true, false, ◌&&◌, ◌||◌, not, List, [], map, filter, reverse, Option, None, Some}
use Rattle.std.specs.List.{find, list_any}
use Rattle.std.specs.Str.{bytes_eq}
use Rattle.logout_turns.specs.declared.part.Part.{Part}
use Rattle.idp_rows.specs.declared.row.PendingRow.{PendingRow}
use Rattle.idp_rows.specs.declared.row.IssuedRow.{IssuedRow}
use Rattle.idp_rows.specs.declared.row.SessionRow.{SessionRow}
use Rattle.idp_rows.specs.declared.row.LeftRow.{LeftRow}
use Rattle.idp_rows.specs.RowsOf.{IdpRows, is_among}
pub use Rattle.ledger_rules.specs.Texts.{is_empty}
pub use Rattle.round_rows.specs.Rounds.{visible, round_found, turn_found}

-- the pending login of an ID: the first one that is not used and is visible
abbrev pub pending_found : List PendingRow → (pending : List ℕ) (now horizon : ℕ) → Option PendingRow
pending_found pendings pending now horizon =
    find (λ row. bytes_eq row.pending pending && not row.used && visible row.until now horizon) pendings

-- the live session of a cookie: the first one that is not ended and is visible
abbrev pub session_found : List SessionRow → (cookie : List ℕ) (now horizon : ℕ) → Option SessionRow
session_found sessions cookie now horizon =
    find (λ row. bytes_eq row.cookie cookie && not row.ended && visible row.until now horizon) sessions

-- whether a visible logout of a request is not confirmed
abbrev pub is_waiting_now : List LeftRow → (request : List ℕ) (now horizon : ℕ) → Bool
is_waiting_now lefts request now horizon =
    list_any (λ row. bytes_eq row.request request && not row.confirmed && visible row.until now horizon) lefts

-- the last assertion that was issued in the session of a cookie
abbrev pub last_issue : List IssuedRow → (cookie : List ℕ) → Option IssuedRow
last_issue issues cookie = find (λ row. bytes_eq row.cookie cookie) (reverse issues)

-- the peer to which that one went
abbrev pub peer_of : Option IssuedRow → List ℕ
peer_of None = []
peer_of (Some row) = row.peer

abbrev pub last_peer : List IssuedRow → (cookie : List ℕ) → List ℕ
last_peer issues cookie = peer_of (last_issue issues cookie)

-- whether an assertion was issued in the session of a cookie to this peer, or to another one
abbrev pub is_that_peer : (beside : Bool) → List ℕ → List ℕ → Bool
is_that_peer false peer issued = bytes_eq issued peer
is_that_peer true peer issued = not (bytes_eq issued peer)

abbrev pub has_issued : (beside : Bool) → List IssuedRow → (cookie peer : List ℕ) → Bool
has_issued beside issues cookie peer = list_any (λ row. bytes_eq row.cookie cookie && is_that_peer beside peer row.peer) issues

-- whether an index is listed, or none is
abbrev pub is_listed : List (List ℕ) → List ℕ → Bool
is_listed indexes index = is_empty indexes || is_among index indexes

-- SAML Core, 3.7.3.2: the sessions that a logout of a peer ends are the live ones of that name in which an assertion was
-- issued to that peer, and whose index is listed where any is.
abbrev pub is_ending : (now horizon : ℕ) (peer name : List ℕ) (indexes : List (List ℕ)) → List IssuedRow → SessionRow → Bool
is_ending now horizon peer name indexes issues row =
    not row.ended && visible row.until now horizon && bytes_eq row.user name && is_listed indexes row.index
    && has_issued false issues row.cookie peer

abbrev pub ending : (now horizon : ℕ) (peer name : List ℕ) (indexes : List (List ℕ)) → IdpRows → List (List ℕ)
ending now horizon peer name indexes rows =
    map (λ row. row.cookie) (filter (is_ending now horizon peer name indexes rows.issues) rows.sessions)

-- SAML Core, 3.2.2.2, PartialLogout: in one of these sessions an assertion was issued to another peer too
abbrev pub is_partial : (now horizon : ℕ) (peer name : List ℕ) (indexes : List (List ℕ)) → IdpRows → Bool
is_partial now horizon peer name indexes rows =
    list_any (λ row. is_ending now horizon peer name indexes rows.issues row && has_issued true rows.issues row.cookie peer) rows.sessions

-- SAML Profiles, 4.4.3.3: the session participants are those to which assertions were issued in the session. One part for each
-- assertion that was issued in the sessions of these cookies.
abbrev pub part_of : IssuedRow → Part
part_of row = record { peer = row.peer; name = row.user; index = row.index }

abbrev pub parts_of : (cookies : List (List ℕ)) → List IssuedRow → List Part
parts_of cookies issues = map part_of (filter (λ row. is_among row.cookie cookies) issues)
