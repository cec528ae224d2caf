-- The rows of a service provider, and what is looked up in them. A moment is the milliseconds since
-- 1970-01-01T00:00:00Z.
use Rattle.std.specs.Prelude.{ℕ, zero, suc, Bool, true, ◌&&◌, not, List, [], ◌∷◌, Option, nat_lt, max}
use Rattle.std.specs.List.{find, list_any}
use Rattle.std.specs.Str.{bytes_eq}
use Rattle.request_rows.specs.declared.row.AskedRow.{AskedRow}
use Rattle.request_rows.specs.declared.row.OpenedRow.{OpenedRow}
use Rattle.request_rows.specs.declared.row.LeftRow.{LeftRow}

-- how many rows more of each kind fit in without memory
pub record Spare : Type 0 where
  pub asked : ℕ
  pub opened : ℕ
  pub left : ℕ

-- the rows of each kind, in the order in which they came
pub record RowsView : Type 0 where
  pub asked : List AskedRow
  pub opened : List OpenedRow
  pub left : List LeftRow
  pub spare : Spare

-- something is visible where the moment until which it holds is greater than the larger of the present and the horizon, which
-- is the latest moment at which rows were dropped
abbrev pub visible : (until now horizon : ℕ) → Bool
visible until now horizon = nat_lt (max now horizon) until

-- SAML Profiles, 4.1.4.3: the provider must "verify that the InResponseTo attribute .. equals the ID of its original
-- <AuthnRequest> message". The asked row of a request is the first one that is visible.
abbrev pub asked_row : List AskedRow → (request : List ℕ) (now horizon : ℕ) → Option AskedRow
asked_row asked request now horizon =
    find (λ row. bytes_eq row.request request && visible row.until now horizon) asked

-- a request is spent where a session was opened for it, whether that is visible or not, closed or not
abbrev pub is_spent : List OpenedRow → (request : List ℕ) → Bool
is_spent opened request = list_any (λ row. bytes_eq row.request request) opened

-- SAML Profiles, 4.1.4.5: the provider must "ensure that bearer assertions are not replayed, by maintaining the set of used
-- ID values for the length of time for which the assertion would be considered valid". An issuer's assertion was seen where
-- a session was opened by it, and the moment until which it may not come again is visible.
abbrev pub is_seen : List OpenedRow → (issuer assertion : List ℕ) (now horizon : ℕ) → Bool
is_seen opened issuer assertion now horizon =
    list_any (λ row. bytes_eq row.issuer issuer && bytes_eq row.assertion assertion && visible row.assertion_until now horizon) opened

-- the live session of a token: the first one that is not closed and is visible
abbrev pub session_row : List OpenedRow → (token : List ℕ) (now horizon : ℕ) → Option OpenedRow
session_row opened token now horizon =
    find (λ row. bytes_eq row.token token && not row.closed && visible row.until now horizon) opened

-- the rows where the one at a place is closed
abbrev pub closed_at : List OpenedRow → (place : ℕ) → List OpenedRow
closed_at [] place = []
closed_at (row ∷ rows) zero = record row { closed = true } ∷ rows
closed_at (row ∷ rows) (suc n) = row ∷ closed_at rows n

-- the rows where the one at a place is confirmed
abbrev pub confirmed_at : List LeftRow → (place : ℕ) → List LeftRow
confirmed_at [] place = []
confirmed_at (row ∷ rows) zero = record row { confirmed = true } ∷ rows
confirmed_at (row ∷ rows) (suc n) = row ∷ confirmed_at rows n
