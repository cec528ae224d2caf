-- The IDs of a record that go out, and what it says.
use Rattle.std.specs.Prelude.{ℕ, Bool, List, Option, None, Some}
use Rattle.ledger_records.specs.declared.idp_record.Issued.{Issued}
use Rattle.ledger_records.specs.declared.idp_record.IdpRecord.{IdpRecord}
use Rattle.ledger_records.specs.declared.idp_record.IdpRecord.TheVariants as kinds

-- the ID that goes out first: of a login that is pending, of an answer, or of a request, that of a Told where it has one
abbrev pub first_id : IdpRecord → Option (List ℕ)
first_id (kinds.Pending r) = Some r.pending
first_id (kinds.Issued r) = Some r.message
first_id (kinds.Ended r) = Some r.message
first_id (kinds.Left r) = Some r.request
first_id (kinds.Confirmed r) = None
first_id (kinds.Spoke r) = Some r.message
first_id (kinds.Round r) = Some r.request
first_id (kinds.Told r) = r.next

-- the cookie that an Issued draws where a login was pending
abbrev pub drawn_cookie : Option (List ℕ) → List ℕ → Option (List ℕ)
drawn_cookie None cookie = None
drawn_cookie (Some pending) cookie = Some cookie

abbrev pub second_id : IdpRecord → Option (List ℕ)
second_id (kinds.Issued r) = drawn_cookie r.pending r.cookie
second_id (kinds.Round r) = Some r.message
second_id other = None

-- the Issued that a record is
abbrev pub issued_in : IdpRecord → Option Issued
issued_in (kinds.Issued r) = Some r
issued_in other = None

-- the peer to which a Left goes
abbrev pub peer_in : IdpRecord → Option (List ℕ)
peer_in (kinds.Left r) = Some r.peer
peer_in other = None

-- whether an Ended is partial
abbrev pub partial_in : IdpRecord → Option Bool
partial_in (kinds.Ended r) = Some r.partial
partial_in other = None
