-- How a compaction finds which record names which.
use Rattle.std.specs.Prelude.{ℕ, ◌+◌, List, [], ◌∷◌, Option, None, Some}
use Rattle.ledger_records.specs.declared.idp_record.IdpRecord.{IdpRecord}
use Rattle.ledger_records.specs.declared.idp_record.IdpRecord.TheVariants as kinds
use Rattle.ledger_rules.specs.Numbers.{Drawn}
use Rattle.record_ledger.specs.Linking as any
use Rattle.std.specs.Option.{option_to_list}

-- the IDs of the rows whose records are linked to the one that names them
abbrev pub named : IdpRecord → List (List ℕ)
named (kinds.Issued r) = option_to_list r.pending
named (kinds.Ended r) = r.cookies
named (kinds.Left r) = r.cookie ∷ []
named (kinds.Confirmed r) = r.request ∷ []
named (kinds.Round r) = r.cookies
named (kinds.Told r) = r.request ∷ []
named other = []

-- the number and the ID by which a record's row is found, where it has one
abbrev pub session_found : Option (List ℕ) → ℕ → List ℕ → Option Drawn
session_found None first cookie = None
session_found (Some pending) first cookie = Some (record { number = first + 2; id = cookie })

abbrev pub next_found : ℕ → Option (List ℕ) → Option Drawn
next_found first None = None
next_found first (Some next) = Some (record { number = first; id = next })

abbrev pub row_found : IdpRecord → Option Drawn
row_found (kinds.Pending r) = Some (record { number = r.first; id = r.pending })
row_found (kinds.Issued r) = session_found r.pending r.first r.cookie
row_found (kinds.Left r) = Some (record { number = r.first; id = r.request })
row_found (kinds.Round r) = Some (record { number = r.first + 1; id = r.request })
row_found (kinds.Told r) = next_found r.first r.next
row_found other = None

-- An Issued in a session that the user had is itself linked to the record that began the session: its cookie.
abbrev pub where_none : Option (List ℕ) → List ℕ → Option (List ℕ)
where_none None cookie = Some cookie
where_none (Some pending) cookie = None

abbrev pub within : IdpRecord → Option (List ℕ)
within (kinds.Issued r) = where_none r.pending r.cookie
within other = None

abbrev pub idp_links : any.LinkRules IdpRecord
idp_links = record { row = row_found; named = named; within = within }
