-- How a compaction finds which record names which.
use Rattle.std.specs.Prelude.{ℕ, List, [], ◌∷◌, Option, None, Some}
use Rattle.ledger_records.specs.declared.hub_record.HubRecord.{HubRecord}
use Rattle.ledger_records.specs.declared.hub_record.HubRecord.TheVariants as kinds
use Rattle.ledger_rules.specs.Numbers.{Drawn}
use Rattle.record_ledger.specs.Linking as any

-- the IDs of the rows that a record names
abbrev pub named : HubRecord → List (List ℕ)
named (kinds.Backed r) = r.request ∷ []
named other = []

-- the number and the ID by which a record's row is found, where it has one that is named
abbrev pub row_found : HubRecord → Option Drawn
row_found (kinds.Routed r) = Some (record { number = r.first; id = r.request })
row_found other = None

-- no record is itself linked to one that it names
abbrev pub hub_links : any.LinkRules HubRecord
hub_links = record { row = row_found; named = named; within = λ r. None }
