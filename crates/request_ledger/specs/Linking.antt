-- How a compaction finds which record names which.
use Rattle.std.specs.Prelude.{ℕ, List, [], ◌∷◌, Option, None, Some}
use Rattle.ledger_records.specs.declared.sp_record.SpRecord.{SpRecord}
use Rattle.ledger_records.specs.declared.sp_record.SpRecord.TheVariants as kinds
use Rattle.ledger_rules.specs.Numbers.{Drawn}
use Rattle.record_ledger.specs.Linking as any

-- the IDs of the rows that a record names
abbrev pub named : SpRecord → List (List ℕ)
named (kinds.Asked r) = []
named (kinds.Opened r) = r.request ∷ []
named (kinds.Left r) = r.token ∷ []
named (kinds.Ended r) = r.tokens
named (kinds.Confirmed r) = r.request ∷ []

-- the number and the ID by which a record's row is found, where it has one
abbrev pub row_found : SpRecord → Option Drawn
row_found (kinds.Asked r) = Some (record { number = r.first; id = r.request })
row_found (kinds.Opened r) = Some (record { number = r.first; id = r.token })
row_found (kinds.Left r) = Some (record { number = r.first; id = r.request })
row_found other = None

-- no record is itself linked to one that it names
abbrev pub request_links : any.LinkRules SpRecord
request_links = record { row = row_found; named = named; within = λ r. None }
