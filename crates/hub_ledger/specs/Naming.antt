-- Which record names which, and which has a visible row.
use Rattle.std.specs.Prelude.{ℕ, Bool, false, ◌||◌, List}
use Rattle.std.specs.Str.{bytes_eq}
use Rattle.ledger_records.specs.declared.hub_record.HubRecord.{HubRecord}
use Rattle.ledger_records.specs.declared.hub_record.HubRecord.TheVariants as kinds
use Rattle.request_rows.specs.Rows.{visible}

-- whether a row of a record is visible: the request, the login that was passed on or the assertion from above
abbrev pub has_visible : (now horizon : ℕ) → HubRecord → Bool
has_visible now horizon (kinds.Routed r) = visible r.until now horizon
has_visible now horizon (kinds.Backed r) = visible r.until now horizon || visible r.assertion_until now horizon
has_visible now horizon (kinds.Spoke r) = false

-- whether the first record names a row of the second
abbrev pub names_routed : List ℕ → HubRecord → Bool
names_routed request (kinds.Routed r) = bytes_eq r.request request
names_routed request other = false

abbrev pub names : HubRecord → HubRecord → Bool
names (kinds.Backed r) earlier = names_routed r.request earlier
names other earlier = false
