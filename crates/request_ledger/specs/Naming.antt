-- Which record names which, and which has a visible row.
use Rattle.std.specs.Prelude.{ℕ, Bool, false, ◌||◌, List, [], ◌∷◌}
use Rattle.std.specs.Str.{bytes_eq}
use Rattle.ledger_records.specs.declared.sp_record.SpRecord.{SpRecord}
use Rattle.ledger_records.specs.declared.sp_record.SpRecord.TheVariants as kinds
use Rattle.request_rows.specs.Rows.{visible}
use Rattle.request_ledger.specs.RowsOf.{is_among}

-- whether a row of a record is visible: the request, the session or its assertion, the logout
abbrev pub has_visible : (now horizon : ℕ) → SpRecord → Bool
has_visible now horizon (kinds.Asked r) = visible r.until now horizon
has_visible now horizon (kinds.Opened r) = visible r.until now horizon || visible r.assertion_until now horizon
has_visible now horizon (kinds.Left r) = visible r.until now horizon
has_visible now horizon other = false

-- whether the first record names a row of the second
abbrev pub names_asked : List ℕ → SpRecord → Bool
names_asked request (kinds.Asked r) = bytes_eq r.request request
names_asked request other = false

abbrev pub names_opened : List (List ℕ) → SpRecord → Bool
names_opened tokens (kinds.Opened r) = is_among r.token tokens
names_opened tokens other = false

abbrev pub names_left : List ℕ → SpRecord → Bool
names_left request (kinds.Left r) = bytes_eq r.request request
names_left request other = false

abbrev pub names : SpRecord → SpRecord → Bool
names (kinds.Asked r) earlier = false
names (kinds.Opened r) earlier = names_asked r.request earlier
names (kinds.Left r) earlier = names_opened (r.token ∷ []) earlier
names (kinds.Ended r) earlier = names_opened r.tokens earlier
names (kinds.Confirmed r) earlier = names_left r.request earlier
