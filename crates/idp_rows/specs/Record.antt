-- What a record of an identity provider draws and says, and whether it may come behind those that stand.
use Rattle.std.specs.Prelude.{ℕ, ◌+◌, ◌==◌, nat_le, Bool, true, ◌&&◌, ◌||◌, not, List, [], ◌∷◌, ◌++◌, Option, None, Some}
use Rattle.std.specs.List.{flat_map, list_all, list_any}
use Rattle.std.specs.Str.{bytes_eq}
use Rattle.logout_turns.specs.declared.part.Asker.{Asker}
use Rattle.logout_turns.specs.declared.turns.Turn.{Turn}
use Rattle.ledger_records.specs.declared.idp_round.Told.{Told}
use Rattle.ledger_records.specs.declared.idp_record.IdpRecord.{IdpRecord}
use Rattle.ledger_records.specs.declared.idp_record.IdpRecord.TheVariants as kinds
use Rattle.ledger_rules.specs.Numbers.{Drawn, are_fresh, is_xml_text}
use Rattle.round_rows.specs.declared.row.RoundRow.{RoundRow}
use Rattle.round_rows.specs.Rounds.{is_turn_left, waits_for}
use Rattle.idp_rows.specs.declared.row.PendingRow.{PendingRow}
use Rattle.idp_rows.specs.declared.row.SessionRow.{SessionRow}
use Rattle.idp_rows.specs.declared.row.LeftRow.{LeftRow}
use Rattle.idp_rows.specs.RowsOf.{IdpRows, if_pending}
use Rattle.std.specs.Option.{option_to_list}
pub use Rattle.ledger_rules.specs.Texts.{of_attribute}
pub use Rattle.ledger_rules.specs.Moments.{LAST}

-- whether there is a pending login of this ID that is not used
abbrev pub is_unused : List PendingRow → List ℕ → Bool
is_unused pendings pending = list_any (λ row. bytes_eq row.pending pending && not row.used) pendings

-- whether there is a session of this cookie that is not ended
abbrev pub is_unended : List SessionRow → List ℕ → Bool
is_unended sessions cookie = list_any (λ row. bytes_eq row.cookie cookie && not row.ended) sessions

-- whether there is a logout of this request that is not confirmed
abbrev pub is_waiting : List LeftRow → List ℕ → Bool
is_waiting lefts request = list_any (λ row. bytes_eq row.request request && not row.confirmed) lefts

-- an Issued names the login that was pending, or the session that the user had
abbrev pub is_issue_free : IdpRows → Option (List ℕ) → List ℕ → Bool
is_issue_free rows None cookie = is_unended rows.sessions cookie
is_issue_free rows (Some pending) cookie = is_unused rows.pendings pending

-- A Told has a next request exactly where a turn is left behind its answer. Without one 0 stands in the place of its number.
abbrev pub has_its_next : (left : Bool) → (first : ℕ) → (next : Option (List ℕ)) → Bool
has_its_next left first None = not left && first == 0
has_its_next left first (Some next) = left

-- whether a Told has its next request in a round, where this one waits for the request that it answers
abbrev pub fits_where_waiting : Told → RoundRow → Bool
fits_where_waiting r row = not (waits_for r.request row) || has_its_next (is_turn_left row) r.first r.next

-- a Told names the round that waits for the request that it answers
abbrev pub is_answer_free : List RoundRow → Told → Bool
is_answer_free rounds r = list_any (waits_for r.request) rounds && list_all (fits_where_waiting r) rounds

-- Each row that a record names is there, and is free for it: a login that is not used, a session that is not ended, a logout
-- that is not confirmed, a round that waits for that answer.
abbrev pub is_free : IdpRows → IdpRecord → Bool
is_free rows (kinds.Issued r) = is_issue_free rows r.pending r.cookie
is_free rows (kinds.Ended r) = list_all (is_unended rows.sessions) r.cookies
is_free rows (kinds.Left r) = is_unended rows.sessions r.cookie
is_free rows (kinds.Confirmed r) = is_waiting rows.lefts r.request
is_free rows (kinds.Round r) = list_all (is_unended rows.sessions) r.cookies
is_free rows (kinds.Told r) = is_answer_free rows.rounds r
is_free rows other = true

-- the next request that a Told draws, where it has one
abbrev pub next_drawn : (first : ℕ) → (next : Option (List ℕ)) → List Drawn
next_drawn first None = []
next_drawn first (Some next) = record { number = first; id = next } ∷ []

-- the IDs that a record draws
abbrev pub drawn : IdpRecord → List Drawn
drawn (kinds.Pending r) = record { number = r.first; id = r.pending } ∷ []
drawn (kinds.Issued r) =
    record { number = r.first; id = r.assertion } ∷ record { number = r.first + 1; id = r.message }
    ∷ if_pending r.pending (record { number = r.first + 2; id = r.cookie } ∷ record { number = r.first + 3; id = r.index } ∷ [])
drawn (kinds.Ended r) = record { number = r.first; id = r.message } ∷ []
drawn (kinds.Left r) = record { number = r.first; id = r.request } ∷ []
drawn (kinds.Confirmed r) = []
drawn (kinds.Spoke r) = record { number = r.first; id = r.message } ∷ []
drawn (kinds.Round r) = record { number = r.first; id = r.message } ∷ record { number = r.first + 1; id = r.request } ∷ []
drawn (kinds.Told r) = next_drawn r.first r.next

-- the entity that asks and the ID of its request, and what a turn tells to its provider
abbrev pub of_asker : Option Asker → List (List ℕ)
of_asker None = []
of_asker (Some asker) = asker.peer ∷ asker.request ∷ []

abbrev pub of_turn : Turn → List (List ℕ)
of_turn turn = turn.peer ∷ turn.name ∷ turn.indexes

-- the texts of a record but a relay state
abbrev pub texts : IdpRecord → List (List ℕ)
texts (kinds.Pending r) = r.pending ∷ r.request ∷ r.peer ∷ r.consumer ∷ []
texts (kinds.Issued r) =
    r.cookie ∷ r.index ∷ r.assertion ∷ r.message ∷ r.user ∷ r.peer ∷ r.consumer ∷ r.request
    ∷ option_to_list r.pending ++ flat_map of_attribute r.attributes
texts (kinds.Ended r) = r.message ∷ r.request ∷ r.peer ∷ r.cookies
texts (kinds.Left r) = r.cookie ∷ r.request ∷ r.peer ∷ []
texts (kinds.Confirmed r) = r.request ∷ []
texts (kinds.Spoke r) = r.message ∷ r.request ∷ r.peer ∷ []
texts (kinds.Round r) = r.message ∷ r.request ∷ of_asker r.asker ++ (flat_map of_turn r.turns ++ r.cookies)
texts (kinds.Told r) = r.request ∷ option_to_list r.next

-- when a record was made, and when the session of an Issued ends
abbrev pub moments : IdpRecord → List ℕ
moments (kinds.Pending r) = r.moment ∷ []
moments (kinds.Issued r) = r.moment ∷ r.session_end ∷ []
moments (kinds.Ended r) = r.moment ∷ []
moments (kinds.Left r) = r.moment ∷ []
moments (kinds.Confirmed r) = r.moment ∷ []
moments (kinds.Spoke r) = r.moment ∷ []
moments (kinds.Round r) = r.moment ∷ []
moments (kinds.Told r) = r.moment ∷ []

-- A record of the ledger where these are the rows, and this number is above all that were drawn: the rows that it names
-- are there and free, its numbers are greater than all before and below 2^63, each ID that it draws begins with its number,
-- a document may hold the characters of its texts, and it was made before the year 10000, as the session of an Issued ends.
abbrev pub is_next : IdpRows → ℕ → IdpRecord → Bool
is_next rows next r =
    is_free rows r && are_fresh next (drawn r) && list_all is_xml_text (texts r) && list_all (λ moment. nat_le moment LAST) (moments r)
