-- The rounds of an identity provider, from its records: a round for each Round, with the answers that came to it.
-- SAML Profiles, 4.4.3.3: the identity provider asks "each session participant", and 4.4.3.4: each "MUST respond".
use Rattle.std.specs.Prelude.{Bool, not, ◌&&◌, ◌==◌, List, [], ◌∷◌, ◌++◌, length, if◌then◌else◌}
use Rattle.std.specs.List.{list_all}
use Rattle.ledger_records.specs.declared.idp_round.Round.{Round}
use Rattle.ledger_records.specs.declared.idp_round.Told.{Told}
use Rattle.ledger_records.specs.declared.idp_record.IdpRecord.{IdpRecord}
use Rattle.ledger_records.specs.declared.idp_record.IdpRecord.TheVariants as kinds
use Rattle.round_rows.specs.declared.row.RoundRow.{RoundRow}
use Rattle.round_rows.specs.Rounds.{waits_for, answered_if}

-- a round at first: it has the fields of its record, and no answer came
abbrev pub round_row : Round → RoundRow
round_row r = record {
  request = r.request;
  message = r.message;
  asker = r.asker;
  turns = r.turns;
  skipped = r.skipped;
  told = 0;
  confirmed = 0;
  until = r.until;
}

-- a round behind one record more: a Told changes it where the round waits for the request that it answers
abbrev pub round_after : RoundRow → IdpRecord → RoundRow
round_after row (kinds.Told r) = answered_if (waits_for r.request row) r.confirmed r.next row
round_after row other = row

-- a round behind these records
abbrev pub round_behind : RoundRow → List IdpRecord → RoundRow
round_behind row [] = row
round_behind row (r ∷ later) = round_behind (round_after row r) later

-- a round for each Round, behind the later records
abbrev pub round_rows : List IdpRecord → List RoundRow
round_rows [] = []
round_rows (kinds.Round r ∷ later) = round_behind (round_row r) later ∷ round_rows later
round_rows (other ∷ later) = round_rows later

-- The answers to a round among later records: each Told that answers the request for which the round waits then.
abbrev pub answer_in : RoundRow → IdpRecord → List Told
answer_in row (kinds.Told r) = if waits_for r.request row then r ∷ [] else []
answer_in row other = []

abbrev pub answers_after : RoundRow → List IdpRecord → List Told
answers_after row [] = []
answers_after row (r ∷ later) = answer_in row r ++ answers_after (round_after row r) later

abbrev pub answers : Round → (later : List IdpRecord) → List Told
answers r later = answers_after (round_row r) later

-- SAML Core, 3.2.2.2, Success: all took part in the logout. No provider was skipped, as many answered as there are turns, and
-- each of them confirmed.
abbrev pub confirmed_all : Round → (later : List IdpRecord) → Bool
confirmed_all r later =
    not r.skipped && (length (answers r later) == length r.turns) && list_all (λ (t : Told). t.confirmed) (answers r later)

-- the same by what is counted in a row
abbrev pub is_confirmed : RoundRow → Bool
is_confirmed row = not row.skipped && (row.told == length row.turns) && (row.confirmed == length row.turns)
