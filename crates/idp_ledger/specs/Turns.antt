-- What is said of rounds in the records of a ledger.
use Rattle.std.specs.Prelude.{◌≡◌, ◌≢◌, ℕ, ◌+◌, ◌≤◌, nat_lt, true, List, [], ◌∷◌, ◌++◌, length, Some, slice_get}
use Rattle.std.specs.List.{flat_map, list_all}
use Rattle.std.specs.Option.{is_some, option_to_list}
use Rattle.ledger_records.specs.declared.idp_round.Round.{Round}
use Rattle.ledger_records.specs.declared.idp_round.Told.{Told}
use Rattle.ledger_records.specs.declared.idp_record.IdpRecord.{IdpRecord}
use Rattle.ledger_records.specs.declared.idp_record.IdpRecord.TheVariants as kinds
use Rattle.ledger_rules.specs.Numbers.{is_xml_text}
use Rattle.round_rows.specs.declared.row.RoundRow.{RoundRow}
use Rattle.idp_rows.specs.RoundsOf.{answers}
use Rattle.idp_ledger.specs.Record.{AreRecords}
use Rattle.idp_rows.specs.Record.{of_asker, of_turn}

-- a document may hold the texts of a round but a relay state, its message has an ID, and no more answers confirm than came
pub record AreRoundTexts (row : RoundRow) : Type 0 where
  pub message : is_xml_text row.message ≡ true
  pub named : row.message ≢ []
  pub asker : list_all is_xml_text (of_asker row.asker) ≡ true
  pub turns : list_all is_xml_text (flat_map of_turn row.turns) ≡ true
  pub counted : row.confirmed ≤ row.told

-- The requests of a round, in the order in which they are made: the first one, and the one behind each answer, where there is one.
abbrev pub requests : Round → (later : List IdpRecord) → List (List ℕ)
requests r later = r.request ∷ flat_map (λ (t : Told). option_to_list t.next) (answers r later)

-- The answer at each place is one to the request at that place, and a request more follows it exactly where a turn is left: so the
-- request at a place is that to the provider of the turn at that place, and none is asked twice.
pub record AsksInTurn (r : Round) (later : List IdpRecord) : Type 0 where
  pub answers_it : (k : ℕ) (t : Told) → slice_get (answers r later) k ≡ Some t → slice_get (requests r later) k ≡ Some t.request
  pub goes_on : (k : ℕ) (t : Told) → slice_get (answers r later) k ≡ Some t → is_some t.next ≡ nat_lt (k + 1) (length r.turns)

-- So it is with each round among the records of a ledger.
abbrev pub RoundsAskInTurn : Type 0
RoundsAskInTurn =
    (before later : List IdpRecord) (r : Round) → AreRecords (before ++ kinds.Round r ∷ later) → AsksInTurn r later
