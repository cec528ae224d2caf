-- What a ledger's rows say may stand in a document.
use Rattle.std.specs.Prelude.{Option, None, Some}
use Rattle.std.proofs.Common.{◌≡◌, true, ◌&&◌, List, [], ◌∷◌, sym, ◌∙◌}
use Rattle.std.specs.List.{AllByRecursion, flat_map, list_all}
use Rattle.std.proofs.lemmas.Bool.{and_parts}
use Rattle.std.proofs.lemmas.List.Folds.{list_all-append}
use Rattle.ledger_rules.specs.Numbers.{is_xml_text}
use Rattle.logout_turns.specs.declared.part.Asker.{Asker}
use Rattle.logout_turns.specs.declared.turns.Turn.{Turn}
use Rattle.round_rows.specs.declared.row.RoundRow.{RoundRow}
use Rattle.idp_rows.specs.declared.row.PendingRow.{PendingRow}
use Rattle.idp_rows.specs.declared.row.SessionRow.{SessionRow}
use Rattle.idp_ledger.specs.Drafts.{AreXmlTurns, IsXmlAsker}
use Rattle.idp_rows.specs.Record.{of_turn}
use Rattle.idp_ledger.specs.Turns.{AreRoundTexts}
use Rattle.idp_ledger.proofs.RowTexts.{SessionTexts}
use Rattle.idp_answers.specs.Stating.{AllowedAttributesMayStand, AllowedTextsMayStand}
use Rattle.idp_server.specs.Replies.{IsTextAsker, IsTextPending, IsTextRound, IsTextSession, IsTextTurn}
use Rattle.idp_server.proofs.Fields.{HasXml}

module _ (law : AllowedTextsMayStand) where
  pub session_stands : AllowedAttributesMayStand → (row : SessionRow) → SessionTexts row → IsTextSession row
  session_stands attributes row texts = record {
    index = (law (row.index ∷ []) (λ i. texts.index i && true)).0;
    user = (law (row.user ∷ []) (λ i. texts.user i && true)).0;
    attributes = attributes row.attributes texts.attributes;
    until = texts.until;
  }

  pub pending_stands : (row : PendingRow) → HasXml row → IsTextPending row
  pending_stands row texts = record {
    request = (law (row.request ∷ []) (λ i. texts.request i && true)).0;
    peer = (law (row.peer ∷ []) (λ i. texts.peer i && true)).0;
    consumer = (law (row.consumer ∷ []) (λ i. texts.consumer i && true)).0;
  }

  turn_stands : (turn : Turn) → list_all is_xml_text (of_turn turn) ≡ true → IsTextTurn turn
  turn_stands turn all =
      let texts = law (of_turn turn) all in
      record { peer = texts.0; name = texts.1.0; indexes = texts.1.1 }

  pub turns_stand : (turns : List Turn) → AreXmlTurns turns → AllByRecursion IsTextTurn turns
  turns_stand [] all = tt
  turns_stand (turn ∷ turns) all =
      let both = and_parts (list_all is_xml_text (of_turn turn)) (list_all is_xml_text (flat_map of_turn turns))
      (sym (list_all-append is_xml_text (of_turn turn) (flat_map of_turn turns)) ∙ all) in
      (turn_stands turn both.0, turns_stand turns both.1)

  asker_stands : (asker : Option Asker) → IsXmlAsker asker → IsTextAsker asker
  asker_stands None all = tt
  asker_stands (Some asker) all =
      let texts = law (asker.peer ∷ asker.request ∷ []) all in
      (texts.0, texts.1.0)

  pub round_stands : (row : RoundRow) → AreRoundTexts row → IsTextRound row
  round_stands row texts = record {
    message = (law (row.message ∷ []) (λ i. texts.message i && true)).0;
    named = texts.named;
    asker = asker_stands row.asker texts.asker;
    turns = turns_stand row.turns texts.turns;
  }
