-- What becomes of a logout at which each other provider is asked in turn: whom it asks, and what it tells in the end.
use Rattle.std.specs.Prelude.{◌≡◌, ℕ, not, List, [], ◌∷◌, ◌++◌, length, Contains, None, Some, slice_get}
use Rattle.ledger_records.specs.declared.idp_round.Round.{Round}
use Rattle.ledger_records.specs.declared.idp_round.Told.{Told}
use Rattle.ledger_records.specs.declared.idp_record.IdpRecord.{IdpRecord}
use Rattle.ledger_records.specs.declared.idp_record.IdpRecord.TheVariants as kinds
use Rattle.logout_turns.specs.declared.turns.Turn.{Turn}
use Rattle.http_wire.specs.declared.answer.Answer.TheVariants.{Full}
use Rattle.http_wire.specs.Requests.{Request}
use Rattle.idp_ledger.specs.Ledger.{Held}
use Rattle.idp_ledger.specs.Record.{AreRecords}
use Rattle.idp_rows.specs.RoundsOf.{answers, confirmed_all}
use Rattle.idp_rules.specs.declared.config.IdpConfig.{IdpConfig}
use Rattle.idp_server.specs.Messages.{AsksFirst, IsRequestTo, IsRoundEnd}
use Rattle.idp_server.specs.Step.{Answers}

-- Records of a ledger in which a round began; what came later, with one answer more, which is one of that round.
pub record InRound (records : List IdpRecord) (r : Told) : Type 0 where
  pub before : List IdpRecord
  pub begun : Round
  pub later : List IdpRecord
  pub are : records ≡ before ++ kinds.Round begun ∷ later
  pub of : Contains (answers begun (later ++ kinds.Told r ∷ [])) r

abbrev pub with_answer : {records : List IdpRecord} {r : Told} → InRound records r → List IdpRecord
with_answer {records} {r} round = round.later ++ kinds.Told r ∷ []

-- The answer that stands for the answer of a provider in its turn. Behind so many answers the provider of the turn at
-- that place, counted from 0, is asked, which nobody was before: nothing is told of the outcome, but that it is partial
-- where the provider can't be asked any more. Where no turn is left the round ends: with Success (SAML Core, 3.2.2.2)
-- exactly where none was skipped, as many providers answered as there are turns, and each confirmed; else it is told to
-- be partial.
pub data IsOutcome (setup : IdpConfig) (held : Held) (r : Told) (now : ℕ) (bytes : List ℕ) : Type 0 where
  GoesOn : (round : InRound held.records r) (turn : Turn) (id : List ℕ)
      → slice_get round.begun.turns (length (answers round.begun (with_answer round))) ≡ Some turn → r.next ≡ Some id
      → IsRequestTo setup turn.peer id turn.name turn.indexes now bytes → IsOutcome setup held r now bytes
  Ends : (round : InRound held.records r) → r.next ≡ None
      → IsRoundEnd setup round.begun.message round.begun.asker (not (confirmed_all round.begun (with_answer round))) now
      bytes
      → IsOutcome setup held r now bytes

-- So it is with each answer of a round: with the one that begins it, which asks the provider of the first turn, and
-- with those to the answers that come.
abbrev pub RoundsEndAsConfirmed : Type 0
RoundsEndAsConfirmed =
    (setup : IdpConfig) (held : Held) (request : Request) (now : ℕ) (bytes : List ℕ) (r : Told)
    → AreRecords held.records
    → Answers setup held request now (Full bytes) (Some (kinds.Told r)) → IsOutcome setup held r now bytes

abbrev pub RoundsBeginWithTheFirst : Type 0
RoundsBeginWithTheFirst =
    (setup : IdpConfig) (held : Held) (request : Request) (now : ℕ) (bytes : List ℕ) (r : Round)
    → Answers setup held request now (Full bytes) (Some (kinds.Round r)) → AsksFirst setup r now bytes
