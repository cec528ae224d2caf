-- Sessions that were closed are over behind starts, also where nothing is said of the records at first: what is opened
-- holds records of a ledger.
use Rattle.std.proofs.Common.{ℕ, Bool, List, [], ◌∷◌, refl, arith}
use Rattle.record_ledger.specs.Laws.{ImagesHoldRecords}
use Rattle.record_ledger.specs.Ledger.{Held}
use Rattle.record_ledger.specs.Rules.{AreRecords, RecordRules}
use Rattle.provider_node.specs.Starts.{AreOverBehind, AreStarts, Start, StayClosedOverStarts, told_before}
use Rattle.provider_node.specs.Step.{AnswersBy, Provider}
use Rattle.provider_node.proofs.Histories.{an_image}
use Rattle.provider_node.proofs.Opened.{opened_records}

module _ {Setup R : Type 0} (rules : RecordRules R) (Answers : AnswersBy Setup R) (hold : ImagesHoldRecords rules) where
  -- the ledger from which the first of some starts began
  first_records : (start : Held R) (one : Start (Provider Setup R)) (earlier : List (Start (Provider Setup R)))
      → AreStarts rules Answers start (one ∷ earlier) → AreRecords rules start.records
  first_records start one [] (next, none) =
      let (image, left) = an_image (told_before one) next.tells next.reads in
      opened_records rules hold image start (next.left image left)
  first_records start one (before ∷ earlier) (next, are) = first_records start before earlier are

  pub over_behind : (IsClosed : Held R → List ℕ → Type 0) (closes : List ℕ → R → Bool)
      (IsOver : Held R → List ℕ → Type 0) → StayClosedOverStarts rules Answers IsClosed closes IsOver → (start : Held R)
      (starts : List (Start (Provider Setup R))) → AreStarts rules Answers start starts
      → AreOverBehind rules Answers IsClosed closes IsOver start starts
  over_behind IsClosed closes IsOver law start [] begun = record {
    at_first = λ token closed image held left is.
        (law start [] (opened_records rules hold image start left) tt).at_first token closed image held left is;
    records = [];
    are = refl;
    since = λ r token there. absurd (omega (arith, there.1));
  }
  over_behind IsClosed closes IsOver law start (one ∷ earlier) begun =
      law start (one ∷ earlier) (first_records start one earlier begun) begun
