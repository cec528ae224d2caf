-- Starts whose requests were asked at some moments are starts, at whatever moments.
use Rattle.std.proofs.Common.{ℕ, List, [], ◌∷◌}
use Rattle.crash_disk.specs.Disk.{Image}
use Rattle.serve_loop.specs.Worlds.{World}
use Rattle.record_ledger.specs.Ledger.{Held}
use Rattle.record_ledger.specs.Rules.{RecordRules}
use Rattle.provider_node.specs.Histories.{AnyMoment}
use Rattle.provider_node.specs.Starts.{AreStarts, AreStartsAt, Behind, Cut, Goes, GoesAt, InAnswer, InCompaction}
use Rattle.provider_node.specs.Starts.{LeftBehind, LeftBehindAt, LeftFromAt, Served, Start, Unopened}
use Rattle.provider_node.specs.Step.{AnswersBy, Provider}

module _ {Setup R : Type 0} (rules : RecordRules R) (Answers : AnswersBy Setup R) (IsMoment : ℕ → Type 0) where
  left_from_any : (last : World (Provider Setup R)) (image : Image) → LeftFromAt rules Answers IsMoment last image
      → LeftFromAt rules Answers AnyMoment last image
  left_from_any last image (Behind left) = Behind left
  left_from_any last image (InAnswer request now moment left) = InAnswer request now tt left
  left_from_any last image (InCompaction now moment left) = InCompaction now tt left

  goes_any : (one : Start (Provider Setup R)) → GoesAt rules Answers IsMoment one → Goes rules Answers one
  goes_any (Cut before) goes = tt
  goes_any (Served before first turns kept last) goes = (goes.0, λ now there. tt)
  goes_any (Unopened first turns kept last) goes = (goes.0, λ now there. tt)

  module _ (start : Held R) where
    pub left_at_any : (starts : List (Start (Provider Setup R))) (image : Image)
        → LeftBehindAt rules Answers IsMoment start starts image → LeftBehind rules Answers start starts image
    left_at_any [] image left = left
    left_at_any (Cut before ∷ earlier) image left = left
    left_at_any (Served before first turns kept last ∷ earlier) image left = left_from_any last image left
    left_at_any (Unopened first turns kept last ∷ earlier) image left = left_from_any last image left

    pub at_any : (starts : List (Start (Provider Setup R))) → AreStartsAt rules Answers IsMoment start starts
        → AreStarts rules Answers start starts
    at_any [] are = tt
    at_any (one ∷ earlier) (next, before) = (
      record {
        tells = next.tells;
        reads = next.reads;
        left = λ image left. left_at_any earlier image (next.left image left);
        goes = goes_any one next.goes;
      },
      at_any earlier before,
    )
