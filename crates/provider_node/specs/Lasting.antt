-- That what the answers of a service acknowledged is kept from then on, also inside later answers.
use Rattle.std.specs.Prelude.{◌≡◌, ℕ, List, [], ◌∷◌, Contains}
use Rattle.crash_disk.specs.Disk.{Image}
use Rattle.conn_table.specs.Table.{Table}
use Rattle.serve_loop.specs.Turns.{Turn, Run, asked_by}
use Rattle.serve_loop.specs.Worlds.{World}
use Rattle.record_ledger.specs.Rules.{RecordRules}
use Rattle.provider_node.specs.Step.{AnswersBy, Provider}
use Rattle.provider_node.specs.Histories.{AreBehind, HoldsWhatCame, IsProviders, moments_of}

-- `left` says of a moment, seen from the end of a service, what a crash since then might have left, and `IsMoment` when
-- it may have compacted.
module _ {Setup R : Type 0} (rules : RecordRules R) (Answers : AnswersBy Setup R)
    (IsMoment : ℕ → Type 0) (left : ℕ → Image → Type 0) (first : World (Provider Setup R)) where
  -- Each image that a crash since a moment might have left stands for a ledger in whose history these records are.
  abbrev pub AreInEachSince : ℕ → List R → Type 0
  AreInEachSince moment records =
      (image : Image) → left moment image → HoldsWhatCame rules IsMoment first.node.ledger.held records image

  -- These are the records for which the answers of some turns stand, the latest first. They are in each image that a
  -- crash since the point behind these turns might have left, at whatever moment; and so are, since each point before,
  -- those that were acknowledged up to there.
  abbrev pub StayIn : (turns : List (Turn (Provider Setup R))) (kept : Table) (now : World (Provider Setup R))
      → Run (IsProviders rules Answers) first turns kept now → List R → Type 0
  StayIn [] kept now run records = (records ≡ []) × AreInEachSince now.moment records
  StayIn (turn ∷ past) kept now (old, before, given, did, next, does) records = (earlier : List R)
      × AreBehind rules Answers (asked_by turn) earlier records × AreInEachSince now.moment records
      × StayIn past old before did earlier

module _ {Setup R : Type 0} (rules : RecordRules R) (Answers : AnswersBy Setup R)
    (left : ℕ → Image → Type 0) (first : World (Provider Setup R)) (turns : List (Turn (Provider Setup R)))
    (kept : Table) (last : World (Provider Setup R)) (run : Run (IsProviders rules Answers) first turns kept last) where
  -- From each point of a service on what was acknowledged up to there stays, over compactions at the moments of its
  -- requests.
  abbrev pub AreKeptSince : Type 0
  AreKeptSince =
      (records : List R) × StayIn rules Answers (Contains (moments_of turns)) left first turns kept last run records
