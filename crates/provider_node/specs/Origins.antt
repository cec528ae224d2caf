-- Of which request each record is that stands in a ledger behind starts.
use Rattle.std.specs.Prelude.{◌≡◌, ◌⊎◌, List, Contains, Option, Some, Ok}
use Rattle.crash_disk.specs.Disk.{Image}
use Rattle.serve_loop.specs.Turns.{Asked}
use Rattle.serve_loop.specs.Worlds.{World}
use Rattle.record_ledger.specs.Rules.{RecordRules}
use Rattle.record_ledger.specs.Ledger.{Held, ledger_in, taken}
use Rattle.provider_node.specs.Causes.{IsAddedOver}
use Rattle.provider_node.specs.Starts.{AreStarts, LeftBehind, Start, asked_over, last_of}
use Rattle.provider_node.specs.Step.{AnswersBy, Provider}

-- A request that a node was asked in these starts; or any in whose answer one of them may have been cut, of a node as
-- it was at the end of that start.
pub data WasAsked {N : Type 0} (starts : List (Start N)) (asked : Asked N) : Type 0 where
  Answered : Contains (asked_over starts) asked → WasAsked starts asked
  MayBeCut : (one : Start N) (last : World N) → Contains starts one → last_of one ≡ Some last → asked.node ≡ last.node
      → asked.disk ≡ last.disk → WasAsked starts asked

module _ {Setup R : Type 0} (rules : RecordRules R) (Answers : AnswersBy Setup R) (start : Held R)
    (starts : List (Start (Provider Setup R))) where
  -- A record stood in the ledger at first, or a request of the starts adds it, with some answer, be it one that was
  -- never sent: over the ledger that this request finds, or over what its one compaction makes of this.
  abbrev pub HasItsRequest : R → Type 0
  HasItsRequest r = Contains start.records r ⊎ ((asked : Asked (Provider Setup R)) × WasAsked starts asked
      × IsAddedOver rules Answers asked.node asked.disk asked.request asked.now r)

  -- So it is of each record in each ledger that may be opened behind the starts, wherever a crash stopped them.
  abbrev pub RecordsHaveTheirRequests : Type 0
  RecordsHaveTheirRequests = (image : Image) (held : Held R) (r : R) → LeftBehind rules Answers start starts image
      → taken (ledger_in rules image) ≡ Ok held → Contains held.records r → HasItsRequest r

-- and so it is over whatever starts
abbrev pub EachRecordHasItsRequest : {Setup R : Type 0} → RecordRules R → AnswersBy Setup R → Type 0
EachRecordHasItsRequest {Setup} {R} rules Answers = (start : Held R) (starts : List (Start (Provider Setup R)))
    → AreStarts rules Answers start starts → RecordsHaveTheirRequests rules Answers start starts
