-- The laws of serving.
use Rattle.std.specs.Prelude.{◌≡◌, ℕ, ◌<◌, ◌≤◌, min, List, [], ◌∷◌, length, map, flat_map, slice_index, Some, IsSome, IfSome}
use Rattle.saml_time.specs.declared.TheConstants.{LAST}
use Rattle.crash_disk.specs.Disk.{MayLeave, image_of}
use Rattle.event_link.specs.Clocks.{moment_at}
use Rattle.http_wire.specs.Requests.{Request, Reading, Whole, More, Refused}
use Rattle.conn_table.specs.Events.{Completion, AreCompletions}
use Rattle.conn_table.specs.Table.{Table}
use Rattle.serve_loop.specs.Worlds.{NodeStep, NodeRules, World, IsAnswered}
use Rattle.serve_loop.specs.Turns.{Turn, history_of, asked_in, AreTold, NoneFailed, Run}

-- the request of a connection that was completed by a whole one
abbrev pub whole_of : ℕ → Reading → List (ℕ × Request)
whole_of conn (Whole request) = (conn, request) ∷ []
whole_of conn More = []
whole_of conn (Refused status) = []

-- the whole requests among what was completed, in order, each with its connection
abbrev pub whole_requests : List Completion → List (ℕ × Request)
whole_requests done = flat_map (λ completion. whole_of completion.conn completion.reading) done

module _ {N : Type 0} (step : NodeStep N) where
  -- The requests that the node was asked are, in order, the whole ones that the events complete.
  abbrev pub RequestsAreCompletions : Type 0
  RequestsAreCompletions = (first : World N) (turns : List (Turn N)) (kept : Table) (now : World N)
      → Run step first turns kept now → (done : List Completion) × AreCompletions (history_of turns) done
      × (map (λ asked. (asked.conn, asked.request)) (asked_in turns) ≡ whole_requests done)

  -- Each was asked at the next moment of the clock, at most LAST.
  abbrev pub MomentsComeInOrder : Type 0
  MomentsComeInOrder = (first : World N) (turns : List (Turn N)) (kept : Table) (now : World N) (moments : List ℕ)
      → Run step first turns kept now → first.clock ≡ Some moments → (k : ℕ) → k < length (asked_in turns)
      → slice_index (map (λ asked. asked.now) (asked_in turns)) k ≡ min (moment_at moments k) LAST

  -- Where no request of a run was answered by the page of 50, the disk's count of faults is as it was: it rises only at
  -- requests that are answered so.
  abbrev pub FaultsAreAnswered : Type 0
  FaultsAreAnswered = (first : World N) (turns : List (Turn N)) (kept : Table) (last : World N)
      → Run step first turns kept last → NoneFailed turns → last.disk_faults ≡ first.disk_faults

  -- The disk's count of faults never falls in a run: one that did not rise in all rose at no request.
  abbrev pub FaultsNeverFall : Type 0
  FaultsNeverFall = (first : World N) (turns : List (Turn N)) (kept : Table) (last : World N)
      → Run step first turns kept last → first.disk_faults ≤ last.disk_faults

module _ {N : Type 0} (rules : NodeRules N) where
  -- A disk that tells at first tells whenever a request comes, and at the end.
  abbrev pub ADiskThatTellsGoesOnTelling : Type 0
  ADiskThatTellsGoesOnTelling = (first : World N) (turns : List (Turn N)) (kept : Table) (last : World N)
      → Run (IsAnswered rules) first turns kept last → IsSome first.disk → AreTold turns × IsSome last.disk

  -- Where a disk reads at first as an image that it may leave, as far as it tells, it does so at the end.
  abbrev pub ADiskGoesOnReadingAnImage : Type 0
  ADiskGoesOnReadingAnImage = (first : World N) (turns : List (Turn N)) (kept : Table) (last : World N)
      → Run (IsAnswered rules) first turns kept last
      → IfSome first.disk (λ d. MayLeave d (image_of d)) → IfSome last.disk (λ d. MayLeave d (image_of d))
