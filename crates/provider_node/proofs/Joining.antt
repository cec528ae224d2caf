-- That runs that were stopped join.
use Rattle.std.specs.Prelude.{Contains, IfSome, IsSome, map, Option, Some}
use Rattle.std.proofs.Common.{◌≡◌, ◌∙◌, ◌⊎◌, ⊎_elim, inl, inr, ℕ, List, [], ◌∷◌, ◌++◌, sym, subst, refl, ap, arith}
use Rattle.std.proofs.lemmas.List.Elements.{Contains-append_cases, Contains-append_right}
use Rattle.crash_disk.specs.Disk.{Image, DiskState, MayLeave, image_of, settled_image}
use Rattle.crash_disk.specs.Moments.{Leaves}
use Rattle.crash_disk.specs.Soundness.{only-settled_image}
use Rattle.conn_table.specs.Table.{Table}
use Rattle.http_wire.specs.Requests.{Request}
use Rattle.serve_loop.specs.Turns.{Run, Turn, asked_by, asked_in}
use Rattle.serve_loop.specs.Worlds.{NodeLeaves, World}
use Rattle.serve_loop.proofs.InOrder.{inside_turn}
use Rattle.record_ledger.specs.Rules.{RecordRules}
use Rattle.record_ledger.specs.Ledger.{Held, LeftByOpening}
use Rattle.provider_node.specs.Step.{AnswersBy, Provider, StepLeaves}
use Rattle.provider_node.specs.Histories.{IsProviders, moments_of}
use Rattle.provider_node.specs.Joining.{BehindTurns, EachDiskGoesOn, GoesOn, InOpening, InServing, IsCutAt, IsInside}
use Rattle.provider_node.specs.Joining.{IsStoppedAt, LeavesBut}
use Rattle.provider_node.specs.Starts.{AreStartsAt, Behind, Cut, GoesAt, InAnswer, IsNextAt, IsServed, LeftByAt}
use Rattle.provider_node.specs.Starts.{Served, Start, told_before}
use Rattle.provider_node.proofs.Histories.{AreMoments, moment_at, moments_are}

-- a disk that was synced as an image
pub settled_reads : (image : Image) → MayLeave (settled_image image) image
settled_reads image = record {
  zero = record { no_shorter = omega arith; no_longer = omega arith; elsewhere = λ i below outside. refl };
  one = record { no_shorter = omega arith; no_longer = omega arith; elsewhere = λ i below outside. refl };
}

-- and leaves nothing else
pub settled_leaves : (image : Image) (IsSuch : Image → Type 0) → IsSuch image → LeavesBut (settled_image image) IsSuch
settled_leaves image IsSuch such other may = subst IsSuch (sym (only-settled_image image other may)) such

-- the moments of the turns that were done first are among those of all
moments_in : {N : Type 0} (later past : List (Turn N)) (now : ℕ) → Contains (moments_of past) now
    → Contains (moments_of (later ++ past)) now
moments_in [] past now there = there
moments_in (turn ∷ later) past now there =
    Contains-append_right (map (λ one. one.now) (asked_by turn)) (moments_of (later ++ past)) now
    (moments_in later past now there)

none_among : {N : Type 0} (turns later past : List (Turn N)) (turn : Turn N) → turns ≡ []
    → turns ≡ later ++ turn ∷ past → ⊥
none_among turns [] past turn bare are = let both = sym bare ∙ are in cc
none_among turns (other ∷ later) past turn bare are = let both = sym bare ∙ are in cc

module _ {Setup R : Type 0} (rules : RecordRules R) (Answers : AnswersBy Setup R) where
  -- the turns that were done first, as a run
  cut_behind : (first last : World (Provider Setup R)) (later past : List (Turn (Provider Setup R))) (kept : Table)
      → Run (IsProviders rules Answers) first (later ++ past) kept last
      → (mid : Table) × (world : World (Provider Setup R))
      × Run (IsProviders rules Answers) first past mid world
  cut_behind first last [] past kept run = (kept, last, run)
  cut_behind first last (turn ∷ later) past kept (old, before, given, did, next, does) =
      cut_behind first before later past old did

  -- a disk that is left inside the answer to one of the requests of turns is left inside that of one turn
  stopped_in : (disk : DiskState) (turns : List (Turn (Provider Setup R)))
      → IsInside rules Answers (asked_in turns) disk → (past later : List (Turn (Provider Setup R)))
      × (turn : Turn (Provider Setup R)) × (turns ≡ later ++ turn ∷ past) × IsInside rules Answers (asked_by turn) disk
  stopped_in disk [] inside = absurd (omega (arith, inside.among.1))
  stopped_in disk (turn ∷ past) inside = ⊎_elim
      (λ first. let (done, later, one, are, there) =
      stopped_in disk past (record { one = inside.one; among = first; left = inside.left }) in
      (done, turn ∷ later, one, ap (λ (l : List (Turn (Provider Setup R))). turn ∷ l) are, there))
      (λ here. (past, [], turn, refl, record { one = inside.one; among = here; left = inside.left }))
      (Contains-append_cases (asked_in past) (asked_by turn) inside.one inside.among)

module _ {Setup R : Type 0} (rules : RecordRules R) (Answers : AnswersBy Setup R) (IsMoment : ℕ → Type 0)
    (disk : DiskState) where
  -- what is left inside an answer to a request at such a moment
  abbrev AllLeftAt : NodeLeaves (Provider Setup R)
  AllLeftAt old told request now image = IsMoment now × LeavesBut disk (StepLeaves rules Answers old told request now)

  -- what is left of a run that was cut inside the answer to the request of its last turn, behind those before
  record CutAt (first : World (Provider Setup R)) (past : List (Turn (Provider Setup R))) : Type 0 where
    kept : Table
    last : World (Provider Setup R)
    run : Run (IsProviders rules Answers) first past kept last
    request : Request
    now : ℕ
    at : IsMoment now
    left : LeavesBut disk (StepLeaves rules Answers last.node last.disk request now)

  cut_at : (first last : World (Provider Setup R)) (past : List (Turn (Provider Setup R)))
      (turn : Turn (Provider Setup R)) (kept : Table) → Run (IsProviders rules Answers) first (turn ∷ past) kept last
      → AreMoments IsMoment (turn ∷ past) → IsInside rules Answers (asked_by turn) disk → CutAt first past
  cut_at first last past turn kept (old, earlier, given, did, next, does) are inside =
      let at = moment_at IsMoment (asked_by turn) inside.one are.0 inside.among in
      let (asked, told, asks, (now_at, might)) = inside_turn (IsProviders rules Answers) AllLeftAt turn old given kept
      last does (image_of disk) (inside.one, inside.among, (at, inside.left)) in
      let node = ap (λ (w : World (Provider Setup R)). w.node) next.same in
      let disk_is = ap (λ (w : World (Provider Setup R)). w.disk) next.same in
      record {
        kept = old;
        last = earlier;
        run = did;
        request = asked.request;
        now = asked.now;
        at = now_at;
        left = subst (λ (p : Provider Setup R). LeavesBut disk (StepLeaves
            rules Answers p earlier.disk asked.request asked.now)) node (subst (λ (d : Option DiskState).
            LeavesBut disk (StepLeaves rules Answers given.node d asked.request asked.now)) disk_is might);
      }

  module _ (start : Held R) (earlier : List (Start (Provider Setup R))) (before : Option DiskState)
      (IsFirst : World (Provider Setup R) → Type 0) (turns : List (Turn (Provider Setup R)))
      (were : AreStartsAt rules Answers IsMoment start earlier)
      (is_next : IsNextAt rules Answers IsMoment start earlier (Cut before))
      (times : (now : ℕ) → Contains (moments_of turns) now → IsMoment now) (reads : MayLeave disk (image_of disk)) where
    -- a start on a disk of which a crash may leave no more than the last one may leave
    goes_next : (one : Start (Provider Setup R)) → LeavesBut disk (LeftByAt rules Answers IsMoment one)
        → (later : Start (Provider Setup R)) → told_before later ≡ Some disk → GoesAt rules Answers IsMoment later
        → IsNextAt rules Answers IsMoment start (one ∷ earlier) later
    goes_next one left later tells goes = record {
      tells = subst (λ (o : Option DiskState). IsSome o) (sym tells) refl;
      reads = subst (λ (o : Option DiskState). IfSome o (λ d. MayLeave d (image_of d))) (sym tells) reads;
      left = λ other may. left other (subst (λ (o : Option DiskState). Leaves o other) tells may);
      goes = goes;
    }

    abbrev From : IsStoppedAt rules Answers before IsFirst turns disk → Type 0
    From at = GoesOn rules Answers IsMoment start earlier before IsFirst turns disk at

    goes_on : (at : IsStoppedAt rules Answers before IsFirst turns disk) (one : Start (Provider Setup R))
        → IsCutAt rules Answers before IsFirst turns disk at one
        → IsNextAt rules Answers IsMoment start earlier one → LeavesBut disk (LeftByAt rules Answers IsMoment one)
        → From at
    goes_on at one cut next left =
        record { one = one; cut = cut; starts = (next, were); left = left; next = λ later. goes_next one left later }

    served_next : (first last : World (Provider Setup R)) (past : List (Turn (Provider Setup R))) (kept : Table)
        → IsServed rules Answers before first past kept last
        → ((now : ℕ) → Contains (moments_of past) now → IsMoment now)
        → IsNextAt rules Answers IsMoment start earlier (Served before first past kept last)
    served_next first last past kept served at =
        record { tells = is_next.tells; reads = is_next.reads; left = is_next.left; goes = (served, at) }

    -- the run did nothing, or it served
    abbrev Ran : Type 0
    Ran = (turns ≡ []) ⊎ ((first last : World (Provider Setup R)) × (kept : Table)
        × IsFirst first × IsServed rules Answers before first turns kept last)

    moment_among : (later past : List (Turn (Provider Setup R))) → turns ≡ later ++ past
        → (now : ℕ) → Contains (moments_of past) now → IsMoment now
    moment_among later past are now there =
        times now (subst (λ (l : List (Turn (Provider Setup R))). Contains (moments_of l) now) (sym are)
        (moments_in later past now there))

    goes_from : Ran → (at : IsStoppedAt rules Answers before IsFirst turns disk) → From at
    goes_from ran (InOpening left) = goes_on (InOpening left) (Cut before) refl is_next left
    goes_from ran (BehindTurns past later first kept last are is served left) =
        goes_on (BehindTurns past later first kept last are is served left) (Served before first past kept last) refl
        (served_next first last past kept served (moment_among later past are)) (λ image may. Behind (left image may))
    goes_from (inl bare) (InServing past later turn are inside) =
        absurd (none_among turns later past turn bare are)
    goes_from (inr (first, last, kept, is_first, served)) (InServing past later turn are inside) =
        let all = subst (λ (l : List (Turn (Provider Setup R))). Run (IsProviders rules Answers) first l kept last) are
        served.run in
        let among = moment_among later (turn ∷ past) are in
        let (mid, world, run) = cut_behind rules Answers first last later (turn ∷ past) kept all in
        let cut = cut_at first world past turn mid run (moments_are IsMoment (turn ∷ past) among) inside in
        goes_on (InServing past later turn are inside) (Served before first past cut.kept cut.last)
        (first, cut.kept, cut.last, is_first, cut.run, refl)
        (served_next first cut.last past cut.kept
        (record { opened = served.opened; at = served.at; tells = served.tells; run = cut.run })
        (λ now there. among now
        (Contains-append_right (map (λ one. one.now) (asked_by turn)) (moments_of past) now there)))
        (λ image may. InAnswer cut.request cut.now cut.at (cut.left image may))

module _ {Setup R : Type 0} (rules : RecordRules R) (Answers : AnswersBy Setup R) (IsMoment : ℕ → Type 0) where
  stopped_at : (before : Option DiskState) (IsFirst : World (Provider Setup R) → Type 0)
      (turns : List (Turn (Provider Setup R))) (disk : DiskState)
      → LeavesBut disk (LeftByOpening rules before) ⊎ IsInside rules Answers (asked_in turns) disk
      → IsStoppedAt rules Answers before IsFirst turns disk
  stopped_at before IsFirst turns disk (inl left) = InOpening left
  stopped_at before IsFirst turns disk (inr inside) =
      let (past, later, turn, are, there) = stopped_in rules Answers disk turns inside in
      InServing past later turn are there

  pub each_disk_goes_on : (IsFirst : World (Provider Setup R) → Type 0)
      → EachDiskGoesOn rules Answers IsMoment IsFirst
  each_disk_goes_on IsFirst start earlier before turns disk were next at ran reads which = record {
    stopped = stopped_at before IsFirst turns disk which;
    goes = goes_from rules Answers IsMoment disk start earlier before IsFirst turns were next at reads ran;
  }
