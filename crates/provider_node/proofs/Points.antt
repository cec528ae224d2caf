-- That a closed session stays closed over a service, from point to point.
use Rattle.std.specs.Prelude.{IfSome, IsSome, Option, None, Some}
use Rattle.std.specs.Option.{is_some, option_to_list}
use Rattle.std.proofs.Common.{◌≡◌, ℕ, false, List, [], ◌∷◌, ◌++◌, map, sym, subst, ap, ◌∙◌}
use Rattle.std.specs.List.{AllByRecursion}
use Rattle.conn_table.specs.Table.{Table}
use Rattle.crash_disk.specs.Disk.{DiskState, MayLeave, image_of}
use Rattle.serve_loop.specs.Turns.{Asked, Asks, Turn, Run, asked_by}
use Rattle.serve_loop.specs.Worlds.{World}
use Rattle.serve_loop.proofs.Quiet.{Asking, Goes, IsButTheLink, Quiet, goes}
use Rattle.record_ledger.specs.Rules.{RecordRules, AreRecords}
use Rattle.record_ledger.specs.Ledger.{Held}
use Rattle.record_ledger.specs.Laws.{ImagesHoldRecords}
use Rattle.provider_node.specs.Added.{DrawsAbove}
use Rattle.provider_node.specs.Step.{AnswersBy, Ledger, Owns, OwnsDisk, Provider}
use Rattle.provider_node.specs.Histories.{AnyMoment, IsAtStart, IsProviders}
use Rattle.provider_node.specs.Points.{AClosedSessionStaysClosed, IsClosedAt, IsOverAt, Point, StayClosed, point}
use Rattle.provider_node.specs.Points.{point_in, point_of, points, points_asked}
use Rattle.provider_node.proofs.Serving.{settled}
use Rattle.provider_node.proofs.Histories.{Holds, asked_goes, came_itself, found_whole, holds_same}

each_of : {X : Type 0} (P Q : X → Type 0) (xs : List X)
    → ((x : X) → P x → Q x) → AllByRecursion P xs → AllByRecursion Q xs
each_of P Q [] step all = tt
each_of P Q (x ∷ xs) step all = (step x all.0, each_of P Q xs step all.1)

-- a ledger that is whole, on a disk that tells, holds records
own_records : {R : Type 0} (rules : RecordRules R) → ImagesHoldRecords rules
    → (told : Option DiskState) (ledger : Ledger R) → IsSome told → IfSome told (λ d. MayLeave d (image_of d))
    → ledger.broken ≡ false → Owns rules told ledger → AreRecords rules ledger.held.records
own_records rules law None ledger tells reads whole own = cc
own_records rules law (Some d) ledger tells reads whole own =
    law (image_of d) ledger.held (settled rules (Some d) ledger (image_of d) whole own reads)

module _ {Setup R : Type 0} (rules : RecordRules R)
    (Answers : AnswersBy Setup R) (law : ImagesHoldRecords rules) (numbers : DrawsAbove rules Answers) where
  -- the disk tells, reads as an image that it may leave, and is the provider's own
  record IsTold (w : World (Provider Setup R)) : Type 0 where
    tells : IsSome w.disk
    reads : IfSome w.disk (λ d. MayLeave d (image_of d))
    own : OwnsDisk rules w.node w.disk

  told_same : (w later : World (Provider Setup R)) → later.node ≡ w.node → later.disk ≡ w.disk → IsTold w → IsTold later
  told_same w later node disk told = record {
    tells = subst (λ (d : Option DiskState). IsSome d) (sym disk) told.tells;
    reads = subst (λ (d : Option DiskState). IfSome d (λ x. MayLeave x (image_of x))) (sym disk) told.reads;
    own = subst (λ (p : Provider Setup R). OwnsDisk rules p later.disk)
        (sym node) (subst (λ (d : Option DiskState). OwnsDisk rules w.node d) (sym disk) told.own);
  }

  told_asked : (one : Asked (Provider Setup R)) (w later : World (Provider Setup R))
      → Asks (IsProviders rules Answers) one w later → IsTold w → IsTold later
  told_asked one w later asks told =
      record { tells = asks.answers.tells ∙ told.tells; reads = asks.answers.reads_later; own = asks.answers.owns }

  -- a whole ledger, on its own disk, is the beginning of its history
  anew : (w : World (Provider Setup R))
      → w.node.ledger.broken ≡ false → OwnsDisk rules w.node w.disk → Holds rules AnyMoment w.node.ledger.held w []
  anew w whole own = record {
    own = own;
    disk = λ image left. (
      w.node.ledger.held,
      settled rules w.disk w.node.ledger image whole own left,
      came_itself rules AnyMoment w.node.ledger.held,
    );
  }

  -- what is known in a world of an earlier point, where the ledger was whole then
  record Known (w : World (Provider Setup R)) (point : Point (Provider Setup R)) : Type 0 where
    begun : AreRecords rules point.node.ledger.held.records
    records : List R
    holds : Holds rules AnyMoment point.node.ledger.held w records

  abbrev Since : World (Provider Setup R) → Point (Provider Setup R) → Type 0
  Since w point = point.node.ledger.broken ≡ false → Known w point

  -- what is known in a world of all earlier points
  record Knows (w : World (Provider Setup R)) (earlier : List (Point (Provider Setup R))) : Type 0 where
    told : IsTold w
    since : AllByRecursion (Since w) earlier

  -- a world with the same provider and disk
  same_since : (w later : World (Provider Setup R)) → later.node ≡ w.node
      → later.disk ≡ w.disk → (point : Point (Provider Setup R)) → Since w point → Since later point
  same_since w later node disk point since whole = let before = since whole in
      record {
        begun = before.begun;
        records = before.records;
        holds = holds_same rules
            Answers law numbers AnyMoment point.node.ledger.held w later before.records node disk before.holds;
      }

  same_knows : (w later : World (Provider Setup R)) (earlier : List (Point (Provider Setup R)))
      → later.node ≡ w.node → later.disk ≡ w.disk → Knows w earlier → Knows later earlier
  same_knows w later earlier node disk knows = record {
    told = told_same w later node disk knows.told;
    since = each_of (Since w) (Since later) earlier (same_since w later node disk) knows.since;
  }

  but_link : (w later : World (Provider Setup R)) (earlier : List (Point (Provider Setup R)))
      → IsButTheLink w later → Knows w earlier → Knows later earlier
  but_link w later earlier same knows = same_knows w later earlier
      (ap (λ (x : World (Provider Setup R)). x.node) same) (ap (λ (x : World (Provider Setup R)). x.disk) same) knows

  -- the point at which a request comes, where the ledger is whole
  since_asked : (one : Asked (Provider Setup R)) (w : World (Provider Setup R))
      → one.node ≡ w.node → IsTold w → Since w (point_of one)
  since_asked one w node told whole = let here = ap (λ (p : Provider Setup R). p.ledger.broken) (sym node) ∙ whole in
      let are = own_records rules law w.disk w.node.ledger told.tells told.reads here told.own in
      record {
        begun = subst (λ (p : Provider Setup R). AreRecords rules p.ledger.held.records) (sym node) are;
        records = [];
        holds = subst
            (λ (p : Provider Setup R). Holds rules AnyMoment p.ledger.held w []) (sym node) (anew w here told.own);
      }

  answered_since : (one : Asked (Provider Setup R)) (w later : World (Provider Setup R)) → IsSome one.disk → Asks
      (IsProviders rules Answers) one w later → (point : Point (Provider Setup R)) → Since w point → Since later point
  answered_since one w later tells asks point since whole = let before = since whole in
      let goes = asked_goes rules
      Answers law numbers AnyMoment point.node.ledger.held one w later before.records tells tt before.holds asks in
      record { begun = before.begun; records = option_to_list goes.0 ++ before.records; holds = goes.2 }

  answered_knows : (one : Asked (Provider Setup R))
      (w later : World (Provider Setup R)) (earlier : List (Point (Provider Setup R)))
      → Asks (IsProviders rules Answers) one w later → Knows w earlier → Knows later (point_of one ∷ earlier)
  answered_knows one w later earlier asks knows =
      let tells : IsSome one.disk = ap is_some asks.disk ∙ knows.told.tells in
      record {
        told = told_asked one w later asks knows.told;
        since = (
          answered_since one w later tells asks (point_of one) (since_asked one w asks.node knows.told),
          each_of (Since w) (Since later) earlier (answered_since one w later tells asks) knows.since,
        );
      }

  passes : (turn : Turn (Provider Setup R)) (new : Table) (w later : World (Provider Setup R))
      (earlier : List (Point (Provider Setup R))) → Goes (IsProviders rules Answers) w new later turn
      → Knows w earlier → Knows later (map point_of (asked_by turn) ++ earlier)
  passes turn new w later earlier (Quiet none same) knows = subst (λ (l : List (Asked (Provider Setup R))).
      Knows later (map point_of l ++ earlier)) (sym none) (but_link w later earlier same knows)
  passes turn new w later earlier (Asking piece one old answers) knows = but_link answers.told later
      (point_of one ∷ earlier) answers.sends.same (answered_knows one w answers.told earlier answers.asks knows)

  module _ (IsClosed IsOver : Held R → List ℕ → Type 0) (stays : AClosedSessionStaysClosed rules IsClosed IsOver) where
    abbrev IsOverSince : Point (Provider Setup R) → Point (Provider Setup R) → Type 0
    IsOverSince later before = (token : List ℕ) → IsClosedAt IsClosed token before → IsOverAt rules IsOver token later

    -- what was closed at an earlier point is over in this world
    over_now : (w : World (Provider Setup R))
        → IsTold w → (point : Point (Provider Setup R)) → Since w point → IsOverSince (point_in w) point
    over_now w told point since token closed = let before = since closed.whole in
        let start = point.node.ledger.held in
        record {
          in_ledger = λ whole. let came = found_whole rules Answers law numbers AnyMoment
              start before.records w.disk w.node.ledger told.tells told.reads whole told.own before.holds.disk in
              stays start w.node.ledger.held came.events token before.begun closed.closed came.leads;
          on_disk = λ image held left is. let (found, stands, came) = before.holds.disk image left in
              let same : found ≡ held = (let e = sym stands ∙ is in cc) in subst (λ (h : Held R). IsOver h token) same
              (stays start found came.events token before.begun closed.closed came.leads);
        }

    all_over : (w : World (Provider Setup R)) (earlier : List (Point (Provider Setup R)))
        → Knows w earlier → AllByRecursion (IsOverSince (point_in w)) earlier
    all_over w earlier knows = each_of (Since w) (IsOverSince (point_in w)) earlier (over_now w knows.told) knows.since

    -- the requests of a turn
    asked_point : (one : Asked (Provider Setup R)) (w : World (Provider Setup R))
        → one.node ≡ w.node → one.disk ≡ w.disk → point_in w ≡ point_of one
    asked_point one w node disk = ap (λ (n : Provider Setup R). point n w.disk) (sym node)
        ∙ ap (λ (d : Option DiskState). point one.node d) (sym disk)

    stay_on : (turn : Turn (Provider Setup R)) (new : Table) (w later : World (Provider Setup R)) (earlier : List
        (Point (Provider Setup R))) → Goes (IsProviders rules Answers) w new later turn → Knows w earlier → StayClosed
        rules IsClosed IsOver earlier → StayClosed rules IsClosed IsOver (map point_of (asked_by turn) ++ earlier)
    stay_on turn new w later earlier (Quiet none same) knows stay = subst (λ (l : List (Asked (Provider Setup R))).
        StayClosed rules IsClosed IsOver (map point_of l ++ earlier)) (sym none) stay
    stay_on turn new w later earlier (Asking piece one old answers) knows stay = (
      subst (λ (p : Point (Provider Setup R)). AllByRecursion (IsOverSince p) earlier)
          (asked_point one w answers.asks.node answers.asks.disk) (all_over w earlier knows),
      stay,
    )

    -- what is known behind the turns, and of the points up to then
    record Reaches (first w : World (Provider Setup R)) (turns : List (Turn (Provider Setup R))) : Type 0 where
      knows : Knows w (points_asked first turns)
      stay : StayClosed rules IsClosed IsOver (points_asked first turns)

    reached : (first last : World (Provider Setup R)) (turns : List (Turn (Provider Setup R))) (kept : Table)
        → IsAtStart rules first
        → IsSome first.disk → Run (IsProviders rules Answers) first turns kept last → Reaches first last turns
    reached first last [] kept at tells run = record {
      knows = subst (λ (w : World (Provider Setup R)). Knows w (points_asked first [])) (sym run.1) (record {
        told = record { tells = tells; reads = at.reads; own = at.own };
        since = (λ whole. record { begun = at.records; records = []; holds = anew first at.whole at.own }, tt);
      });
      stay = (tt, tt);
    }
    reached first last (turn ∷ past) kept at tells (old, before, given, run, next, does) =
        let points = points_asked first past in
        let earlier = reached first before past old at tells run in
        let knows = same_knows before given points (ap (λ (x : World (Provider Setup R)). x.node) next.same)
        (ap (λ (x : World (Provider Setup R)). x.disk) next.same) earlier.knows in
        let did = goes (IsProviders rules Answers) given kept last turn old does in
        record {
          knows = passes turn kept given last points did knows;
          stay = stay_on turn kept given last points did knows earlier.stay;
        }

    pub stay_closed : (first last : World (Provider Setup R)) (turns : List (Turn (Provider Setup R))) (kept : Table)
        → IsAtStart rules first → IsSome first.disk → Run (IsProviders rules Answers) first turns kept last
        → StayClosed rules IsClosed IsOver (points first turns last)
    stay_closed first last turns kept at tells run = let there = reached first last turns kept at tells run in
        (all_over last (points_asked first turns) there.knows, there.stay)
