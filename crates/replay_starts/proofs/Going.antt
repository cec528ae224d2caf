-- The starts of a provider in a replay, as far as it has come.
use Rattle.std.specs.Prelude.{Contains, IfSome, IsSome, Option, None, Some, Result, Ok, Err, map, min}
use Rattle.std.specs.List.{AllByRecursion, list_any}
use Rattle.std.specs.FinMap as finite
use Rattle.std.specs.Ordering.{eq_by_cmp, nat_cmp}
use Rattle.std.specs.Cmp.{nat_cmp_total}
use Rattle.std.proofs.Common.{◌≡◌, ℕ, zero, suc, ◌-◌, Bool, true, false, cond, List, [], ◌∷◌, ◌++◌, length, refl, sym, ap, subst, ◌∙◌, append_assoc, arith}
use Rattle.std.proofs.lemmas.Bool.{or_left}
use Rattle.std.proofs.lemmas.List.{append-nil}
use Rattle.crash_disk.specs.Disk.{DiskState, Image, MayLeave, image_of, settled_image}
use Rattle.crash_disk.specs.Memory.{state_of}
use Rattle.crash_disk.specs.Moments.{Leaves}
use Rattle.crash_disk.specs.Soundness.{left_since_now, only-settled_image, reads_an_image}
use Rattle.gate_journal.specs.declared.fault.OpenFault.{OpenFault}
use Rattle.conn_table.specs.Table.{Table}
use Rattle.conn_table.proofs.Tables.{tied}
use Rattle.serve_loop.specs.Turns.{Answered, Asked, Does, Full, Over, Refused, Run, StarvedPiece, StarvedStart, Taken, Turn, Unknown, Waiting, asked_by, asked_in, event_at}
use Rattle.serve_loop.specs.Worlds.{World}
use Rattle.record_ledger.specs.Laws.{ImagesHoldRecords}
use Rattle.record_ledger.specs.Ledger.{Held, ledger_in, taken}
use Rattle.record_ledger.specs.Rules.{RecordRules}
use Rattle.saml_time.specs.declared.TheConstants.{LAST}
use Rattle.provider_node.specs.Histories.{IsProviders, moments_of}
use Rattle.provider_node.specs.Starts.{AreStartsAt, Behind, Cut, InCompaction, LeftBehindAt, Served, StandsAsOpened}
use Rattle.provider_node.specs.Starts.{Start, Unopened, asked_over}
use Rattle.provider_node.specs.Step.{AnswersBy, OwnsDisk, Provider}
use Rattle.provider_node.specs.Node.{CompactionLeaves}
use Rattle.provider_node.proofs.Joining.{settled_reads}
use Rattle.provider_node.proofs.Serving.{settled}
use Rattle.schedule_replay.specs.Hosts.{Compacts, Host, Known, Outcome, Recovers, Restarts, Serves, Takes, resumed}
use Rattle.schedule_replay.specs.Hosts.{told, world_of}
use Rattle.provider_node.specs.Node.{provider_rules}
use Rattle.replay_starts.specs.Providers.{IsStartedFrom}
use Rattle.replay_starts.proofs.Standing.{compaction_stands, opened_stays, opening_stands, step_stands, whole_stands}
use Rattle.replay_starts.proofs.Worlds.{does_unclocked, still}

-- ---- the latest start ends in a world, with these connections

abbrev EndsAt : {N : Type 0} → List (Start N) → World N → Table → Type 0
EndsAt [] w kept = ⊥
EndsAt (Cut before ∷ earlier) w kept = ⊥
EndsAt (Served before first turns table last ∷ earlier) w kept = (last ≡ w) × (table ≡ kept)
EndsAt (Unopened first turns table last ∷ earlier) w kept = (last ≡ w) × (table ≡ kept)

module _ {Setup R : Type 0} (rules : RecordRules R) (Answers : AnswersBy Setup R)
    (IsMoment : ℕ → Type 0) (start : Held R) where
  abbrev P : Type 0
  P = Provider Setup R

  -- There are starts up to here, in which these requests were asked.
  pub record SoFar (w : World P) (kept : Table) (asked : List (Asked P)) : Type 0 where
    pub starts : List (Start P)
    pub are : AreStartsAt rules Answers IsMoment start starts
    pub requests : asked_over starts ≡ asked
    pub ends : EndsAt starts w kept
    pub own : OwnsDisk rules w.node w.disk
    pub stands : StandsAsOpened rules w.disk
    pub tells : IsSome w.disk
    pub reads : IfSome w.disk (λ d. MayLeave d (image_of d))

  pub asked_as : (w : World P) (kept : Table) (asked other : List (Asked P)) → asked ≡ other → SoFar w kept asked
      → SoFar w kept other
  asked_as w kept asked other same s = subst (SoFar w kept) same s

  -- what is left of the disk is left behind the starts
  behind_ends : (starts : List (Start P)) (w : World P) (kept : Table) → EndsAt starts w kept → (image : Image)
      → Leaves w.disk image → LeftBehindAt rules Answers IsMoment start starts image
  behind_ends [] w kept ends image left = absurd ends
  behind_ends (Cut before ∷ earlier) w kept ends image left = absurd ends
  behind_ends (Served before first turns table last ∷ earlier) w kept ends image left =
      Behind (subst (λ (x : World P). Leaves x.disk image) (sym ends.0) left)
  behind_ends (Unopened first turns table last ∷ earlier) w kept ends image left =
      Behind (subst (λ (x : World P). Leaves x.disk image) (sym ends.0) left)

  pub left_behind : (w : World P) (kept : Table) (asked : List (Asked P)) (s : SoFar w kept asked) (image : Image)
      → Leaves w.disk image → LeftBehindAt rules Answers IsMoment start s.starts image
  left_behind w kept asked s image left = behind_ends s.starts w kept s.ends image left

  -- and so is what a compaction may leave
  behind_compaction : (starts : List (Start P)) (w : World P) (kept : Table) → EndsAt starts w kept → (now : ℕ)
      → IsMoment now → (image : Image) → CompactionLeaves rules w.node w.disk now image
      → LeftBehindAt rules Answers IsMoment start starts image
  behind_compaction [] w kept ends now moment image left = absurd ends
  behind_compaction (Cut before ∷ earlier) w kept ends now moment image left = absurd ends
  behind_compaction (Served before first turns table last ∷ earlier) w kept ends now moment image left =
      InCompaction now moment
      (subst (λ (x : World P). CompactionLeaves rules x.node x.disk now image) (sym ends.0) left)
  behind_compaction (Unopened first turns table last ∷ earlier) w kept ends now moment image left =
      InCompaction now moment
      (subst (λ (x : World P). CompactionLeaves rules x.node x.disk now image) (sym ends.0) left)

  -- ---- one turn more

  run_on : (first last w later : World P) (turns : List (Turn P)) (table kept new : Table) (turn : Turn P)
      → Run (IsProviders rules Answers) first turns table last → last ≡ w → table ≡ kept → w.link ≡ None
      → Does (IsProviders rules Answers) kept w turn new later
      → Run (IsProviders rules Answers) first (turn ∷ turns) new later
  run_on first last w later turns table kept new turn run at is deaf does = (
    kept,
    w,
    w,
    subst (Run (IsProviders rules Answers) first turns kept) at
        (subst (λ (t : Table). Run (IsProviders rules Answers) first turns t last) is run),
    record { comes = comes w.link deaf; same = refl },
    does,
  )
    where
      comes : (link : _) → link ≡ None → Rattle.serve_loop.specs.Worlds.Comes (Some (event_at turn)) link link
      comes None e = refl
      comes (Some l) e = absurd (cc)

  record More (w : World P) (kept : Table) (asked : List (Asked P)) : Type 0 where
    starts : List (Start P)
    are : AreStartsAt rules Answers IsMoment start starts
    requests : asked_over starts ≡ asked
    ends : EndsAt starts w kept

  -- the moments of one turn more
  more_moments : (turn : Turn P) (turns : List (Turn P)) → ((now : ℕ) → Contains (moments_of turns) now → IsMoment now)
      → AllByRecursion (λ (one : Asked P). IsMoment one.now) (asked_by turn) → (now : ℕ)
      → Contains (moments_of (turn ∷ turns)) now → IsMoment now
  more_moments (Taken conn) turns each at now there = each now there
  more_moments (Full conn) turns each at now there = each now there
  more_moments (StarvedStart conn) turns each at now there = each now there
  more_moments (Over conn) turns each at now there = each now there
  more_moments (Unknown conn piece) turns each at now there = each now there
  more_moments (Waiting conn piece) turns each at now there = each now there
  more_moments (Answered piece asked) turns each at now (zero, less, is) = subst IsMoment is at.0
  more_moments (Answered piece asked) turns each at now (suc k, less, is) = each now (k, omega (arith, less), is)
  more_moments (Refused conn piece status) turns each at now there = each now there
  more_moments (StarvedPiece conn piece) turns each at now there = each now there

  one_turn : (starts : List (Start P)) (w later : World P) (kept new : Table) (turn : Turn P)
      → AreStartsAt rules Answers IsMoment start starts → EndsAt starts w kept → w.link ≡ None
      → AllByRecursion (λ (one : Asked P). IsMoment one.now) (asked_by turn)
      → Does (IsProviders rules Answers) kept w turn new later
      → More later new (asked_over starts ++ asked_by turn)
  one_turn [] w later kept new turn are ends deaf each does = absurd ends
  one_turn (Cut before ∷ earlier) w later kept new turn are ends deaf each does = absurd ends
  one_turn (Served before first turns table last ∷ earlier) w later kept new turn (next, were) (at, is) deaf each does =
      let served = next.goes.0 in
      record {
        starts = Served before first (turn ∷ turns) new later ∷ earlier;
        are = (
          record {
            tells = next.tells;
            reads = next.reads;
            left = next.left;
            goes = (
              record {
                opened = served.opened;
                at = served.at;
                tells = served.tells;
                run = run_on first last w later turns table kept new turn served.run at is deaf does;
              },
              more_moments turn turns next.goes.1 each,
            );
          },
          were,
        );
        requests = sym (append_assoc (asked_over earlier) (asked_in turns) (asked_by turn));
        ends = (refl, refl);
      }
  one_turn (Unopened first turns table last ∷ earlier) w later kept new turn (next, were) (at, is) deaf each does =
      let goes = next.goes.0 in
      record {
        starts = Unopened first (turn ∷ turns) new later ∷ earlier;
        are = (
          record {
            tells = next.tells;
            reads = next.reads;
            left = next.left;
            goes = (
              record {
                is_broken = goes.is_broken;
                own = goes.own;
                holds = goes.holds;
                run = run_on first last w later turns table kept new turn goes.run at is deaf does;
              },
              more_moments turn turns next.goes.1 each,
            );
          },
          were,
        );
        requests = sym (append_assoc (asked_over earlier) (asked_in turns) (asked_by turn));
        ends = (refl, refl);
      }

  turned : (w later : World P) (kept new : Table) (asked : List (Asked P)) (turn : Turn P) → w.link ≡ None
      → AllByRecursion (λ (one : Asked P). IsMoment one.now) (asked_by turn)
      → Does (IsProviders rules Answers) kept w turn new later → OwnsDisk rules later.node later.disk
      → StandsAsOpened rules later.disk → IsSome later.disk → IfSome later.disk (λ d. MayLeave d (image_of d))
      → SoFar w kept asked → SoFar later new (asked ++ asked_by turn)
  turned w later kept new asked turn deaf each does own stands tells reads s =
      let more = one_turn s.starts w later kept new turn s.are s.ends deaf each does in
      record {
        starts = more.starts;
        are = more.are;
        requests = more.requests ∙ ap (λ (l : List (Asked P)). l ++ asked_by turn) s.requests;
        ends = more.ends;
        own = own;
        stands = stands;
        tells = tells;
        reads = reads;
      }

  -- a provider and its disk that are as they were
  same_at : (w later : World P) → later.node ≡ w.node → later.disk ≡ w.disk
      → OwnsDisk rules w.node w.disk × StandsAsOpened rules w.disk
      → OwnsDisk rules later.node later.disk × StandsAsOpened rules later.disk
  same_at w later node disk (own, stands) = (
    subst (λ (p : P). OwnsDisk rules p later.disk) (sym node)
        (subst (λ (d : Option DiskState). OwnsDisk rules w.node d) (sym disk) own),
    subst (StandsAsOpened rules) (sym disk) stands,
  )

  -- a turn leaves the provider a disk of its own, which stands for a ledger as it is written
  by_turn : (old new : Table) (w later : World P) (turn : Turn P) → Does (IsProviders rules Answers) old w turn new later
      → IsSome w.disk → IfSome w.disk (λ d. MayLeave d (image_of d))
      → OwnsDisk rules w.node w.disk × StandsAsOpened rules w.disk
      → OwnsDisk rules later.node later.disk × StandsAsOpened rules later.disk
  by_turn old new w later (Taken conn) does tells reads has =
      same_at w later (ap (λ (x : World P). x.node) does.1) (ap (λ (x : World P). x.disk) does.1) has
  by_turn old new w later (Full conn) does tells reads has =
      same_at w later (ap (λ (x : World P). x.node) does.1.same) (ap (λ (x : World P). x.disk) does.1.same) has
  by_turn old new w later (StarvedStart conn) does tells reads has =
      same_at w later (ap (λ (x : World P). x.node) does.1.same) (ap (λ (x : World P). x.disk) does.1.same) has
  by_turn old new w later (Over conn) does tells reads has =
      same_at w later (ap (λ (x : World P). x.node) does.1) (ap (λ (x : World P). x.disk) does.1) has
  by_turn old new w later (Unknown conn piece) does tells reads has =
      same_at w later (ap (λ (x : World P). x.node) does.1) (ap (λ (x : World P). x.disk) does.1) has
  by_turn old new w later (Waiting conn piece) does tells reads has =
      same_at w later (ap (λ (x : World P). x.node) does.1) (ap (λ (x : World P). x.disk) does.1) has
  by_turn old new w later (Answered piece asked) (between, takes, answers) tells reads has =
      let asks = answers.asks in
      same_at answers.told later (ap (λ (x : World P). x.node) answers.sends.same)
      (ap (λ (x : World P). x.disk) answers.sends.same) (
        asks.answers.owns,
        λ image left.
            step_stands rules Answers w.node w.disk asked.request asked.now image has.1 tells reads has.0
            (asks.answers.left image left),
      )
  by_turn old new w later (Refused conn piece status) (between, takes, lets) tells reads has =
      same_at w later (ap (λ (x : World P). x.node) lets.sends.same) (ap (λ (x : World P). x.disk) lets.sends.same) has
  by_turn old new w later (StarvedPiece conn piece) (between, takes, lets) tells reads has =
      same_at w later (ap (λ (x : World P). x.node) lets.sends.same) (ap (λ (x : World P). x.disk) lets.sends.same) has

  -- the moment of a turn's request is that at which the clock stands
  at_clock : (now : ℕ) (turn : Turn P) (old new : Table) (before after : Host P) → IsMoment (min now LAST)
      → Does (IsProviders rules Answers) old (world_of now before) turn new (world_of now after)
      → AllByRecursion (λ (one : Asked P). IsMoment one.now) (asked_by turn)
  at_clock now (Taken conn) old new before after at does = tt
  at_clock now (Full conn) old new before after at does = tt
  at_clock now (StarvedStart conn) old new before after at does = tt
  at_clock now (Over conn) old new before after at does = tt
  at_clock now (Unknown conn piece) old new before after at does = tt
  at_clock now (Waiting conn piece) old new before after at does = tt
  at_clock now (Answered piece asked) old new before after at (between, takes, answers) =
      (subst IsMoment (sym answers.asks.moment.moment) at, tt)
  at_clock now (Refused conn piece status) old new before after at does = tt
  at_clock now (StarvedPiece conn piece) old new before after at does = tt

  pub served : (now : ℕ) (turn : Turn P) (before after : Host P) (asked : List (Asked P)) → IsMoment (min now LAST)
      → Serves (provider_rules rules Answers) now turn before after → SoFar (still before) before.kept asked
      → SoFar (still after) after.kept (asked ++ asked_by turn)
  served now turn before after asked at serves s =
      let does = does_unclocked (IsProviders rules Answers) before.kept after.kept _ _ turn serves.does in
      let has = by_turn before.kept after.kept (still before) (still after) turn does refl (reads_an_image before.disk)
      (s.own, s.stands) in
      turned (still before) (still after) before.kept after.kept asked turn refl
      (at_clock now turn before.kept after.kept before after at serves.does) does has.0 has.1 refl
      (reads_an_image after.disk) s

  -- ---- connections end

  some_key : (t : Table) (n : ℕ) → finite.len t ≡ suc n → (k : ℕ) × (finite.contains_key t k ≡ true)
  some_key t n long = of_list (finite.entries t) refl
    where
      of_list : (es : List (ℕ × List ℕ)) → finite.entries t ≡ es → (k : ℕ) × (finite.contains_key t k ≡ true)
      of_list [] e =
          let none : finite.len t ≡ 0 = finite.len-entries t ∙ ap length e in
          absurd (omega (arith, none, long))
      of_list (entry ∷ es) e =
          let is : finite.contains_key t entry.0 ≡ list_any (eq_by_cmp nat_cmp entry.0) (map (λ x. x.0) (entry ∷ es)) =
          finite.contains_key-keys t entry.0
          ∙ ap (λ (l : List (ℕ × List ℕ)). list_any (eq_by_cmp nat_cmp entry.0) (map (λ x. x.0) l)) e in (
            entry.0,
            is ∙ or_left (eq_by_cmp nat_cmp entry.0 entry.0)
                (list_any (eq_by_cmp nat_cmp entry.0) (map (λ x. x.0) es)) (tied entry.0 entry.0 refl),
          )

  unconnected_in : (n : ℕ) (w : World P) (kept : Table) (asked : List (Asked P)) → w.link ≡ None
      → finite.len kept ≡ n → SoFar w kept asked → SoFar w finite.empty asked
  unconnected_in zero w kept asked deaf long s =
      subst (λ (t : Table). SoFar w t asked) (finite.empty_of_len kept long) s
  unconnected_in (suc n) w kept asked deaf long s =
      let (k, has) = some_key kept n long in
      let less : finite.len (finite.remove kept k) ≡ n =
      finite.len-remove nat_cmp_total kept k
      ∙ ap (λ (b : Bool). cond b (finite.len kept - 1) (finite.len kept)) has ∙ omega (arith, long) in
      let over = turned w w kept (finite.remove kept k) asked (Over k) deaf tt (refl, refl) s.own s.stands s.tells
      s.reads s
      in
      unconnected_in n w (finite.remove kept k) asked deaf less
      (asked_as w (finite.remove kept k) (asked ++ []) asked (append-nil asked) over)

  pub unconnected_at : (host : Host P) (kept : Table) (asked : List (Asked P)) → SoFar (still host) kept asked
      → SoFar (still host) finite.empty asked
  unconnected_at host kept asked s = unconnected_in (finite.len kept) (still host) kept asked refl refl s

  -- ---- restarts and compactions

  module _ (hold : ImagesHoldRecords rules) where
    -- one start more, of a node that is whole, which opened what this disk told
    opens_next : (starts : List (Start P)) (asked : List (Asked P)) (before : Option DiskState) (host : Host P)
        → AreStartsAt rules Answers IsMoment start starts → asked_over starts ≡ asked → IsSome before
        → IfSome before (λ d. MayLeave d (image_of d))
        → ((image : Image) → Leaves before image → LeftBehindAt rules Answers IsMoment start starts image)
        → IfSome before (λ d. taken (ledger_in rules (image_of d)) ≡ Ok host.node.ledger.held)
        → host.node.ledger.broken ≡ false → OwnsDisk rules host.node (told host) → StandsAsOpened rules (told host)
        → SoFar (still host) finite.empty asked
    opens_next starts asked before host are same tells reads left opens whole own stands =
        let d = state_of host.disk in
        let is = settled rules (Some d) host.node.ledger (image_of d) whole own (reads_an_image host.disk) in
        record {
          starts = Served before (still host) [] finite.empty (still host) ∷ starts;
          are = (
            record {
              tells = tells;
              reads = reads;
              left = left;
              goes = (
                record {
                  opened = opens;
                  at = record {
                    whole = whole;
                    records = hold (image_of d) host.node.ledger.held is;
                    own = own;
                    reads = reads_an_image host.disk;
                  };
                  tells = refl;
                  run = (refl, refl);
                },
                λ now there. absurd (omega (arith, there.1)),
              );
            },
            are,
          );
          requests = append-nil (asked_over starts) ∙ same;
          ends = (refl, refl);
          own = own;
          stands = stands;
          tells = refl;
          reads = reads_an_image host.disk;
        }

    -- and of one that is not
    goes_unopened : (starts : List (Start P)) (asked : List (Asked P)) (host : Host P)
        → AreStartsAt rules Answers IsMoment start starts → asked_over starts ≡ asked
        → ((image : Image) → Leaves (told host) image → LeftBehindAt rules Answers IsMoment start starts image)
        → host.node.ledger.broken ≡ true → OwnsDisk rules host.node (told host) → StandsAsOpened rules (told host)
        → SoFar (still host) finite.empty asked
    goes_unopened starts asked host are same left broken own stands = record {
      starts = Unopened (still host) [] finite.empty (still host) ∷ starts;
      are = (
        record {
          tells = refl;
          reads = reads_an_image host.disk;
          left = left;
          goes = (
            record { is_broken = broken; own = own; holds = stands; run = (refl, refl) },
            λ now there. absurd (omega (arith, there.1)),
          );
        },
        are,
      );
      requests = append-nil (asked_over starts) ∙ same;
      ends = (refl, refl);
      own = own;
      stands = stands;
      tells = refl;
      reads = reads_an_image host.disk;
    }

    pub restarted : (before after : Host P) (result : Result (Unit {0}) OpenFault) (kept : Table)
        (asked : List (Asked P)) → Restarts (provider_rules rules Answers) before result after
        → SoFar (still before) kept asked → SoFar (still after) finite.empty asked
    restarted before after (Ok u) kept asked r s =
        let held = after.node.ledger.held in
        opens_next s.starts asked (told before) after s.are s.requests refl (reads_an_image before.disk)
        (left_behind (still before) kept asked s) r.done.gives r.done.whole r.owns
        (whole_stands rules (told after) after.node.ledger r.done.whole r.owns
        (opened_stays (ledger_in rules (image_of (state_of before.disk))) held r.done.gives))
    restarted before after (Err fault) kept asked r s =
        let opening = λ (image : Image) (left : Leaves (told after) image). (r.leaves.each image
        (left_since_now after.disk _ image r.leaves.later left)).stands in
        goes_unopened (Cut (told before) ∷ s.starts) asked after (
          record {
            tells = refl;
            reads = reads_an_image before.disk;
            left = left_behind (still before) kept asked s;
            goes = tt;
          },
          s.are,
        )
        (append-nil (asked_over s.starts) ∙ s.requests) opening r.done.fails.1 r.owns
        (λ image left. opening_stands rules (told before) s.stands image refl (opening image left))

    pub compacted : (now : ℕ) (before after : Host P) (result : Result (Unit {0}) OpenFault) (kept : Table)
        (asked : List (Asked P)) → IsMoment now → Compacts (provider_rules rules Answers) now before result after
        → SoFar (still before) kept asked → SoFar (still after) finite.empty asked
    compacted now before after result kept asked moment r s = of_flag after.node.ledger.broken refl
      where
        inside : (image : Image) → Leaves (told after) image → CompactionLeaves rules before.node (told before) now image
        inside image left = r.leaves.each image (left_since_now after.disk _ image r.leaves.later left)

        left_now : (image : Image) → Leaves (told after) image
            → LeftBehindAt rules Answers IsMoment start s.starts image
        left_now image left = behind_compaction s.starts (still before) kept s.ends now moment image (inside image left)

        stands_now : StandsAsOpened rules (told after)
        stands_now image left =
            compaction_stands rules before.node (told before) now image s.stands refl (reads_an_image before.disk) s.own
            (inside image left)

        opens : after.node.ledger.broken ≡ false
            → taken (ledger_in rules (image_of (state_of after.disk))) ≡ Ok after.node.ledger.held
        opens whole =
            let d = state_of after.disk in
            let is = settled rules (Some d) after.node.ledger (image_of d) whole r.owns (reads_an_image after.disk) in
            let (held, there, stays) = stands_now (image_of d) (reads_an_image after.disk) in
            let same : held ≡ after.node.ledger.held = (let e = sym there ∙ is in cc) in
            ap taken there ∙ ap (λ (h : Held R). Ok h) (stays ∙ same)

        of_flag : (b : Bool) → after.node.ledger.broken ≡ b → SoFar (still after) finite.empty asked
        of_flag false whole =
            opens_next s.starts asked (told after) after s.are s.requests refl (reads_an_image after.disk) left_now
            (opens whole) whole r.owns stands_now
        of_flag true broken = goes_unopened s.starts asked after s.are s.requests left_now broken r.owns stands_now

    -- ---- how events end

    recovered : (behind after : Host P) (kept : Table) (asked : List (Asked P))
        → Recovers (provider_rules rules Answers) behind after → SoFar (still behind) kept asked
        → SoFar (still after) finite.empty asked
    recovered behind after kept asked r s = restarted (resumed behind) after r.0 kept asked r.1 s

    abbrev Kept : Host P → List (Asked P) → Type 0
    Kept host asked = SoFar (still host) host.kept asked

    -- a piece came
    pub taken_so : (clock conn : ℕ) (piece : List ℕ) (before after : Host P) (outcome : Outcome) (asked : List (Asked P))
        → IsMoment (min clock LAST)
        → (takes : Takes (provider_rules rules Answers) clock conn piece before outcome after)
        → Kept before asked
        → Kept after (asked ++ asked_by takes.turn)
    taken_so clock conn piece before after outcome asked at takes s =
        served clock takes.turn before after asked at takes.serves s

    -- and the disk stopped
    pub stopped_so : (behind after : Host P) (asked : List (Asked P)) → Recovers (provider_rules rules Answers) behind after
        → Kept behind asked → Kept after asked
    stopped_so behind after asked r s =
        subst (λ (t : Table). SoFar (still after) t asked) (sym r.1.kept) (recovered behind after behind.kept asked r s)

    -- a call that a schedule asks for, of which this is known
    abbrev pub LetsGo : (Host P → Result (Unit {0}) OpenFault → Host P → Type 0) → Type 0
    LetsGo call =
        (before after : Host P) (result : Result (Unit {0}) OpenFault) (kept : Table) (asked : List (Asked P))
        → call before result after → SoFar (still before) kept asked → SoFar (still after) finite.empty asked

    pub known_so : (call : Host P → Result (Unit {0}) OpenFault → Host P → Type 0) → LetsGo call
        → (before after : Host P) (known : Option (Result (Unit {0}) OpenFault)) (kept : Table) (asked : List (Asked P))
        → Known (provider_rules rules Answers) call known before after
        → SoFar (still before) kept asked → SoFar (still after) finite.empty asked
    known_so call goes before after (Some result) kept asked is s = goes before after result kept asked is.0 s
    known_so call goes before after None kept asked is s =
        recovered is.1 after finite.empty asked is.4 (goes before is.1 is.0 kept asked is.2 s)

-- ---- at first

module _ {Setup R : Type 0} (rules : RecordRules R) (Answers : AnswersBy Setup R) (IsMoment : ℕ → Type 0) where
  pub begun : ImagesHoldRecords rules → (image : Image) (host : Host (Provider Setup R))
      → IsStartedFrom rules image host → SoFar rules Answers IsMoment host.node.ledger.held (still host) finite.empty []
  begun hold image host started =
      opens_next rules Answers IsMoment host.node.ledger.held hold [] [] (Some (settled_image image)) host tt refl refl
      (settled_reads image)
      (λ other may. subst (λ (i : Image). taken (ledger_in rules i) ≡ Ok host.node.ledger.held)
      (sym (only-settled_image image other may)) started.opened)
      started.opened started.whole started.own
      (whole_stands rules (told host) host.node.ledger started.whole started.own
      (opened_stays (ledger_in rules image) host.node.ledger.held started.opened))
