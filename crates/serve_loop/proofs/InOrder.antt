-- What a crash might have left since each point of a run.
use Rattle.std.specs.Prelude.{◌≡◌, ◌⊎◌, ℕ, ◌≤◌, List, [], ◌∷◌, ◌++◌, Contains, Option}
use Rattle.std.proofs.Common.{sym, ap, subst, inl, inr, arith, ⊎_elim}
use Rattle.std.proofs.lemmas.List.Elements.{Contains-append_left, Contains-append_right, Contains-append_cases}
use Rattle.std.proofs.lemmas.List.Elements.{Contains-push_cases}
use Rattle.crash_disk.specs.Disk.{Image, DiskState}
use Rattle.crash_disk.specs.Moments.{DiskShown, Leaves}
use Rattle.event_link.specs.Links.{LinkShown}
use Rattle.conn_table.specs.Table.{Table}
use Rattle.serve_loop.specs.Serving.{LeftInside, LeavesSince, LeavesInOrder}
use Rattle.serve_loop.specs.Turns.{Asked, Turn, asked_by, Asks, Does, Run}
use Rattle.serve_loop.specs.Worlds.{NodeStep, NodeLeaves, World, world_at}
use Rattle.serve_loop.proofs.Quiet.{Asking, Goes, Quiet, goes}

-- at the end of a run
pub at_end : {N D : Type 0} (leaves : NodeLeaves N) (shows : D → DiskShown)
    → ((disk : D) (t : ℕ) (image : Image) → t ≤ (shows disk).moment → Leaves (shows disk).told image
    → (shows disk).left_since t image) → ((disk : D) (image : Image) → (shows disk).left_since (shows disk).moment image
    → Leaves (shows disk).told image) → (node : N) (disk : D) (link : LinkShown) (clock : Option (List ℕ))
    → LeavesSince leaves (shows disk).left_since (world_at node (shows disk) link clock) []
at_end leaves shows counts_now only_now node disk link clock = record {
  here = λ image may. counts_now disk (shows disk).moment image (omega arith) may;
  only = λ image left. inl (only_now disk image left);
}

-- no turn goes back in the disk's time
turn_time : {N : Type 0} (step : NodeStep N) (turn : Turn N) (before : World N) (new : Table) (after : World N)
    → Goes step before new after turn → before.moment ≤ after.moment
turn_time {N} step turn before new after (Quiet none same) = omega (arith, ap (λ (w : World N). w.moment) same)
turn_time {N} step turn before new after (Asking piece one old answers) =
    omega (arith, answers.asks.time, ap (λ (w : World N). w.moment) answers.sends.same)

abbrev AreAmong : {N : Type 0} → List (Asked N) → List (Asked N) → Type 0
AreAmong {N} some more = (one : Asked N) → Contains some one → Contains more one

-- inside the answer to one of the first requests, or of those behind them
pub inside_split : {N : Type 0} (leaves : NodeLeaves N) (asked later : List (Asked N)) (image : Image)
    → LeftInside leaves (asked ++ later) image → LeftInside leaves asked image ⊎ LeftInside leaves later image
inside_split leaves asked later image (one, among, left) = ⊎_elim
    (λ first. inl (one, first, left)) (λ behind. inr (one, behind, left)) (Contains-append_cases asked later one among)

more_behind : {N : Type 0} (asked some more : List (Asked N))
    → AreAmong some more → AreAmong (asked ++ some) (asked ++ more)
more_behind asked some more are one among = ⊎_elim (Contains-append_left asked more one)
    (λ behind. Contains-append_right asked more one (are one behind)) (Contains-append_cases asked some one among)

-- once a further turn is done, in which these requests were asked
module _ {N : Type 0} (step : NodeStep N) (leaves : NodeLeaves N) (left now_left : ℕ → Image → Type 0)
    (until : ℕ) (asked : List (Asked N)) (keeps : (t : ℕ) (image : Image) → t ≤ until → left t image → now_left t image)
    (nothing_else : (t : ℕ) (image : Image)
    → t ≤ until → now_left t image → left t image ⊎ LeftInside leaves asked image) where
  since_still : (point : World N) (later more : List (Asked N)) → AreAmong later more → AreAmong asked more
      → point.moment ≤ until → LeavesSince leaves left point later → LeavesSince leaves now_left point more
  since_still point later more are has le since = record {
    here = λ image may. keeps point.moment image le (since.here image may);
    only = λ image might. ⊎_elim
        (λ was. ⊎_elim inl (λ found. inr (found.0, are found.0 found.1, found.2)) (since.only image was))
        (λ found. inr (found.0, has found.0 found.1, found.2)) (nothing_else point.moment image le might);
  }

  pub in_order_still : (later more : List (Asked N)) → AreAmong later more → AreAmong asked more
      → (first : World N) (turns : List (Turn N)) (kept : Table) (now : World N) (run : Run step first turns kept now)
      → now.moment ≤ until → LeavesInOrder step leaves left first turns kept now run later
      → LeavesInOrder step leaves now_left first turns kept now run more
  in_order_still later more are has first [] kept now run le since = since_still now later more are has le since
  in_order_still later more are has first
      (turn ∷ past) kept now (old, before, given, did, next, does) le (since, earlier) = (
        since_still now later more are has le since,
        in_order_still (asked_by turn ++ later) (asked_by turn ++ more) (more_behind (asked_by turn) later more are)
            (λ one among. Contains-append_right (asked_by turn) more one (has one among)) first past old before did
            (omega (
              arith,
              le,
              ap (λ (w : World N). w.moment) next.same,
              turn_time step turn given kept now (goes step given kept now turn old does),
            )) earlier,
      )

-- what a crash inside the answer of a turn may leave: the node was asked, and it is what one inside that answer may
-- leave
module _ {N : Type 0} (step : NodeStep N) (leaves : NodeLeaves N) where
  goes_inside : (turn : Turn N) (given : World N) (new : Table) (now : World N)
      → Goes step given new now turn → (image : Image) → LeftInside leaves (asked_by turn) image → (asked : Asked N)
      × (told : World N) × Asks step asked given told × leaves given.node given.disk asked.request asked.now image
  goes_inside turn given new now (Quiet none same) image found =
      absurd (omega (arith, (subst (λ (asked : List (Asked N)). LeftInside leaves asked image) none found).1.1))
  goes_inside turn given new now (Asking piece asked old answers) image found = let asks = answers.asks in
      let same : asked ≡ found.0 = ⊎_elim
      (λ none. absurd (omega (arith, none.1))) (λ is. is) (Contains-push_cases [] asked found.0 found.1) in
      let left : leaves asked.node asked.disk asked.request asked.now image = subst
      (λ (a : Asked N). leaves a.node a.disk a.request a.now image) (sym same) found.2 in
      let at_node = subst (λ (n : N). leaves n asked.disk asked.request asked.now image) asks.node left in (
        asked,
        answers.told,
        asks,
        subst (λ (d : Option DiskState). leaves given.node d asked.request asked.now image) asks.disk at_node,
      )

  pub inside_turn : (turn : Turn N) (old : Table) (given : World N) (new : Table) (now : World N)
      → Does step old given turn new now → (image : Image) → LeftInside leaves (asked_by turn) image → (asked : Asked N)
      × (told : World N) × Asks step asked given told × leaves given.node given.disk asked.request asked.now image
  inside_turn turn old given new now does = goes_inside turn given new now (goes step given new now turn old does)
