-- The turns that were done so far.
use Rattle.std.specs.Prelude.{◌≡◌, ℕ, ◌+◌, List, [], ◌∷◌, ◌++◌, length, Some, Result, Err}
use Rattle.std.specs.FinMap as map
use Rattle.std.proofs.Common.{refl, sym, subst, ◌∙◌, inl, inr, arith, Option, ◌≤◌, ⊎_elim}
use Rattle.std.proofs.lemmas.List.Elements.{Contains-append_left, Contains-append_right}
use Rattle.crash_disk.specs.Counts.{Rose}
use Rattle.crash_disk.specs.Disk.{Image}
use Rattle.crash_disk.specs.Moments.{DiskShown, Leaves, LeavesOnly}
use Rattle.crash_disk.specs.Steps.{started, then}
use Rattle.event_link.specs.Links.{LinkShown}
use Rattle.serve_loop.specs.declared.served.Served.{Served}
use Rattle.serve_loop.specs.declared.served.ServeFault.{ServeFault}
use Rattle.serve_loop.specs.declared.served.ServeFault.TheVariants.{NoMemory}
use Rattle.serve_loop.specs.declared.turns.Serving.{Serving}
use Rattle.serve_loop.specs.Held.{SameObjects, world_in}
use Rattle.serve_loop.specs.Worlds.{NodeStep, NodeLeaves, World, IsNext, world_at}
use Rattle.serve_loop.specs.Turns.{Turn, event_at, asked_by, asked_in, Does, Run}
use Rattle.serve_loop.specs.Serving.{Ends, Serves, MightLeave, LeavesInOrder}
use Rattle.serve_loop.proofs.InOrder.{at_end, in_order_still}
use Rattle.serve_loop.proofs.Leaving.{untouched}

module _ {N L D C : Type 0} (step : NodeStep N)
    (leaves : NodeLeaves N) (shows : D → DiskShown) (link : L → LinkShown) (clock : C → Option (List ℕ)) where
  abbrev At : Serving N L D C → World N
  At = world_in shows link clock

  -- what was done so far, from the first world on
  pub record Since (first : Serving N L D C) (count : ℕ) (held : Serving N L D C) : Type 0 where
    pub turns : List (Turn N)
    pub counted : length turns ≡ count
    pub run : Run step (At first) turns held.conns.now (At held)
    pub in_order : LeavesInOrder step leaves
        (shows held.disk.now).left_since (At first) turns held.conns.now (At held) run []
    pub moments : LeavesOnly shows first.disk.now held.disk.now (MightLeave leaves (shows first.disk.now).told turns)

  module _ (counts_now : (disk : D) (t : ℕ) (image : Image) → t ≤ (shows disk).moment → Leaves (shows disk).told image
      → (shows disk).left_since t image) (only_now : (disk : D) (image : Image) → (shows disk).left_since
      (shows disk).moment image → Leaves (shows disk).told image) (first : Serving N L D C) where
    -- before the first turn
    pub none_done : first.conns.now ≡ map.empty → Since first 0 first
    none_done none = record {
      turns = [];
      counted = refl;
      run = (none, refl);
      in_order = at_end leaves shows counts_now only_now first.node.now first.disk.now
          (link first.link.now) (clock first.clock.now);
      moments = started shows first.disk.now
          (MightLeave leaves (shows first.disk.now).told []) (λ image left. inl (only_now first.disk.now image left));
    }

    -- one turn more
    pub one_more_done : (count : ℕ) (old new : Serving N L D C) (given : World N) (turn : Turn N)
        → Since first count old → IsNext (Some (event_at turn)) (At old) given
        → Does step old.conns.now given turn new.conns.now (At new) → LeavesOnly shows old.disk.now new.disk.now
        (MightLeave leaves (shows old.disk.now).told (turn ∷ [])) → Since first (count + 1) new
    one_more_done count old new given turn since next does moments = let told = (shows first.disk.now).told in
        let asked = asked_in since.turns in
        let were : (image : Image) → MightLeave leaves told since.turns image
        → MightLeave leaves told (turn ∷ since.turns) image = λ image. ⊎_elim inl
        (λ found. inr (found.0, Contains-append_left asked (asked_by turn) found.0 found.1, found.2)) in
        record {
          turns = turn ∷ since.turns;
          counted = omega (arith, since.counted);
          run = (old.conns.now, At old, given, since.run, next, does);
          in_order = (
            at_end leaves shows counts_now only_now new.node.now new.disk.now (link new.link.now) (clock new.clock.now),
            in_order_still step leaves (shows old.disk.now).left_since (shows new.disk.now).left_since
                (shows old.disk.now).moment (asked_by turn) moments.keeps (λ t image le left. ⊎_elim inl
                (⊎_elim (λ may. inl (counts_now old.disk.now t image le may)) inr) (moments.before t image le left)) []
                (asked_by turn ++ []) (λ one none. Contains-append_right (asked_by turn) [] one none)
                (λ one among. Contains-append_left (asked_by turn) [] one among)
                (At first) since.turns old.conns.now (At old) since.run (omega arith) since.in_order,
          );
          moments = then shows first.disk.now old.disk.now new.disk.now (MightLeave leaves told since.turns)
              (MightLeave leaves (shows old.disk.now).told (turn ∷ [])) (MightLeave leaves told (turn ∷ since.turns))
              since.moments moments were (λ image. ⊎_elim (λ left. were image (since.moments.each image
              (counts_now old.disk.now (shows first.disk.now).moment image since.moments.later left)))
              (λ found. inr (found.0, Contains-append_right asked (asked_by turn) found.0 found.1, found.2)));
        }

  -- serving that ended
  pub ended : (first old now : Serving N L D C) (count budget : ℕ) (result : Result Served ServeFault)
      (since : Since first count old) → now.disk.now ≡ old.disk.now → Ends budget since.turns (At old) result (At now)
      → (turns : List (Turn N)) × Serves step leaves (shows now.disk.now).left_since budget turns (At first) result
      (At now) × LeavesOnly shows first.disk.now now.disk.now (MightLeave leaves (shows first.disk.now).told turns)
  ended first old now count budget result since same ends = (
    since.turns,
    subst (λ (d : D). Serves step leaves (shows d).left_since budget since.turns (At first) result (At now)) (sym same)
        (record { kept = old.conns.now; last = At old; run = since.run; in_order = since.in_order; ends = ends }),
    subst (λ (d : D). LeavesOnly shows first.disk.now d (MightLeave leaves (shows first.disk.now).told since.turns))
        (sym same) since.moments,
  )

-- the same objects all along
pub same_objects : {N L D C : Type 0} (old mid new : Serving N L D C)
    → SameObjects old mid → SameObjects mid new → SameObjects old new
same_objects old mid new first second = record {
  node = second.node ∙ first.node;
  link = second.link ∙ first.link;
  disk = second.disk ∙ first.disk;
  clock = second.clock ∙ first.clock;
}

-- a count that rose since rose from before too
pub rose_before : (old mid new : ℕ) → old ≤ mid → Rose mid new → Rose old new
rose_before old mid new le rose = omega arith

-- nothing was begun, for want of memory
pub not_begun : {N D : Type 0} (step : NodeStep N) (leaves : NodeLeaves N) (shows : D → DiskShown)
    → ((disk : D) (t : ℕ) (image : Image) → t ≤ (shows disk).moment → Leaves (shows disk).told image
    → (shows disk).left_since t image) → ((disk : D) (image : Image) → (shows disk).left_since (shows disk).moment image
    → Leaves (shows disk).told image) → (node : N) (disk : D) (link : LinkShown) (clock : Option (List ℕ))
    (budget : ℕ) (result : Result Served ServeFault) → result ≡ Err NoMemory → (turns : List (Turn N))
    × Serves step leaves (shows disk).left_since budget turns (world_at node (shows disk) link clock) result
    (world_at node (shows disk) link clock) × LeavesOnly shows disk disk (MightLeave leaves (shows disk).told turns)
not_begun step leaves shows counts_now only_now node disk link clock budget result is =
    let first = world_at node (shows disk) link clock in (
      [],
      record {
        kept = map.empty;
        last = first;
        run = (refl, refl);
        in_order = at_end leaves shows counts_now only_now node disk link clock;
        ends = subst (λ (r : Result Served ServeFault). Ends budget [] first r first) (sym is) (refl, refl);
      },
      untouched leaves shows only_now disk disk [] refl,
    )
