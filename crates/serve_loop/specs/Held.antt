-- How the code holds the world, and what its parts do to it.
use Rattle.std.specs.Prelude.{◌≡◌, ℕ, List, Option}
use Rattle.crash_disk.specs.Moments.{DiskShown}
use Rattle.event_link.specs.Links.{LinkShown}
use Rattle.serve_loop.specs.declared.turns.Serving.{Serving}
use Rattle.serve_loop.specs.Worlds.{World, world_at}

module _ {N L D C : Type 0} where
  -- the world as the code holds it
  abbrev pub world_in : (D → DiskShown) → (L → LinkShown) → (C → Option (List ℕ)) → Serving N L D C → World N
  world_in disk link clock held =
      world_at held.node.now (disk held.disk.now) (link held.link.now) (clock held.clock.now)

  -- it holds the same objects
  pub record SameObjects (old new : Serving N L D C) : Type 0 where
    pub node : new.node.ghost_name ≡ old.node.ghost_name
    pub link : new.link.ghost_name ≡ old.link.ghost_name
    pub disk : new.disk.ghost_name ≡ old.disk.ghost_name
    pub clock : new.clock.ghost_name ≡ old.clock.ghost_name

  -- and all but the link are as they were
  pub record OthersStay (old new : Serving N L D C) : Type 0 where
    pub objects : SameObjects old new
    pub node : new.node.now ≡ old.node.now
    pub disk : new.disk.now ≡ old.disk.now
    pub clock : new.clock.now ≡ old.clock.now
