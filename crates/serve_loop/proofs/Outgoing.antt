-- What goes out on a link.
use Rattle.std.specs.Prelude.{◌≡◌, ℕ, List, ◌++◌, length, take, Option}
use Rattle.std.proofs.Common.{sym, ap, ◌∙◌}
use Rattle.std.proofs.lemmas.List.{take_at}
use Rattle.crash_disk.specs.Moments.{DiskShown}
use Rattle.event_link.specs.Links.{LinkShown}
use Rattle.serve_loop.specs.declared.turns.Serving.{Serving}
use Rattle.serve_loop.specs.Worlds.{world_at, GoesOut, OnlySends}
use Rattle.serve_loop.specs.Held.{OthersStay, world_in}

-- the front of a buffer
pub front_of : (n : ℕ) (buffer page rest : List ℕ) → buffer ≡ page ++ rest → n ≡ length page → take n buffer ≡ page
front_of n buffer page rest is long = ap (take n) is ∙ take_at page rest n (sym long)

-- where all but the link is as it was
module _ {N L D C : Type 0} (disk : D → DiskShown)
    (link : L → LinkShown) (clock : C → Option (List ℕ)) (old new : Serving N L D C) (others : OthersStay old new) where
  but_the_link : world_in disk link clock new ≡ world_at old.node.now
      (disk old.disk.now) (link new.link.now) (clock old.clock.now)
  but_the_link = ap (λ (n : N). world_at n (disk new.disk.now) (link new.link.now) (clock new.clock.now)) others.node
      ∙ ap (λ (d : D). world_at old.node.now (disk d) (link new.link.now) (clock new.clock.now)) others.disk
      ∙ ap (λ (c : C). world_at old.node.now (disk old.disk.now) (link new.link.now) (clock c)) others.clock

  pub only_sends : (conn : ℕ) (bytes : List ℕ) → GoesOut conn bytes
      (link old.link.now).told (link new.link.now).told (link old.link.now).send_faults (link new.link.now).send_faults
      → OnlySends conn bytes (world_in disk link clock old) (world_in disk link clock new)
  only_sends conn bytes out = record { out = out; same = but_the_link }
