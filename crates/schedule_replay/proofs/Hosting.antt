-- What becomes of a node at a piece.
use Rattle.std.specs.Prelude.{◌≡◌, ℕ, List}
use Rattle.std.proofs.Common.{None, Ok, refl, ap, ◌∙◌, arith}
use Rattle.crash_disk.specs.InMemory.{shown_in_memory}
use Rattle.crash_disk.specs.Memory.{DiskInMemory}
use Rattle.crash_disk.specs.Soundness.{left_now}
use Rattle.http_wire.specs.Answers.{fixed}
use Rattle.serve_loop.specs.Serving.{MightLeave}
use Rattle.serve_loop.specs.Turns.{Turn}
use Rattle.serve_loop.specs.Worlds.{NodeLeaves, OnlySends}
use Rattle.serve_loop.proofs.Leaving.{untouched}
use Rattle.schedule_replay.specs.Hosts.{Host, Leaving, told, world_of}

-- a node and a disk that are as they were are in the world that was
pub same_world : {N : Type 0} (now : ℕ) (old new : Host N) → new.node ≡ old.node → new.disk ≡ old.disk → world_of now new ≡ world_of now old
same_world now old new node disk =
    ap (λ n. world_of now (record new { node = n })) node ∙ ap (λ (d : DiskInMemory). world_of now (record new { node = old.node; disk = d })) disk

-- where no link is, a page goes out and all else is as it was
pub sends_page : {N : Type 0} (conn code now : ℕ) (old new : Host N) → new.node ≡ old.node → new.disk ≡ old.disk →
    OnlySends conn (fixed code) (world_of now old) (world_of now new)
sends_page conn code now old new node disk =
    record { out = (Ok tt, None, refl, refl, omega arith, tt, refl); same = same_world now old new node disk }

-- a disk that is as it was leaves what it may leave
pub leaves_same : {N : Type 0} (leaves : NodeLeaves N) (old new : Host N) (turns : List (Turn N)) → new.disk ≡ old.disk →
    Leaving old new (MightLeave leaves (told old) turns)
leaves_same leaves old new turns same =
    untouched leaves shown_in_memory left_now old.disk new.disk turns same
