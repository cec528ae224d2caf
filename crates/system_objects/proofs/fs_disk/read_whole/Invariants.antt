-- What lies in front is what the reader gave so far.
use Rattle.std.proofs.Common.{◌≤◌, length, take}
use Rattle.std.specs.Io.KnownBytes.{Consumes}
use Rattle.system_objects.proofs.fs_disk.read_whole.Given as goal

abbrev pub invariant-loop : goal.invariant-loop
invariant-loop g l =
    (l.count ≤ length l.into)
    × Consumes (g.F.Read.remaining l.initial.file) (g.F.Read.remaining l.file) (take l.count l.into)
