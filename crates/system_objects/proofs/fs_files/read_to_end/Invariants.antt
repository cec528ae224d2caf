-- What was kept is what the reader gave, and no more than the limit.
use Rattle.std.proofs.Common.{◌≡◌, ◌≤◌, length}
use Rattle.std.specs.Io.KnownBytes.{Consumes}
use Rattle.system_objects.proofs.fs_files.read_to_end.Given as goal

abbrev pub invariant-loop : goal.invariant-loop
invariant-loop g l =
    (length l.piece ≡ 16384)
    × (length l.into.items ≤ l.limit)
    × Consumes (g.F.Read.remaining l.initial.file) (g.F.Read.remaining l.file) l.into.items
