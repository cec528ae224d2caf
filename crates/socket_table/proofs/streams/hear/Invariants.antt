-- What lies in front is what the reader gave so far.
use Rattle.std.proofs.Common.{◌≤◌, length, take}
use Rattle.std.specs.Io.KnownBytes.{Consumes}
use Rattle.socket_table.proofs.streams.hear.Given as goal

abbrev pub invariant-loop : goal.invariant-loop
invariant-loop g l =
    (l.count ≤ length l.into)
    × Consumes (g.S.Read.remaining l.initial.stream) (g.S.Read.remaining l.stream) (take l.count l.into)
