-- The bytes that were sent are those that the writer took.
use Rattle.std.proofs.Common.{◌≤◌, length, take}
use Rattle.std.specs.Io.KnownBytes.{Appends}
use Rattle.socket_table.proofs.streams.put.Given as goal

abbrev pub invariant-loop : goal.invariant-loop
invariant-loop g l =
    (l.count ≤ length l.bytes)
    × Appends (g.S.Write.contents l.initial.stream) (g.S.Write.contents l.stream) (take l.count l.bytes)
