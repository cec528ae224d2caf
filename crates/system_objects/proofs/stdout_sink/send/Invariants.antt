-- The bytes that were sent are those that the writer took.
use Rattle.std.proofs.Common.{◌≤◌, length, take}
use Rattle.std.specs.Io.KnownBytes.{Appends}
use Rattle.system_objects.proofs.stdout_sink.send.Given as goal

abbrev pub invariant-loop : goal.invariant-loop
invariant-loop g l =
    (l.sent ≤ length l.piece)
    × Appends (g.W.Write.contents l.initial.out) (g.W.Write.contents l.out) (take l.sent l.piece)
