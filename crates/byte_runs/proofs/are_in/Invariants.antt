use Rattle.std.proofs.Common.{take, IsTrue}
use Rattle.xml_spec.specs.Bytes.{AllPass}
use Rattle.byte_runs.proofs.are_in.Given as goal

abbrev pub invariant-loop-byte : goal.invariant-loop-byte
invariant-loop-byte g l = IsTrue l.all → AllPass (g.C.ByteClass.contains l.class) (take l.byte-index l.bytes)
