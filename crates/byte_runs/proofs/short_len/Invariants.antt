use Rattle.std.proofs.Common.{take}
use Rattle.xml_spec.specs.Bytes.{AllPass}
use Rattle.byte_runs.proofs.short_len.Given as goal

abbrev pub invariant-loop-i : goal.invariant-loop-i
invariant-loop-i g l = AllPass (g.C.ByteClass.contains l.class) (take l.i l.bytes)
