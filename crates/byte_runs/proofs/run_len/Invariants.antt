use Rattle.std.proofs.Common.{◌≤◌, ◌-◌, length, take}
use Rattle.xml_spec.specs.Bytes.{AllPass}
use Rattle.byte_runs.proofs.run_len.Given as goal

abbrev pub invariant-blocks-2 : goal.invariant-blocks-2
invariant-blocks-2 g l = record {
  within : l.at ≤ length l.bytes;
  passes : AllPass (g.C.ByteClass.contains l.class) (take l.at l.bytes);
}

abbrev pub decreases-blocks-2 : goal.decreases-blocks-2
decreases-blocks-2 g l = length l.bytes - l.at
