-- The bytes so far are put as they are printed.
use Rattle.std.proofs.Common.{◌≡◌, ◌++◌, take}
use Rattle.std.specs.List.{flat_map}
use Rattle.record_lines.specs.Escapes.{escaped_name_byte}
use Rattle.record_lines.proofs.escaping.put_escaped_name.Given as goal

abbrev pub invariant-loop-byte : goal.invariant-loop-byte
invariant-loop-byte l = l.out ≡ l.initial.out ++ flat_map escaped_name_byte (take l.byte-index l.name)
