use Rattle.std.proofs.Common.{take}
use Rattle.xml_spec.specs.Bytes.{AllPass}
use Rattle.xml_tokens.specs.Lexing.{is_ascii_name_byte}
use Rattle.xml_tokens.proofs.parts.ascii_len.Given as goal

abbrev pub invariant-loop-i : goal.invariant-loop-i
invariant-loop-i l = AllPass is_ascii_name_byte (take l.i l.bytes)
