use Rattle.std.proofs.Common.{take}
use Rattle.xml_spec.specs.Bytes.{AllPass}
use Rattle.xml_tokens.specs.Lexing.{is_in}
use Rattle.xml_tokens.proofs.class.short_len.Given as goal

abbrev pub invariant-loop-i : goal.invariant-loop-i
invariant-loop-i l = AllPass (is_in l.class) (take l.i l.bytes)
