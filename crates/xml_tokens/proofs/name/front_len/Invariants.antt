use Rattle.std.proofs.Common.{take}
use Rattle.xml_spec.specs.Ascii.{colon}
use Rattle.xml_spec.specs.Bytes.{AllPass}
use Rattle.xml_tokens.specs.Lexing.{is_other}
use Rattle.xml_tokens.proofs.name.front_len.Given as goal

abbrev pub invariant-loop-i : goal.invariant-loop-i
invariant-loop-i l = AllPass (is_other colon) (take l.i l.name)
