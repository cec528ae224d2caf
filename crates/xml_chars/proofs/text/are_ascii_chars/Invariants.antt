use Rattle.std.proofs.Common.{◌≡◌, take}
use Rattle.std.specs.List.{list_all}
use Rattle.xml_chars.specs.AsciiTexts.{is_ascii_char}
use Rattle.xml_chars.proofs.text.are_ascii_chars.Given as goal

abbrev pub invariant-loop-byte : goal.invariant-loop-byte
invariant-loop-byte l = l.all ≡ list_all is_ascii_char (take l.byte-index l.bytes)
