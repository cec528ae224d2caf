use Rattle.std.proofs.Common.{◌≡◌, take}
use Rattle.std.specs.List.{list_any}
use Rattle.xml_spec.specs.Syntax.{is_white}
use Rattle.post_binding.proofs.text.has_white.Given as goal

abbrev pub invariant-loop-byte : goal.invariant-loop-byte
invariant-loop-byte l = l.any ≡ list_any is_white (take l.byte-index l.bytes)
