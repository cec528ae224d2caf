use Rattle.std.proofs.Common.{◌≡◌, drop}
use Rattle.xml_spec.specs.Names.{scheme_goes_on}
use Rattle.element_names.proofs.qualified.scheme_goes_on.Given as goal

-- what is left decides
abbrev pub invariant-loop-byte : goal.invariant-loop-byte
invariant-loop-byte l = scheme_goes_on (drop l.byte-index l.bytes) ≡ scheme_goes_on l.bytes
