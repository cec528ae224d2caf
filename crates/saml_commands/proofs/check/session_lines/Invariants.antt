-- There are the lines of each attribute so far.
use Rattle.std.proofs.Common.{◌≡◌, ◌++◌, take}
use Rattle.std.specs.List.{flat_map}
use Rattle.saml_commands.specs.Check.{attribute_lines}
use Rattle.saml_commands.proofs.check.session_lines.Given as goal

abbrev pub invariant-loop-attribute : goal.invariant-loop-attribute
invariant-loop-attribute l = l.out ≡ l.initial.out ++ flat_map attribute_lines (take l.attribute-index l.session.attributes)
