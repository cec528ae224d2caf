-- What `canon FILE` and `canon FILE ID` answer of the element that is asked for.
use Rattle.std.specs.Prelude.{◌≡◌, ℕ, [], None}
use Rattle.xml_spec.specs.Tree.{Nodes}
use Rattle.xml_spec.specs.Canonical.{canonical}
use Rattle.saml_commands.specs.Answers.{Answer, Printed}

-- the canonical form of the element
abbrev pub OfCanon : Nodes → ℕ → Answer → Type 0
OfCanon tree node answer = answer ≡ Printed (canonical tree node None [])
