-- Names that are kept with the place of their colon: Namespaces in XML 1.0, 4.
use Rattle.std.specs.Prelude.{◌≡◌, ℕ, ◌-◌, ◌<◌, ◌≤◌, List, length, Some, None, take, drop}
use Rattle.xml_spec.specs.Characters.{at_colon, IsName}

-- a Name of which so many bytes stand up to behind its first colon; none where it has no colon
pub record IsSplitName (name : List ℕ) (front : ℕ) : Type 0 where
  pub named : IsName name
  pub inside : front ≤ length name
  pub whole : front ≡ 0 → at_colon name ≡ None
  pub parts : 0 < front → at_colon name ≡ Some (take (front - 1) name, drop front name)
