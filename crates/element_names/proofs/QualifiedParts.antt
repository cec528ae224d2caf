-- A name with a colon is qualified where both of its parts have none.
use Rattle.std.proofs.Common.{◌≡◌, ℕ, Bool, true, false, List, [], Option, Some, None, is_some, unwrap_or, MatchOption, IsTrue, ◌↔◌}
use Rattle.std.specs.Option.{option_map}
use Rattle.xml_spec.specs.Characters.{at_colon, prefix_of, local_of, IsName, IsNoColonName, IsQualifiedName}

abbrev Parts : Type 0
Parts = List ℕ × List ℕ

abbrev by_parts : List ℕ → Bool → Option Parts → Type 0
by_parts name local o =
    is_some o ≡ true → IsNoColonName (unwrap_or (option_map (λ (parts : Parts). parts.0) o) []) →
    (IsTrue local ↔ IsNoColonName (unwrap_or (option_map (λ (parts : Parts). parts.1) o) name)) →
    IsTrue local ↔ MatchOption o (IsName name) (λ (parts : Parts). IsNoColonName parts.0 × IsNoColonName parts.1)

any_parts : (name : List ℕ) (local : Bool) (o : Option Parts) → by_parts name local o
any_parts name local None some prefix h = absurd (let clash : false ≡ true = some in cc)
any_parts name local (Some parts) some prefix h = (λ t. (prefix, h.0 t), λ q. h.1 q.1)

pub qualified_by_local : (name : List ℕ) (local : Bool) → is_some (at_colon name) ≡ true → IsNoColonName (prefix_of name) →
    (IsTrue local ↔ IsNoColonName (local_of name)) → IsTrue local ↔ IsQualifiedName name
qualified_by_local name local some prefix h = any_parts name local (at_colon name) some prefix h
