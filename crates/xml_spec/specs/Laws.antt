-- What the laws of the definitions say.
use Rattle.std.specs.Prelude.{◌≡◌, ℕ, ◌&&◌, not, ◌||◌, ◌==◌, List, [], ◌∷◌, ◌++◌, map, if◌then◌else◌, IsTrue, count_by, ⊤}
use Rattle.std.specs.List.{list_any, AllByRecursion}
use Rattle.std.specs.declared.cmp.Ordering.{Ordering}
use Rattle.std.specs.Ordering.{is_lt, is_le}
use Rattle.std.specs.Str.{bytes_eq}
use Rattle.xml_spec.specs.Ascii.{ampersand, less_than}
use Rattle.xml_spec.specs.Bytes.{begins_with}
use Rattle.xml_spec.specs.Tree.{Attribute}
use Rattle.xml_spec.specs.Syntax.{Token, is_run, IsToken, print_token}
use Rattle.xml_spec.specs.Names.{Binding, Scope}
use Rattle.xml_spec.specs.Canonical.{used_prefixes, listed_prefix, is_rendered_anew, written_declarations}

-- each is below all that follow it
abbrev pub IsAscending : {X : Type 0} → (X → X → Ordering) → List X → Type 0
IsAscending order [] = ⊤
IsAscending order (x ∷ xs) = AllByRecursion (λ y. IsTrue (is_lt (order x y))) xs × IsAscending order xs

-- none is above one that follows it
abbrev pub IsNonDescending : {X : Type 0} → (X → X → Ordering) → List X → Type 0
IsNonDescending order [] = ⊤
IsNonDescending order (x ∷ xs) = AllByRecursion (λ y. IsTrue (is_le (order x y))) xs × IsNonDescending order xs

-- how often a prefix is declared
abbrev pub times_declared : List ℕ → List Binding → ℕ
times_declared prefix bindings = count_by (λ b. bytes_eq b.prefix prefix) bindings

-- a prefix is written once where the element uses it or the list has it, and its rendered binding is another; else never
abbrev pub IsDeclaredAsNeeded : List (List ℕ) → Scope → Scope → List ℕ → List Attribute → List ℕ → Type 0
IsDeclaredAsNeeded listed scope rendered name attributes prefix =
    times_declared prefix (written_declarations listed scope rendered name attributes)
    ≡ (if list_any (bytes_eq prefix) (used_prefixes name attributes ++ map listed_prefix listed)
    && is_rendered_anew scope rendered prefix then 1 else 0)

-- a run of characters goes on as long as it can: what follows the token begins with markup or is the end
abbrev pub IsWhole : Token → List ℕ → Type 0
IsWhole token rest =
    IsTrue (not (is_run token && begins_with (λ b. not (b == less_than || b == ampersand)) rest))

-- these bytes begin with this token, and no valid tokens that print them begin with another
pub record BeginsWith (bytes : List ℕ) (token : Token) (rest : List ℕ) : Type 0 where
  pub valid : IsToken token
  pub whole : IsWhole token rest
  pub printed : bytes ≡ print_token token ++ rest
