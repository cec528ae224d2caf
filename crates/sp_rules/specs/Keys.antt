-- The keys of the identity provider that count at a moment. Keys are agreed on between two providers (SAML Core, 5.4.5 leaves
-- them to the parties); for a time a second key may count beside the first.
use Rattle.std.specs.Prelude.{ℕ, List, [], ◌∷◌, ◌++◌, Option, None, Some, nat_lt, nat_le, if◌then◌else◌}
use Rattle.sp_rules.specs.declared.config.NextKey.{NextKey}
use Rattle.sp_rules.specs.declared.config.SpConfig.{SpConfig}

-- a key, and the number that a session keeps of it
pub record Key : Type 0 where
  pub number : ℕ
  pub bytes : List ℕ

-- the first key counts until the moment at which the second alone does
abbrev pub first_key : List ℕ → Option NextKey → ℕ → List Key
first_key bytes None now = record { number = 1; bytes = bytes } ∷ []
first_key bytes (Some next) now = if nat_lt now next.until then record { number = 1; bytes = bytes } ∷ [] else []

-- the second key, where there is one, counts from its moment on
abbrev pub second_key : Option NextKey → ℕ → List Key
second_key None now = []
second_key (Some next) now = if nat_le next.from now then record { number = 2; bytes = next.key } ∷ [] else []

-- the keys that count, in order
abbrev pub usable : SpConfig → ℕ → List Key
usable config now = first_key config.key_in config.next_in now ++ second_key config.next_in now
