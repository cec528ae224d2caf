-- Words by which the code keeps the users: where a name stands.
use Rattle.std.specs.Prelude.{◌≡◌, ℕ, suc, Bool, true, ◌&&◌, not, nat_le, List, [], ◌∷◌, Option, None, Some, String, if◌then◌else◌}
use Rattle.std.specs.List.{list_all, list_any}
use Rattle.std.specs.Option.{option_map}
use Rattle.std.specs.declared.alloc.Global.{Global}
use Rattle.std.specs.BTreeMap.{BTreeMap, get_by_text}
use Rattle.std.specs.Str.{bytes_eq}
use Rattle.user_store.specs.declared.user.User.{User}

-- where the first user of a name stands
abbrev pub place_of : List ℕ → List User → Option ℕ
place_of name [] = None
place_of name (user ∷ users) = if bytes_eq name user.name then Some 0 else option_map suc (place_of name users)

-- no two users have one name
abbrev pub differ : List User → Bool
differ [] = true
differ (user ∷ users) = not (list_any (λ other. bytes_eq user.name other.name) users) && differ users

-- the names differ, each leads to its place, and each user has a round
pub record IsStore (users : List User) (places : BTreeMap (String Global) ℕ) : Type 0 where
  pub apart : differ users ≡ true
  pub leads : (name : List ℕ) → get_by_text places name ≡ place_of name users
  pub rounds : list_all (λ user. nat_le 1 user.rounds) users ≡ true
