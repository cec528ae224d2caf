-- What the code keeps of an index, beside its order.
use Rattle.std.specs.Prelude.{◌≡◌, ℕ, ◌<◌, ◌≤◌, ◌-◌, false, List, length, slice_index, All, Contains, Vec, vec_len, vec_capacity}
use Rattle.std.specs.List.Sorted.{IsStrictlyIncreasing}
use Rattle.std.specs.Ordering.{nat_cmp, ordering_then, is_lt}
use Rattle.std.specs.declared.cmp.Ordering.{Ordering}
use Rattle.std.specs.declared.cmp.Ordering.TheVariants.{Less}
use Rattle.ledger_rules.specs.Order.{KeyTexts, key_order, key_at}
use Rattle.request_rows.specs.declared.key.Key.{Key}

-- the texts of a key
abbrev pub key_texts : Key → KeyTexts
key_texts key = record { first = key.first.now; second = key.second.now }

-- the order of the key at place p and p itself to another key and place
abbrev pub entry_order : List KeyTexts → ℕ → KeyTexts → ℕ → Ordering
entry_order keys p key place = ordering_then (key_order (key_at keys p) key) (nat_cmp p place)

-- so many entries of an index come before a key and a place
pub record IsRank (keys : List KeyTexts) (places : List ℕ) (key : KeyTexts) (place rank : ℕ) : Type 0 where
  pub within : rank ≤ length places
  pub before : (k : ℕ) → k < rank → entry_order keys (slice_index places k) key place ≡ Less
  pub behind : (k : ℕ) → rank ≤ k → k < length places → is_lt (entry_order keys (slice_index places k) key place) ≡ false

-- the places of a key: the key stands at each, each where it stands is there, and they ascend
pub record ArePlacesOf (keys : List KeyTexts) (key : KeyTexts) (places : List ℕ) : Type 0 where
  pub sound : All (λ p. (p < length keys) × (key_at keys p ≡ key)) places
  pub complete : (p : ℕ) → p < length keys → key_at keys p ≡ key → Contains places p
  pub ascends : IsStrictlyIncreasing places

-- for how many more elements a vector has room
abbrev pub room : {X A : Type 0} → Vec X A → ℕ
room v = vec_capacity v - vec_len v
