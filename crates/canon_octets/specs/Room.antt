-- How much room a place has.
use Rattle.std.specs.Prelude.{◌≡◌, ℕ, ◌-◌, Option, None, Some, nat_le, if◌then◌else◌}
use Rattle.canon_octets.specs.declared.room.Room.{Room}

-- what is left of the room for so many bytes once n came: none once these are more
abbrev pub left_of : ℕ → ℕ → Option ℕ
left_of limit n = if nat_le n limit then Some (limit - n) else None

-- there was room for so many bytes, and n came
abbrev pub HasCome : Room → ℕ → ℕ → Type 0
HasCome room limit n = room.left ≡ left_of limit n
