-- What tests joined by "and" and "or" say where they fail.
use Rattle.std.proofs.Common.{◌≡◌, Bool, true, false, ◌&&◌, ◌||◌, refl}

pub second_fails : (a b : Bool) → b ≡ false → (a && b) ≡ false
second_fails true b h = h
second_fails false b h = refl

pub either_fails : (a b : Bool) → a ≡ false → b ≡ false → (a || b) ≡ false
either_fails true b h k = absurd (let clash : true ≡ false = h in cc)
either_fails false b h k = k
