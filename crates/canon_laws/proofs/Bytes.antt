-- The bytes of characters: one below 128, or some from 128 on.
use Rattle.std.proofs.Common.{◌≡◌, ℕ, ◌+◌, ◌/◌, Bool, true, false, cond, nat_lt, nat_le, List, refl, arith}
use Rattle.std.specs.List.{list_all}
use Rattle.std.proofs.Math.Utf8.{encode, next}
use borrow.Author.Tests.{le-leb}
use Rattle.xml_spec.proofs.Tests.{and_true}

abbrev pub is_high : ℕ → Bool
is_high b = nat_le 128 b

either_all : (P : ℕ → Bool) (b : Bool) (x y : List ℕ) → list_all P x ≡ true → list_all P y ≡ true → list_all P (cond b x y) ≡ true
either_all P true x y h k = h
either_all P false x y h k = k

high_next : (c : ℕ) → is_high (next c) ≡ true
high_next c = le-leb 128 (next c) (omega arith)

-- the bytes of a character that is none of ASCII
pub high_encode : (c : ℕ) → nat_lt c 128 ≡ false → list_all is_high (encode c) ≡ true
unfolding encode
high_encode c h = rw h
    (either_all is_high (nat_lt c 2048) _ _
    (and_true _ _ (le-leb 128 (192 + c / 64) (omega arith)) (and_true _ _ (high_next c) refl))
    (either_all is_high (nat_lt c 65536) _ _
    (and_true _ _ (le-leb 128 (224 + c / 4096) (omega arith)) (and_true _ _ (high_next (c / 64)) (and_true _ _ (high_next c) refl)))
    (and_true _ _ (le-leb 128 (240 + c / 262144) (omega arith)) (and_true _ _ (high_next (c / 4096)) (and_true _ _ (high_next (c / 64)) (and_true _ _ (high_next c) refl))))))
