-- A text is told by what is printed of it.
use Rattle.std.specs.Prelude.{nat_le, true, codes}
use Rattle.std.specs.List.{All}
use Rattle.std.proofs.Common.{◌≡◌, ℕ, ◌+◌, ◌/◌, ◌%◌, ◌<◌, List, [], ◌∷◌, ◌++◌, refl, sym, arith, inl, inr}
use Rattle.std.proofs.lemmas.Bool.{cases_Bool, leb-true}
use Rattle.std.proofs.lemmas.List.{append_cancel_left}
use Rattle.std.proofs.lemmas.List.Elements.{All-head, All-tail}
use Rattle.record_lines.specs.Escapes.{backslash, is_plain, hex_digit, coded_byte, escaped_byte, escaped}
use Rattle.record_lines.specs.Lines.{text_piece}

-- digits of base 16 differ
hex_is : (n m : ℕ) → n < 16 → m < 16 → hex_digit n ≡ hex_digit m → n ≡ m
hex_is n m h k e =
    elim (cases_Bool (nat_le 10 n)) [
      | inl high ↦ elim (cases_Bool (nat_le 10 m)) [
        | inl high' ↦ let same : 87 + n ≡ 87 + m = rw (high, high') at e in omega arith
        | inr low' ↦ let same : 87 + n ≡ 48 + m = rw (high, low') at e in absurd (omega (arith, leb-true _ _ high))
      ]
      | inr low ↦ elim (cases_Bool (nat_le 10 m)) [
        | inl high' ↦ let same : 48 + n ≡ 87 + m = rw (low, high') at e in absurd (omega (arith, leb-true _ _ high'))
        | inr low' ↦ let same : 48 + n ≡ 48 + m = rw (low, low') at e in omega arith
      ]
    ]

not_backslash : (b : ℕ) → is_plain b ≡ true → b ≡ backslash → ⊥
not_backslash b plain e = let no : is_plain backslash ≡ true = rw e at plain in cc

-- what is printed of a byte, and what comes behind it
coded_is : (x y : ℕ) (xs ys : List ℕ) → x < 256 → y < 256 → coded_byte x ++ xs ≡ coded_byte y ++ ys → (x ≡ y) × (xs ≡ ys)
coded_is x y xs ys h k e =
    let high : hex_digit (x / 16 % 16) ≡ hex_digit (y / 16 % 16) = cc in
    let low : hex_digit (x % 16) ≡ hex_digit (y % 16) = cc in
    let rest : xs ≡ ys = cc in
    let highs : x / 16 % 16 ≡ y / 16 % 16 = hex_is _ _ (omega arith) (omega arith) high in
    let lows : x % 16 ≡ y % 16 = hex_is _ _ (omega arith) (omega arith) low in
    (omega arith, rest)

byte_is : (x y : ℕ) (xs ys : List ℕ) → x < 256 → y < 256 → escaped_byte x ++ xs ≡ escaped_byte y ++ ys → (x ≡ y) × (xs ≡ ys)
byte_is x y xs ys h k e =
    elim (cases_Bool (is_plain x)) [
      | inl plain ↦ elim (cases_Bool (is_plain y)) [
        | inl plain' ↦ let same : x ∷ xs ≡ y ∷ ys = rw (plain, plain') at e in (cc, cc)
        | inr coded' ↦ let same : x ∷ xs ≡ coded_byte y ++ ys = rw (plain, coded') at e in absurd (not_backslash x plain (cc))
      ]
      | inr coded ↦ elim (cases_Bool (is_plain y)) [
        | inl plain' ↦ let same : coded_byte x ++ xs ≡ y ∷ ys = rw (coded, plain') at e in absurd (not_backslash y plain' (cc))
        | inr coded' ↦ let same : coded_byte x ++ xs ≡ coded_byte y ++ ys = rw (coded, coded') at e in coded_is x y xs ys h k same
      ]
    ]

not_empty : (x : ℕ) (xs : List ℕ) → escaped_byte x ++ xs ≡ [] → ⊥
not_empty x xs e =
    elim (cases_Bool (is_plain x)) [
      | inl plain ↦ let same : x ∷ xs ≡ [] = rw plain at e in cc
      | inr coded ↦ let same : coded_byte x ++ xs ≡ [] = rw coded at e in cc
    ]

escaped_is : (xs ys : List ℕ) → All (λ b. b < 256) xs → All (λ b. b < 256) ys → escaped xs ≡ escaped ys → xs ≡ ys
escaped_is [] [] h k e = refl
escaped_is [] (y ∷ ys) h k e = absurd (not_empty y (escaped ys) (sym e))
escaped_is (x ∷ xs) [] h k e = absurd (not_empty x (escaped xs) e)
escaped_is (x ∷ xs) (y ∷ ys) h k e =
    let P : ℕ → Type 0 = λ b. b < 256 in
    let parts = byte_is x y (escaped xs) (escaped ys) (All-head P x xs h) (All-head P y ys k) e in
    let rest = escaped_is xs ys (All-tail P x xs h) (All-tail P y ys k) parts.1 in
    λ i. parts.0 i ∷ rest i

pub piece_is : (name xs ys : List ℕ) → All (λ b. b < 256) xs → All (λ b. b < 256) ys → text_piece name xs ≡ text_piece name ys → xs ≡ ys
piece_is name xs ys h k e = escaped_is xs ys h k (append_cancel_left (name ++ codes "=") (escaped xs) (escaped ys) e)
