-- What is read at the front is what is spelled there, and what is spelled there is read.
use Rattle.std.proofs.Common.{◌≡◌, ℕ, zero, suc, ◌+◌, ◌^◌, ◌<◌, ◌≤◌, Bool, true, false, cond, ltb, List, [], ◌∷◌, ◌++◌, length, get_or, take, drop, Option, Some, None, refl, sym, ap, subst, ◌∙◌, append_assoc, arith, inl, inr}
use Rattle.std.specs.Prelude.{IfSome, IsUtf8}
use Rattle.std.specs.Str.{is_utf8}
use Rattle.std.specs.Int.{Width, w32, w64, byte_len, from_be_bytes, to_be_bytes}
use Rattle.std.proofs.lemmas.Bool.{cases_lt, ltb-false, le-ltb}
use Rattle.std.proofs.lemmas.Str.{IsUtf8-from_is_utf8, is_utf8-from_IsUtf8}
use Rattle.std.proofs.lemmas.List.{take_at, drop_at, take-append-drop, length-append, length-take, get_or-drop, get_or-take, get_or_past}
use Rattle.std.proofs.lemmas.Nat.{be_bytes_4, be_bytes_8, from_be_bytes-to_be_bytes_4, from_be_bytes-to_be_bytes_8}
use Rattle.ledger_records.specs.declared.key_number.KeyNumber.{KeyNumber}
use Rattle.ledger_records.specs.declared.key_number.KeyNumber.TheVariants.{First, Second}
use Rattle.ledger_records.specs.Fields.{number, count, text, option_of, flag, key_byte}
use Rattle.ledger_records.specs.Reading.{number_at, text_of, text_at, flag_at, key_at, option_at, value_if}
use Rattle.owned_values.specs.Options.{◌>>=◌, in_utf8}

-- ---- bytes

abbrev pub IsBytes : List ℕ → Type 0
IsBytes bytes = (i : ℕ) → get_or bytes i 0 < 256

IsBytes-drop : (n : ℕ) (bytes : List ℕ) → IsBytes bytes → IsBytes (drop n bytes)
IsBytes-drop n bytes h i = rw get_or-drop (h (n + i))

IsBytes-take : (n : ℕ) (bytes : List ℕ) → IsBytes bytes → IsBytes (take n bytes)
IsBytes-take n bytes h i =
    elim (cases_lt i n) [
      | inl lt ↦ rw (get_or-take n bytes i 0 lt) (h i)
      | inr le ↦ rw (get_or_past (take n bytes) i 0 (omega (arith, length-take n bytes))) (omega arith)
    ]

pub IsBytes-rest : (b : ℕ) (bytes : List ℕ) → IsBytes (b ∷ bytes) → IsBytes bytes
IsBytes-rest b bytes h i = h (suc i)

-- ---- steps that did not fail

pub bind_some : {A B : Type 0} (o : Option A) (f : A → Option B) (y : B) → (o >>= f) ≡ Some y → (x : A) × (o ≡ Some x) × (f x ≡ Some y)
bind_some (Some x) f y e = (x, refl, e)
bind_some None f y e = absurd cc

pub guard_some : {A : Type 0} (b : Bool) (o : Option A) (y : A) → cond b None o ≡ Some y → (b ≡ false) × (o ≡ Some y)
guard_some true o y e = absurd cc
guard_some false o y e = (refl, e)

pub test_some : {A : Type 0} (b : Bool) (x y : A) → cond b (Some x) None ≡ Some y → (b ≡ true) × (x ≡ y)
test_some true x y e = (refl, cc)
test_some false x y e = absurd cc

abbrev done : {A : Type 0} → A → Option A
done x = Some x

pub some_is : {A : Type 0} (x y : A) → done x ≡ done y → x ≡ y
some_is x y e = cc

-- ---- a front of the bytes

-- what a reader took from the front
pub record Takes (bytes front rest : List ℕ) : Type 0 where
  pub parts : bytes ≡ front ++ rest
  pub rest_fits : IsBytes rest

pub Takes-then : (a x b y c : List ℕ) → Takes a x b → Takes b y c → Takes a (x ++ y) c
Takes-then a x b y c p q = record { parts = p.parts ∙ ap (λ (t : List ℕ). x ++ t) q.parts ∙ sym (append_assoc x y c); rest_fits = q.rest_fits }

-- A reader of the front and a spelling fit each other, for values that may be spelled, in fewer than 2 ^ 32 bytes.
pub record Spelled {X : Type 0} (at : List ℕ → Option (X × List ℕ)) (spelling : X → List ℕ) (May : X → Type 0) : Type 0 where
  pub takes : (bytes : List ℕ) (x : X) (rest : List ℕ) → IsBytes bytes → at bytes ≡ Some (x, rest) → Takes bytes (spelling x) rest × May x
  pub again : (x : X) (rest : List ℕ) → May x → length (spelling x ++ rest) < 2 ^ 32 → at (spelling x ++ rest) ≡ Some (x, rest)
  pub long : (x : X) → 0 < length (spelling x)

-- ---- numbers

pub record IsWide (w : Width) (limit : ℕ) : Type 0 where
  pub len : (n : ℕ) → length (to_be_bytes w n) ≡ byte_len w
  pub back : (bytes : List ℕ) → length bytes ≡ byte_len w → IsBytes bytes → to_be_bytes w (from_be_bytes w bytes) ≡ bytes
  pub again : (n : ℕ) → n < limit → from_be_bytes w (to_be_bytes w n) ≡ n
  pub below : (bytes : List ℕ) → IsBytes bytes → from_be_bytes w bytes < limit
  pub some : 0 < byte_len w

pub wide32 : IsWide w32 (2 ^ 32)
wide32 = record {
  len = λ n. refl;
  back = λ bytes len fits. be_bytes_4 bytes _ len fits refl;
  again = λ n lt. from_be_bytes-to_be_bytes_4 n lt;
  below = λ bytes fits. omega (arith, fits 0, fits 1, fits 2, fits 3);
  some = omega arith;
}

pub wide64 : IsWide w64 (2 ^ 64)
wide64 = record {
  len = λ n. refl;
  back = λ bytes len fits. be_bytes_8 bytes _ len fits refl;
  again = λ n lt. from_be_bytes-to_be_bytes_8 n lt;
  below = λ bytes fits. omega (arith, fits 0, fits 1, fits 2, fits 3, fits 4, fits 5, fits 6, fits 7);
  some = omega arith;
}

number_takes : (w : Width) (limit : ℕ) (wide : IsWide w limit) (bytes : List ℕ) (n : ℕ) (rest : List ℕ) → IsBytes bytes → number_at w bytes ≡ Some (n, rest) → Takes bytes (to_be_bytes w n) rest × (n < limit)
number_takes w limit wide bytes n rest fits e =
    let g = guard_some (ltb (length bytes) (byte_len w)) (Some (from_be_bytes w (take (byte_len w) bytes), drop (byte_len w) bytes)) (n, rest) e in
    let same = some_is (from_be_bytes w (take (byte_len w) bytes), drop (byte_len w) bytes) (n, rest) g.1 in
    let long : byte_len w ≤ length bytes = ltb-false _ _ g.0 in
    let n-is : from_be_bytes w (take (byte_len w) bytes) ≡ n = ap (λ (p : ℕ × List ℕ). p.0) same in
    let rest-is : drop (byte_len w) bytes ≡ rest = ap (λ (p : ℕ × List ℕ). p.1) same in
    let front : to_be_bytes w n ≡ take (byte_len w) bytes = rw (← n-is) (wide.back (take (byte_len w) bytes) (omega (arith, length-take (byte_len w) bytes)) (IsBytes-take (byte_len w) bytes fits)) in
    (record { parts = rw (front, ← rest-is) (sym (take-append-drop (byte_len w) bytes)); rest_fits = rw (← rest-is) (IsBytes-drop (byte_len w) bytes fits) }, rw (← n-is) (wide.below (take (byte_len w) bytes) (IsBytes-take (byte_len w) bytes fits)))

pub number_again : (w : Width) (limit : ℕ) (wide : IsWide w limit) (n : ℕ) (rest : List ℕ) → n < limit → number_at w (to_be_bytes w n ++ rest) ≡ Some (n, rest)
number_again w limit wide n rest lt =
    let len = wide.len n in
    let long : ltb (length (to_be_bytes w n ++ rest)) (byte_len w) ≡ false = le-ltb _ _ (omega (arith, length-append (to_be_bytes w n) rest)) in
    rw (long, take_at (to_be_bytes w n) rest (byte_len w) len, drop_at (to_be_bytes w n) rest (byte_len w) len, wide.again n lt) refl

number_spelled : (w : Width) (limit : ℕ) → IsWide w limit → Spelled (number_at w) (to_be_bytes w) (λ n. n < limit)
number_spelled w limit wide = record {
  takes = number_takes w limit wide;
  again = λ n rest may short. number_again w limit wide n rest may;
  long = λ n. omega (arith, wide.len n, wide.some);
}

pub numbers : Spelled (number_at w64) number (λ n. n < 2 ^ 64)
numbers = number_spelled w64 (2 ^ 64) wide64

pub counts : Spelled (number_at w32) count (λ n. n < 2 ^ 32)
counts = number_spelled w32 (2 ^ 32) wide32

-- ---- texts

utf8_takes : (bytes chars : List ℕ) → in_utf8 bytes ≡ Some chars → (bytes ≡ chars) × IsUtf8 bytes
utf8_takes bytes chars e =
    let u = test_some (is_utf8 bytes) bytes chars e in
    (u.1, IsUtf8-from_is_utf8 bytes u.0)

text_of-takes : (bytes : List ℕ) (n : ℕ) (behind chars rest : List ℕ) → Takes bytes (count n) behind → text_of (n, behind) ≡ Some (chars, rest) → Takes bytes (text chars) rest × IsUtf8 chars
text_of-takes bytes n behind chars rest t e =
    let g = guard_some (ltb (length behind) n) (in_utf8 (take n behind) >>= λ found. Some (found, drop n behind)) (chars, rest) e in
    let b = bind_some (in_utf8 (take n behind)) (λ found. Some (found, drop n behind)) (chars, rest) g.1 in
    let u = utf8_takes (take n behind) b.0 b.1 in
    let same = some_is (b.0, drop n behind) (chars, rest) b.2 in
    let long : n ≤ length behind = ltb-false _ _ g.0 in
    let len : length (take n behind) ≡ n = omega (arith, length-take n behind) in
    let second : Takes behind (take n behind) (drop n behind) = record { parts = sym (take-append-drop n behind); rest_fits = IsBytes-drop n behind t.rest_fits } in
    let both = Takes-then bytes (count n) behind (take n behind) (drop n behind) t second in
    let whole : Takes bytes (text (take n behind)) (drop n behind) = subst (λ (k : ℕ). Takes bytes (count k ++ take n behind) (drop n behind)) (sym len) both in
    let found : Takes bytes (text b.0) (drop n behind) × IsUtf8 b.0 = subst (λ (x : List ℕ). Takes bytes (text x) (drop n behind) × IsUtf8 x) u.0 (whole, u.1) in
    subst (λ (p : List ℕ × List ℕ). Takes bytes (text p.0) p.1 × IsUtf8 p.0) same found

text_takes : (bytes chars rest : List ℕ) → IsBytes bytes → text_at bytes ≡ Some (chars, rest) → Takes bytes (text chars) rest × IsUtf8 chars
unfolding text_at
text_takes bytes chars rest fits e =
    let b = bind_some (number_at w32 bytes) text_of (chars, rest) e in
    text_of-takes bytes b.0.0 b.0.1 chars rest (counts.takes bytes b.0.0 b.0.1 fits b.1).0 b.2

-- the length of a text that is spelled in few bytes
length-text : (chars rest : List ℕ) → length (text chars ++ rest) ≡ 4 + (length chars + length rest)
length-text chars rest = omega (arith, length-append chars rest, ap length (append_assoc (count (length chars)) chars rest))

text_again : (chars rest : List ℕ) → IsUtf8 chars → length (text chars ++ rest) < 2 ^ 32 → text_at (text chars ++ rest) ≡ Some (chars, rest)
unfolding text_at
text_again chars rest utf8 short =
    let lt : length chars < 2 ^ 32 = omega (arith, length-text chars rest) in
    let long : ltb (length (chars ++ rest)) (length chars) ≡ false = le-ltb _ _ (omega (arith, length-append chars rest)) in
    let is : is_utf8 chars ≡ true = is_utf8-from_IsUtf8 chars utf8 in
    rw (number_again w32 (2 ^ 32) wide32 (length chars) (chars ++ rest) lt, long, take_at chars rest (length chars) refl, drop_at chars rest (length chars) refl, is) refl

pub text_spelled : Spelled text_at text IsUtf8
text_spelled = record {
  takes = text_takes;
  again = text_again;
  long = λ chars. omega (arith, length-text chars []);
}

-- ---- one byte

flag_takes : (bytes : List ℕ) (is : Bool) (rest : List ℕ) → IsBytes bytes → flag_at bytes ≡ Some (is, rest) → Takes bytes (flag is) rest × Unit {0}
unfolding flag_at
flag_takes [] is rest fits e = absurd cc
flag_takes (zero ∷ bytes) is rest fits e = subst (λ (p : Bool × List ℕ). Takes (0 ∷ bytes) (flag p.0) p.1 × Unit {0}) (some_is (false, bytes) (is, rest) e) (record { parts = refl; rest_fits = IsBytes-rest 0 bytes fits }, tt)
flag_takes (suc zero ∷ bytes) is rest fits e = subst (λ (p : Bool × List ℕ). Takes (1 ∷ bytes) (flag p.0) p.1 × Unit {0}) (some_is (true, bytes) (is, rest) e) (record { parts = refl; rest_fits = IsBytes-rest 1 bytes fits }, tt)
flag_takes (suc (suc b) ∷ bytes) is rest fits e = absurd cc

flag_again : (is : Bool) (rest : List ℕ) → Unit {0} → length (flag is ++ rest) < 2 ^ 32 → flag_at (flag is ++ rest) ≡ Some (is, rest)
unfolding flag_at
flag_again false rest may short = refl
flag_again true rest may short = refl

flag_long : (is : Bool) → 0 < length (flag is)
flag_long false = omega arith
flag_long true = omega arith

pub flag_spelled : Spelled flag_at flag (λ _. Unit {0})
flag_spelled = record { takes = flag_takes; again = flag_again; long = flag_long }

abbrev pub key_bytes : KeyNumber → List ℕ
key_bytes key = key_byte key ∷ []

key_takes : (bytes : List ℕ) (key : KeyNumber) (rest : List ℕ) → IsBytes bytes → key_at bytes ≡ Some (key, rest) → Takes bytes (key_bytes key) rest × Unit {0}
unfolding key_at
key_takes [] key rest fits e = absurd cc
key_takes (zero ∷ bytes) key rest fits e = absurd cc
key_takes (suc zero ∷ bytes) key rest fits e = subst (λ (p : KeyNumber × List ℕ). Takes (1 ∷ bytes) (key_bytes p.0) p.1 × Unit {0}) (some_is (First, bytes) (key, rest) e) (record { parts = refl; rest_fits = IsBytes-rest 1 bytes fits }, tt)
key_takes (suc (suc zero) ∷ bytes) key rest fits e = subst (λ (p : KeyNumber × List ℕ). Takes (2 ∷ bytes) (key_bytes p.0) p.1 × Unit {0}) (some_is (Second, bytes) (key, rest) e) (record { parts = refl; rest_fits = IsBytes-rest 2 bytes fits }, tt)
key_takes (suc (suc (suc b)) ∷ bytes) key rest fits e = absurd cc

key_again : (key : KeyNumber) (rest : List ℕ) → Unit {0} → length (key_bytes key ++ rest) < 2 ^ 32 → key_at (key_bytes key ++ rest) ≡ Some (key, rest)
unfolding key_at
key_again First rest may short = refl
key_again Second rest may short = refl

pub key_spelled : Spelled key_at key_bytes (λ _. Unit {0})
key_spelled = record { takes = key_takes; again = key_again; long = λ key. omega arith }

-- ---- a value that may be absent

module _ {X : Type 0} (at : List ℕ → Option (X × List ℕ)) (spelling : X → List ℕ) (May : X → Type 0) (law : Spelled at spelling May) where
  value_takes : (bytes : List ℕ) (is : Bool) (behind : List ℕ) (o : Option X) (rest : List ℕ) → Takes bytes (flag is) behind → value_if at (is, behind) ≡ Some (o, rest) → Takes bytes (option_of spelling o) rest × IfSome o May
  value_takes bytes false behind o rest t e = subst (λ (p : Option X × List ℕ). Takes bytes (option_of spelling p.0) p.1 × IfSome p.0 May) (some_is (None, behind) (o, rest) e) (t, tt)
  value_takes bytes true behind o rest t e =
      let b = bind_some (at behind) (λ x. Some (Some x.0, x.1)) (o, rest) e in
      let u = law.takes behind b.0.0 b.0.1 t.rest_fits b.1 in
      subst (λ (p : Option X × List ℕ). Takes bytes (option_of spelling p.0) p.1 × IfSome p.0 May) (some_is (Some b.0.0, b.0.1) (o, rest) b.2) (Takes-then bytes (1 ∷ []) behind (spelling b.0.0) b.0.1 t u.0, u.1)

  option_takes : (bytes : List ℕ) (o : Option X) (rest : List ℕ) → IsBytes bytes → option_at at bytes ≡ Some (o, rest) → Takes bytes (option_of spelling o) rest × IfSome o May
  unfolding option_at
  option_takes bytes o rest fits e =
      let b = bind_some (flag_at bytes) (value_if at) (o, rest) e in
      value_takes bytes b.0.0 b.0.1 o rest (flag_takes bytes b.0.0 b.0.1 fits b.1).0 b.2

  option_again : (o : Option X) (rest : List ℕ) → IfSome o May → length (option_of spelling o ++ rest) < 2 ^ 32 → option_at at (option_of spelling o ++ rest) ≡ Some (o, rest)
  unfolding option_at flag_at
  option_again None rest may short = refl
  option_again (Some x) rest may short =
      let fits : length (spelling x ++ rest) < 2 ^ 32 = omega arith in
      ap (λ (front : Option (X × List ℕ)). front >>= λ x. Some (Some x.0, x.1)) (law.again x rest may fits)

  option_long : (o : Option X) → 0 < length (option_of spelling o)
  option_long None = omega arith
  option_long (Some x) = omega arith

  pub option_spelled : Spelled (option_at at) (option_of spelling) (λ o. IfSome o May)
  option_spelled = record { takes = option_takes; again = option_again; long = option_long }
