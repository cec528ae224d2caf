-- The numbers that records draw.
use Rattle.std.proofs.Common.{All, ◌≡◌, ℕ, zero, suc, ◌<◌, ◌≤◌, max, Bool, true, false, ◌&&◌, nat_lt, nat_le, List, [], ◌∷◌, ◌++◌, Ok, Result, take, flat_map, refl, sym, ap, ◌∙◌, arith, slice_get, Some}
use Rattle.std.specs.Int.{w64, to_be_bytes, from_be_bytes}
use Rattle.std.proofs.lemmas.Bool.{false≢true, and_parts, leb-true, ltb-true, le-leb, lt-ltb, and_from}
use Rattle.std.proofs.lemmas.Nat.{from_be_bytes-to_be_bytes_8}
use Rattle.std.proofs.lemmas.List.Elements.{All-head, All-tail}
use Rattle.hex.specs.Hex.{encode_lower, decode_of, IsBytes}
use Rattle.hex.specs.declared.error.FromHexError.{FromHexError}
use Rattle.hex.proofs.HexLemmas.{decode_of-encode_lower}
use Rattle.ledger_rules.specs.Numbers.{Drawn, number_text, has_number, above, are_fresh, NUMBER_END}
use Rattle.record_ledger.specs.Rules.{RecordRules, next_of}
use Rattle.record_ledger.specs.Marks.{Each}
use Rattle.record_ledger.proofs.Words.{each_weaker, same_text}

-- an ID begins with one number alone
encoded_once : (xs ys : List ℕ) → IsBytes xs → IsBytes ys → encode_lower xs ≡ encode_lower ys → xs ≡ ys
encoded_once xs ys bytes bytes_too same =
    let one = decode_of-encode_lower xs bytes in
    let other = decode_of-encode_lower ys bytes_too in
    let both : ◌≡◌ {A = Result (List ℕ) FromHexError} (Ok xs) (Ok ys) = sym one ∙ ap decode_of same ∙ other in cc

bytes_each : (bytes : List ℕ) → Each (λ b. b < 256) bytes → IsBytes bytes
bytes_each [] each i = omega arith
bytes_each (b ∷ bytes) each zero = each.0
bytes_each (b ∷ bytes) each (suc i) = bytes_each bytes each.1 i

number_bytes : (n : ℕ) → IsBytes (to_be_bytes w64 n)
number_bytes n = bytes_each (to_be_bytes w64 n) (omega arith)

pub one_number : (m n : ℕ) (id : List ℕ) → m < NUMBER_END → n < NUMBER_END → has_number m id ≡ true → has_number n id ≡ true → m ≡ n
unfolding has_number
one_number m n id small small_too is is_too =
    let texts : number_text m ≡ number_text n = sym (same_text (take 17 id) (number_text m) is) ∙ same_text (take 17 id) (number_text n) is_too in
    let digits : encode_lower (to_be_bytes w64 m) ≡ encode_lower (to_be_bytes w64 n) = cc in
    let bytes = encoded_once (to_be_bytes w64 m) (to_be_bytes w64 n) (number_bytes m) (number_bytes n) digits in
    sym (from_be_bytes-to_be_bytes_8 m (omega arith)) ∙ ap (from_be_bytes w64) bytes ∙ from_be_bytes-to_be_bytes_8 n (omega arith)

-- a text begins with a number that is this one or greater
pub record IsNumbered (least : ℕ) (text : List ℕ) : Type 0 where
  pub number : ℕ
  pub greater : least ≤ number
  pub small : number < NUMBER_END
  pub begins : has_number number text ≡ true

pub numbered_above : (least lower : ℕ) (text : List ℕ) → lower ≤ least → IsNumbered least text → IsNumbered lower text
numbered_above least lower text low is =
    record { number = is.number; greater = omega (arith, is.greater, low); small = is.small; begins = is.begins }

-- a drawn ID that is fresh
pub record IsFresh (least : ℕ) (d : Drawn) : Type 0 where
  pub greater : least ≤ d.number
  pub small : d.number < NUMBER_END
  pub begins : has_number d.number d.id ≡ true

and_three : (a b c : Bool) → (a && b && c) ≡ true → (a ≡ true) × (b ≡ true) × (c ≡ true)
and_three true true true is = (refl, refl, refl)
and_three true true false is = absurd (false≢true is)
and_three true false c is = absurd (false≢true is)
and_three false b c is = absurd (false≢true is)

fresh_one : (least : ℕ) (d : Drawn) → (nat_le least d.number && nat_lt d.number NUMBER_END && has_number d.number d.id) ≡ true → IsFresh least d
fresh_one least d is =
    let all = and_three (nat_le least d.number) (nat_lt d.number NUMBER_END) (has_number d.number d.id) is in
    record { greater = leb-true least d.number all.0; small = ltb-true d.number NUMBER_END all.1; begins = all.2 }

one_fresh : (least : ℕ) (d : Drawn) → IsFresh least d → (nat_le least d.number && nat_lt d.number NUMBER_END && has_number d.number d.id) ≡ true
one_fresh least d is =
    and_from (nat_le least d.number && nat_lt d.number NUMBER_END) (has_number d.number d.id)
    (and_from (nat_le least d.number) (nat_lt d.number NUMBER_END) (le-leb least d.number is.greater) (lt-ltb d.number NUMBER_END is.small)) is.begins

pub all_fresh : (least : ℕ) (ds : List Drawn) → are_fresh least ds ≡ true → Each (IsFresh least) ds
all_fresh least [] is = tt
all_fresh least (d ∷ ds) is =
    let both = and_parts (nat_le least d.number && nat_lt d.number NUMBER_END && has_number d.number d.id) (are_fresh least ds) is in
    (fresh_one least d both.0, all_fresh least ds both.1)

fresh_all : (least : ℕ) (ds : List Drawn) → Each (IsFresh least) ds → are_fresh least ds ≡ true
fresh_all least [] each = refl
fresh_all least (d ∷ ds) each =
    and_from (nat_le least d.number && nat_lt d.number NUMBER_END && has_number d.number d.id) (are_fresh least ds)
    (one_fresh least d each.0) (fresh_all least ds each.1)

pub fresh_below : (least lower : ℕ) (ds : List Drawn) → lower ≤ least → are_fresh least ds ≡ true → are_fresh lower ds ≡ true
fresh_below least lower ds low is =
    fresh_all lower ds (each_weaker (IsFresh least) (IsFresh lower)
    (λ d f. record { greater = omega (arith, f.greater, low); small = f.small; begins = f.begins }) ds (all_fresh least ds is))

pub fresh_above : (least higher : ℕ) (ds : List Drawn) → are_fresh least ds ≡ true → All (λ (d : Drawn). higher ≤ d.number) ds → are_fresh higher ds ≡ true
fresh_above least higher [] is above = refl
fresh_above least higher (d ∷ ds) is above =
    let both = and_parts (nat_le least d.number && nat_lt d.number NUMBER_END && has_number d.number d.id) (are_fresh least ds) is in
    let own = fresh_one least d both.0 in
    let greater : higher ≤ d.number = All-head (λ (e : Drawn). higher ≤ e.number) d ds above in
    and_from (nat_le higher d.number && nat_lt d.number NUMBER_END && has_number d.number d.id) (are_fresh higher ds)
    (one_fresh higher d (record { greater = greater; small = own.small; begins = own.begins }))
    (fresh_above least higher ds both.1 (All-tail (λ (e : Drawn). higher ≤ e.number) d ds above))

-- one that is drawn, at its place
pub fresh_at : (least : ℕ) (ds : List Drawn) (k : ℕ) (d : Drawn) → are_fresh least ds ≡ true → slice_get ds k ≡ Some d → IsFresh least d
fresh_at least ds k d is there = each_there ds k d (all_fresh least ds is) there
  where
    each_there : (ds : List Drawn) (k : ℕ) (d : Drawn) → Each (IsFresh least) ds → slice_get ds k ≡ Some d → IsFresh least d
    each_there [] k d each there = absurd (cc)
    each_there (x ∷ ds) zero d each there = let same : x ≡ d = cc in Rattle.std.proofs.Common.subst (IsFresh least) same each.0
    each_there (x ∷ ds) (suc k) d each there = each_there ds k d each.1 there

pub below_above : (ds : List Drawn) (k : ℕ) (d : Drawn) → slice_get ds k ≡ Some d → d.number < above ds
below_above [] k d there = absurd (cc)
below_above (x ∷ ds) zero d there = let same : x ≡ d = cc in omega (arith, ap (λ (y : Drawn). y.number) same)
below_above (x ∷ ds) (suc k) d there = let rest = below_above ds k d there in omega (arith, rest)

-- the number above all that are drawn
above-append : (xs ys : List Drawn) → above (xs ++ ys) ≡ max (above xs) (above ys)
above-append [] ys = omega arith
above-append (x ∷ xs) ys = let rest = above-append xs ys in omega arith

module _ {R : Type 0} (rules : RecordRules R) where
  pub next_cons : (r : R) (later : List R) → next_of rules (r ∷ later) ≡ max (above (rules.drawn r)) (next_of rules later)
  next_cons r later = above-append (rules.drawn r) (flat_map rules.drawn later)

  pub next_push : (before : List R) (r : R) → next_of rules (before ++ r ∷ []) ≡ max (next_of rules before) (above (rules.drawn r))
  next_push [] r = let one = next_cons r [] in omega arith
  next_push (x ∷ before) r =
      let rest = next_push before r in
      let one = next_cons x (before ++ r ∷ []) in
      let other = next_cons x before in omega arith
