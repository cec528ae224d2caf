-- Bytes that are appended one after the other.
use Rattle.std.proofs.Common.{◌≡◌, ℕ, ◌+◌, min, List, ◌++◌, Result, Ok, Err, OnOk, OnErr, length, take, sym, ◌∙◌, subst, arith}
use Rattle.std.proofs.lemmas.List.{take-append-le, take_min, take_all}
use Rattle.std.proofs.Math.Seq.{take-append-add}
use Rattle.canon_octets.specs.Places.{IsAppending, AppendsPart}

pub on_ok : {T E P : Type 0} (r : Result T E) → P → OnOk r P
on_ok (Ok x) p = p
on_ok (Err e) p = tt

pub on_err : {T E P : Type 0} (r : Result T E) → P → OnErr r P
on_err (Ok x) p = tt
on_err (Err e) p = p

-- the first part of a list is one of the list with more behind it
take_front : (xs ys : List ℕ) (n : ℕ) → take (min n (length xs)) (xs ++ ys) ≡ take n xs
take_front xs ys n = take-append-le (min n (length xs)) xs ys (omega arith) ∙ take_min n xs

module _ {S : Type 0} {R : S → S → List ℕ → Type 0} (law : IsAppending R) where
  -- a part of the first of two
  pub part_of_first : (a b : S) (xs ys : List ℕ) → AppendsPart R a b xs → AppendsPart R a b (xs ++ ys)
  part_of_first a b xs ys part = (min part.0 (length xs), subst (R a b) (sym (take_front xs ys part.0)) part.1)

  -- all of the first, and a part of the second
  pub part_of_second : (a b c : S) (xs ys : List ℕ) → R a b xs → AppendsPart R b c ys → AppendsPart R a c (xs ++ ys)
  part_of_second a b c xs ys first part =
      (length xs + part.0, subst (R a c) (sym (take-append-add xs ys part.0)) (law.joined a b c xs (take part.0 ys) first part.1))

  -- all
  pub all_part : (a b : S) (xs : List ℕ) → R a b xs → AppendsPart R a b xs
  all_part a b xs put = (length xs, subst (R a b) (sym (take_all (length xs) xs (omega arith))) put)

  -- nothing
  pub no_part : (a : S) (xs : List ℕ) → AppendsPart R a a xs
  no_part a xs = (0, law.nothing a)

  -- the last of two, of which the first was appended
  pub last_ok : {T E : Type 0} (r : Result T E) (a b c : S) (xs ys form : List ℕ) → xs ++ ys ≡ form → R a b xs → OnOk r (R b c ys) → OnOk r (R a c form)
  last_ok (Ok x) a b c xs ys form same first last = subst (R a c) same (law.joined a b c xs ys first last)
  last_ok (Err e) a b c xs ys form same first last = tt

  pub last_err : {T E : Type 0} (r : Result T E) (a b c : S) (xs ys form : List ℕ) → xs ++ ys ≡ form → R a b xs → OnErr r (AppendsPart R b c ys) →
      OnErr r (AppendsPart R a c form)
  last_err (Ok x) a b c xs ys form same first last = tt
  last_err (Err e) a b c xs ys form same first last = subst (AppendsPart R a c) same (part_of_second a b c xs ys first last)

  -- a part of the first, where more was to follow
  pub first_err : {T E : Type 0} (r : Result T E) (a b : S) (xs ys form : List ℕ) → xs ++ ys ≡ form → AppendsPart R a b xs → OnErr r (AppendsPart R a b form)
  first_err r a b xs ys form same part = on_err r (subst (AppendsPart R a b) same (part_of_first a b xs ys part))

  -- a part of what stands between what was appended and what was to follow
  pub middle_err : {T E : Type 0} (r : Result T E) (a b c : S) (xs ys zs form : List ℕ) → xs ++ (ys ++ zs) ≡ form → R a b xs → AppendsPart R b c ys →
      OnErr r (AppendsPart R a c form)
  middle_err r a b c xs ys zs form same first part =
      on_err r (subst (AppendsPart R a c) same (part_of_second a b c xs (ys ++ zs) first (part_of_first b c ys zs part)))

-- the same bytes in other words
pub same_ok : {T E S : Type 0} (R : S → S → List ℕ → Type 0) (r : Result T E) (a b : S) (xs ys : List ℕ) → xs ≡ ys → OnOk r (R a b xs) → OnOk r (R a b ys)
same_ok R r a b xs ys same put = subst (λ (zs : List ℕ). OnOk r (R a b zs)) same put

pub same_err : {T E S : Type 0} (R : S → S → List ℕ → Type 0) (r : Result T E) (a b : S) (xs ys : List ℕ) → xs ≡ ys →
    OnErr r (AppendsPart R a b xs) → OnErr r (AppendsPart R a b ys)
same_err R r a b xs ys same put = subst (λ (zs : List ℕ). OnErr r (AppendsPart R a b zs)) same put
