-- Where the head ends when more bytes come behind.
use Rattle.std.proofs.Common.{◌≡◌, ℕ, zero, suc, ◌-◌, ◌≤◌, ◌⊎◌, inl, inr, Bool, true, false, cond, List, [], ◌∷◌, ◌++◌, length, take, Option, None, Some, nat_eq, nat_le, min, refl, sym, ap, ◌∙◌, arith}
use Rattle.std.specs.Option.{option_map}
use Rattle.std.specs.List.{starts_with}
use Rattle.std.specs.Str.{bytes_eq}
use Rattle.std.proofs.lemmas.List.{take-take, take-append-le, length-take, take_all}
use Rattle.std.proofs.lemmas.Bool.Decides.{nat_tests}
use lib.Pointwise.{bytes_decides}
use Rattle.http_wire.specs.Heads.{empty_line, end_of_lines, head_end}

-- an empty line takes four bytes
line_fits : (xs : List ℕ) → starts_with nat_eq xs empty_line ≡ true → 4 ≤ length xs
line_fits xs h =
    let same : empty_line ≡ take 4 xs = (bytes_decides empty_line (take 4 xs)).0 h in
    omega (arith, ap length same, length-take 4 xs)

-- the head ends here, or behind the next byte
abbrev EndsHere : Bool → Option ℕ → ℕ → Type 0
EndsHere t rest e = ((t ≡ true) × (e ≡ 4)) ⊎ ((t ≡ false) × ((f : ℕ) × (rest ≡ Some f) × (e ≡ suc f)))

ends_here : (t : Bool) (rest : Option ℕ) (e : ℕ) → cond t (Some 4) (option_map suc rest) ≡ Some e → EndsHere t rest e
ends_here true rest e h = inl (refl, cc)
ends_here false None e h = absurd (let clash : None ≡ Some e = h in cc)
ends_here false (Some f) e h = inr (refl, (f, refl, (let same : Some (suc f) ≡ Some e = h in cc)))

-- a head that ends lies in the bytes
pub record IsWithin (e : ℕ) (xs : List ℕ) : Type 0 where
  pub some : 4 ≤ e
  pub within : e ≤ length xs

pub end_within : (xs : List ℕ) (e : ℕ) → end_of_lines xs ≡ Some e → IsWithin e xs
end_within [] e h = absurd (cc)
end_within (b ∷ xs) e h =
    elim (ends_here (starts_with nat_eq (b ∷ xs) empty_line) (end_of_lines xs) e h) [
      | inl here ↦ record { some = omega (arith, here.1); within = omega (arith, here.1, line_fits (b ∷ xs) here.0) }
      | inr later ↦
          (let behind = end_within xs later.1.0 later.1.1 in
          record { some = omega (arith, behind.some, later.1.2); within = omega (arith, behind.within, later.1.2) })
    ]

-- the first bytes of a list tell whether it begins with an empty line
same_start : (xs ys : List ℕ) → 4 ≤ length xs → starts_with nat_eq (xs ++ ys) empty_line ≡ starts_with nat_eq xs empty_line
same_start xs ys h = ap (bytes_eq empty_line) (take-append-le 4 xs ys h)

-- bytes that come behind do not move the end
pub end_append : (xs ys : List ℕ) (e : ℕ) → end_of_lines xs ≡ Some e → end_of_lines (xs ++ ys) ≡ Some e
end_append [] ys e h = absurd (cc)
end_append (b ∷ xs) ys e h =
    elim (ends_here (starts_with nat_eq (b ∷ xs) empty_line) (end_of_lines xs) e h) [
      | inl here ↦
          ap (λ t. cond t (Some 4) (option_map suc (end_of_lines (xs ++ ys)))) (same_start (b ∷ xs) ys (line_fits (b ∷ xs) here.0) ∙ here.0)
          ∙ ap Some (sym here.1)
      | inr later ↦
          (let behind = end_within xs later.1.0 later.1.1 in
          let long : 4 ≤ length (b ∷ xs) = omega (arith, behind.some, behind.within) in
          ap (λ t. cond t (Some 4) (option_map suc (end_of_lines (xs ++ ys)))) (same_start (b ∷ xs) ys long ∙ later.0)
          ∙ ap (option_map suc) (end_append xs ys later.1.0 later.1.1) ∙ ap Some (sym later.1.2))
    ]

-- the first bytes have the end that lies in them
end_front : (xs : List ℕ) (e m : ℕ) → end_of_lines xs ≡ Some e → e ≤ m → end_of_lines (take m xs) ≡ Some e
end_front [] e m h within = absurd (cc)
end_front (b ∷ xs) e zero h within = absurd (omega (arith, (end_within (b ∷ xs) e h).some))
end_front (b ∷ xs) e (suc m) h within =
    let some = (end_within (b ∷ xs) e h).some in
    let same : starts_with nat_eq (b ∷ take m xs) empty_line ≡ starts_with nat_eq (b ∷ xs) empty_line =
    ap (bytes_eq empty_line) (take-take 4 (suc m) (b ∷ xs) (omega arith)) in
    elim (ends_here (starts_with nat_eq (b ∷ xs) empty_line) (end_of_lines xs) e h) [
      | inl here ↦
          ap (λ t. cond t (Some 4) (option_map suc (end_of_lines (take m xs)))) (same ∙ here.0) ∙ ap Some (sym here.1)
      | inr later ↦
          ap (λ t. cond t (Some 4) (option_map suc (end_of_lines (take m xs)))) (same ∙ later.0)
          ∙ ap (option_map suc) (end_front xs later.1.0 m later.1.1 (omega (arith, later.1.2))) ∙ ap Some (sym later.1.2)
    ]

-- ---- in the bytes where a head may end

take_both : (k n : ℕ) (xs : List ℕ) → take n (take k xs) ≡ take k (take n xs)
take_both k n xs = by_order (nat_le k n) refl
  where
    by_order : (t : Bool) → t ≡ nat_le k n → take n (take k xs) ≡ take k (take n xs)
    by_order true e =
        let order : k ≤ n = grind (arith, nat_tests, e) in
        take_all n (take k xs) (omega (arith, length-take k xs)) ∙ sym (take-take k n xs order)
    by_order false e =
        let order : n ≤ k = grind (arith, nat_tests, e) in
        take-take n k xs order ∙ sym (take_all k (take n xs) (omega (arith, length-take n xs)))

-- the head that ends in the first bytes
pub head_end_front : (bytes : List ℕ) (e k : ℕ) → head_end bytes ≡ Some e → e ≤ k → head_end (take k bytes) ≡ Some e
head_end_front bytes e k h within = ap end_of_lines (take_both k 16384 bytes) ∙ end_front (take 16384 bytes) e k h within

pub take_append : (n : ℕ) (xs ys : List ℕ) → take n (xs ++ ys) ≡ take n xs ++ take (n - length xs) ys
take_append zero xs ys = ap (λ k. take k ys) (let e : 0 ≡ 0 - length xs = omega arith in e)
take_append (suc n) [] ys = ap (λ k. take k ys) (let e : suc n ≡ suc n - 0 = omega arith in e)
take_append (suc n) (x ∷ xs) ys = ap (λ zs. x ∷ zs) (take_append n xs ys ∙ ap (λ k. take n xs ++ take k ys) (let e : n - length xs ≡ suc n - suc (length xs) = omega arith in e))

pub head_end_within : (bytes : List ℕ) (e : ℕ) → head_end bytes ≡ Some e → e ≤ length bytes
head_end_within bytes e h = omega (arith, (end_within (take 16384 bytes) e h).within, length-take 16384 bytes)

pub head_end_limit : (bytes : List ℕ) (e : ℕ) → head_end bytes ≡ Some e → e ≤ 16384
head_end_limit bytes e h = omega (arith, (end_within (take 16384 bytes) e h).within, length-take 16384 bytes)

pub head_end_append : (bytes more : List ℕ) (e : ℕ) → head_end bytes ≡ Some e → head_end (bytes ++ more) ≡ Some e
head_end_append bytes more e h =
    ap end_of_lines (take_append 16384 bytes more) ∙ end_append (take 16384 bytes) (take (16384 - length bytes) more) e h

-- the bytes that are looked at are those where a head may end
pub same_bytes : (bytes : List ℕ) (n : ℕ) → n ≡ min (length bytes) 16384 → take n bytes ≡ take 16384 bytes
same_bytes bytes n least =
    sym (take-take n 16384 bytes (omega arith)) ∙ take_all n (take 16384 bytes) (omega (arith, length-take 16384 bytes))
