-- Where the head of a request ends.
use Rattle.std.proofs.Common.{◌≡◌, ℕ, zero, suc, ◌+◌, ◌-◌, ◌<◌, ◌≤◌, Bool, true, false, cond, List, [], ◌∷◌, length, take, drop, Option, None, Some, nat_eq, refl, sym, ap, ◌∙◌, arith}
use Rattle.std.specs.Option.{option_map}
use Rattle.std.specs.List.{starts_with}
use Rattle.std.specs.Str.{bytes_eq}
use Rattle.std.proofs.lemmas.List.{take-take, drop-take, take_all, length-drop}
use Rattle.http_wire.specs.Heads.{empty_line, end_of_lines}

-- an empty line stands at this place
abbrev pub ends_at : List ℕ → ℕ → Bool
ends_at bytes k = starts_with nat_eq (drop k bytes) empty_line

-- the first empty line ends the head
pub first_end : (bytes : List ℕ) (i : ℕ) → i < length bytes → ((k : ℕ) → k < i → ends_at bytes k ≡ false) → ends_at bytes i ≡ true →
    end_of_lines bytes ≡ Some (i + 4)
first_end [] i within none here = absurd (omega arith)
first_end (b ∷ bytes) zero within none here = ap (λ t. cond t (Some 4) (option_map suc (end_of_lines bytes))) here
first_end (b ∷ bytes) (suc i) within none here =
    ap (λ t. cond t (Some 4) (option_map suc (end_of_lines bytes))) (none 0 (omega arith))
    ∙ ap (option_map suc) (first_end bytes i (omega arith) (λ k h. none (suc k) (omega arith)) here)
    ∙ ap Some (let e : suc (i + 4) ≡ suc i + 4 = omega arith in e)

-- without an empty line there is no end
pub no_end : (bytes : List ℕ) → ((k : ℕ) → k < length bytes → ends_at bytes k ≡ false) → end_of_lines bytes ≡ None
no_end [] none = refl
no_end (b ∷ bytes) none =
    ap (λ t. cond t (Some 4) (option_map suc (end_of_lines bytes))) (none 0 (omega arith))
    ∙ ap (option_map suc) (no_end bytes (λ k h. none (suc k) (omega arith)))

-- what a search says of its first step
record IsNotHere (t : Bool) (rest : Option ℕ) : Type 0 where
  pub here : t ≡ false
  pub behind : rest ≡ None

not_here : (t : Bool) (rest : Option ℕ) → cond t (Some 4) (option_map suc rest) ≡ None → IsNotHere t rest
not_here true rest h = absurd (cc)
not_here false None h = record { here = refl; behind = refl }
not_here false (Some e) h = absurd (let clash : Some (suc e) ≡ None = h in cc)

-- without an end there is no empty line
pub none_ends : (bytes : List ℕ) (k : ℕ) → end_of_lines bytes ≡ None → ends_at bytes k ≡ false
none_ends [] zero none = refl
none_ends [] (suc k) none = refl
none_ends (b ∷ bytes) zero none = (not_here _ _ none).here
none_ends (b ∷ bytes) (suc k) none = none_ends bytes k (not_here _ _ none).behind

-- an empty line in the first bytes stands there
pub front_ends : (bytes : List ℕ) (n k : ℕ) → k + 4 ≤ n → ends_at (take n bytes) k ≡ ends_at bytes k
front_ends bytes n k fits =
    let parts : n ≡ k + (n - k) = omega arith in
    ap (λ xs. starts_with nat_eq xs empty_line)
    (ap (λ m. drop k (take m bytes)) parts ∙ drop-take k (n - k) bytes)
    ∙ ap (bytes_eq empty_line) (take-take 4 (n - k) (drop k bytes) (omega arith))

-- no empty line stands where the search was before
pub searched_before : (bytes : List ℕ) (searched k : ℕ) → end_of_lines (take searched bytes) ≡ None → k < searched - 3 → ends_at bytes k ≡ false
searched_before bytes searched k none before =
    sym (front_ends bytes searched k (omega arith)) ∙ none_ends (take searched bytes) k none

-- what stands behind a place is all of it
pub all_behind : (bytes : List ℕ) (n : ℕ) → n ≤ length bytes → take (length bytes - n) (drop n bytes) ≡ drop n bytes
all_behind bytes n within = take_all (length bytes - n) (drop n bytes) (omega (arith, length-drop n bytes))
