-- The prefixes of a list are found in a scope that declares each.
use Rattle.std.proofs.Common.{◌≡◌, ℕ, zero, suc, ◌+◌, ◌<◌, Bool, true, false, cond, ◌||◌, List, [], ◌∷◌, ◌++◌, length, map, take, Option, Some, None, refl, sym, ap, ◌∙◌, arith}
use Rattle.std.specs.List.{slice_get}
use Rattle.std.specs.Option.{is_some}
use Rattle.std.specs.Str.{bytes_eq}
use Rattle.std.proofs.lemmas.Cmp.{nat_list_eq_equiv}
use Rattle.std.proofs.lemmas.List.{map-append}
use Rattle.std.proofs.lemmas.List.Folds.{list_any-append}
use Rattle.namespace_scope.specs.Levels as numbered
use Rattle.namespace_scope.proofs.Endings.{lookup_of-declared_in}
use Rattle.namespace_scope.proofs.LevelLaws.{length-declared_in}
use Rattle.xml_spec.specs.Canonical.{listed_prefix}
use Rattle.excl_c14n.specs.Levels.{is_among}

pub taken_more : {X : Type 0} (xs : List X) (i : ℕ) (x : X) → slice_get xs i ≡ Some x → take (suc i) xs ≡ take i xs ++ x ∷ []
taken_more [] i x e = absurd (let clash : None ≡ Some x = e in cc)
taken_more (y ∷ xs) zero x e = let same : y ≡ x = cc in ap (λ z. z ∷ []) same
taken_more (y ∷ xs) (suc i) x e = ap (λ zs. y ∷ zs) (taken_more xs i x e)

-- the levels have the prefixes of these tokens
pub record HasListed (tokens : List (List ℕ)) (levels : List numbered.Level) : Type 0 where
  pub level : 0 < length levels
  pub found : (q : List ℕ) → is_some (numbered.lookup_of q levels) ≡ is_among q (map listed_prefix tokens)

none_among : (q : List ℕ) (levels : List numbered.Level) → levels ≡ [] ∷ [] → is_some (numbered.lookup_of q levels) ≡ false
none_among q levels e = ap (λ ls. is_some (numbered.lookup_of q ls)) e

pub none_listed : (tokens : List (List ℕ)) (levels empty : List numbered.Level) → empty ≡ [] → levels ≡ [] ∷ empty → HasListed (take 0 tokens) levels
none_listed tokens levels empty none e = record {
  level = omega (arith, ap length e);
  found = λ q. none_among q levels (e ∙ ap (λ ls. [] ∷ ls) none);
}

or_step : (a b : Bool) (k : ℕ) (o : Option ℕ) (m : Bool) → a ≡ b → is_some o ≡ m → is_some (cond a (Some k) o) ≡ (m || (b || false))
or_step true true k o true same e = refl
or_step true true k o false same e = refl
or_step true false k o m same e = absurd (let clash : true ≡ false = same in cc)
or_step false true k o m same e = absurd (let clash : false ≡ true = same in cc)
or_step false false k o true same e = e
or_step false false k o false same e = e

pub one_more_listed : (tokens : List (List ℕ)) (i : ℕ) (token prefix : List ℕ) (levels new : List numbered.Level) →
    slice_get tokens i ≡ Some token → prefix ≡ listed_prefix token → new ≡ numbered.declared_in prefix 0 levels →
    HasListed (take i tokens) levels → HasListed (take (i + 1) tokens) new
one_more_listed tokens i token prefix levels new there is put so_far =
    let next : i + 1 ≡ suc i = omega arith in
    record {
      level = omega (arith, ap length put, length-declared_in prefix 0 levels, so_far.level);
      found = λ q.
          ap (λ ls. is_some (numbered.lookup_of q ls)) put
          ∙ ap is_some (lookup_of-declared_in prefix 0 q levels so_far.level)
          ∙ or_step (bytes_eq prefix q) (bytes_eq q (listed_prefix token)) 0 (numbered.lookup_of q levels) (is_among q (map listed_prefix (take i tokens)))
          (nat_list_eq_equiv.symm prefix q ∙ ap (bytes_eq q) is) (so_far.found q)
          ∙ sym (list_any-append (bytes_eq q) (map listed_prefix (take i tokens)) (listed_prefix token ∷ []))
          ∙ ap (is_among q) (sym (map-append listed_prefix (take i tokens) (token ∷ []))
          ∙ ap (map listed_prefix) (sym (taken_more tokens i token there) ∙ ap (λ k. take k tokens) (sym next)));
    }
