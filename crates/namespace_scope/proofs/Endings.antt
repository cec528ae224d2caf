-- What a declaration adds to the marks and the index, and what the end of a level takes from them.
use Rattle.std.proofs.Common.{◌≡◌, ◌<◌, ◌++◌, ℕ, List, [], ◌∷◌, length, reverse, drop, Option, Some, cond, Bool, true, false, refl, sym, ◌∙◌, ap, subst, arith, Bor}
use Rattle.std.proofs.lemmas.List.{reverse-append}
use Rattle.std.proofs.lemmas.Slice.Eq.{bytes_eq-Decides}
use Rattle.std.specs.Bool.{Decides}
use Rattle.std.specs.Option.{option_or}
use Rattle.std.specs.Map.{lookup}
use Rattle.std.specs.Str.{bytes_eq}
use Rattle.namespace_scope.specs.Levels.{lookup_of, declared_in}
use Rattle.namespace_scope.specs.Levels as levels
use Rattle.namespace_scope.specs.Index.{Index, found, found_after}
use Rattle.namespace_scope.specs.Marks.{levels_of, IsIndexed}
use Rattle.namespace_scope.specs.declared.marks.Mark.{Mark}
use Rattle.namespace_scope.specs.declared.marks.Mark.TheVariants.{Level, Pair}

-- the first mark of the reversed list, after a push
pub reverse-push : (marks : List Mark) (mark : Mark) → reverse (marks ++ mark ∷ []) ≡ mark ∷ reverse marks
reverse-push marks mark = reverse-append marks (mark ∷ [])

-- a look-up after one more pair
pub lookup_of-declared_in : (prefix : List ℕ) (name : ℕ) (q : List ℕ) (ls : List levels.Level) → 0 < length ls
    → lookup_of q (declared_in prefix name ls) ≡ cond (bytes_eq prefix q) (Some name) (lookup_of q ls)
lookup_of-declared_in prefix name q [] some = absurd (omega arith)
lookup_of-declared_in prefix name q (level ∷ outer) some =
    let rest = lookup (λ declared. bytes_eq declared q) level in
    elim (bytes_eq prefix q) as (λ b. option_or (cond b (Some name) rest) (lookup_of q outer) ≡ cond b (Some name) (option_or rest (lookup_of q outer)))
    [ true ↦ refl | false ↦ refl ]

-- a declaration keeps what a scope keeps true
pub IsIndexed-declared : (marks : List Mark) (latest new : Index) (prefix : Bor (List ℕ)) (name : ℕ) (shadowed : Option ℕ)
    → IsIndexed marks latest → 0 < length (levels_of marks) → shadowed ≡ found latest prefix.now
    → ((q : List ℕ) → found new q ≡ found_after latest prefix.now (Some name) q)
    → IsIndexed (Pair prefix name shadowed ∷ marks) new
IsIndexed-declared marks latest new prefix name shadowed old some was now = record {
  chained = (some, was ∙ old.finds prefix.now, old.chained);
  finds = λ q. now q ∙ ap (cond (bytes_eq prefix.now q) (Some name)) (old.finds q)
      ∙ sym (lookup_of-declared_in prefix.now name q (levels_of marks) some);
}

-- an index that finds the same is as good
pub IsIndexed-same : (marks : List Mark) (latest new : Index) → IsIndexed marks latest
    → ((q : List ℕ) → found new q ≡ found latest q) → IsIndexed marks new
IsIndexed-same marks latest new old same = record { chained = old.chained; finds = λ q. same q ∙ old.finds q }

-- the index has the innermost pair's number at its prefix
pub found_innermost : (marks : List Mark) (latest : Index) (prefix : Bor (List ℕ)) (name : ℕ) (shadowed : Option ℕ)
    → IsIndexed (Pair prefix name shadowed ∷ marks) latest → found latest prefix.now ≡ Some name
found_innermost marks latest prefix name shadowed old =
    let same : bytes_eq prefix.now prefix.now ≡ true = grind (arith, bytes_eq-Decides) in
    old.finds prefix.now ∙ lookup_of-declared_in prefix.now name prefix.now (levels_of marks) old.chained.0
    ∙ ap (λ b. cond b (Some name) (lookup_of prefix.now (levels_of marks))) same

-- what the innermost pair shadowed is what its levels have without it
shadowed_back : (prefix q : List ℕ) (ls : List levels.Level) (name : ℕ) (shadowed : Option ℕ) (b : Bool)
    → Decides b (prefix ≡ q) → shadowed ≡ lookup_of prefix ls
    → cond b shadowed (cond b (Some name) (lookup_of q ls)) ≡ lookup_of q ls
shadowed_back prefix q ls name shadowed true same was = was ∙ ap (λ p. lookup_of p ls) (same.0 refl)
shadowed_back prefix q ls name shadowed false same was = refl

-- the end of a level: the innermost of these levels is what is left of it, and those outside stay
pub record IsEnding (old : List levels.Level) (marks : List Mark) (latest : Index) : Type 0 where
  pub indexed : IsIndexed marks latest
  pub some : 0 < length (levels_of marks)
  pub outer : drop 1 (levels_of marks) ≡ drop 1 old

-- the last mark of the list is the first of the reversed one
pub IsEnding-popped : (old : List levels.Level) (before after : List Mark) (latest : Index) (mark taken : Mark)
    → before ≡ after ++ mark ∷ [] → mark ≡ taken → IsEnding old (reverse before) latest → IsEnding old (taken ∷ reverse after) latest
IsEnding-popped old before after latest mark taken split is was =
    subst (λ (marks : List Mark). IsEnding old marks latest) (ap reverse split ∙ reverse-push after mark ∙ ap (λ m. m ∷ reverse after) is) was

drop_one-declared_in : (prefix : List ℕ) (name : ℕ) (ls : List levels.Level) → drop 1 (declared_in prefix name ls) ≡ drop 1 ls
drop_one-declared_in prefix name [] = refl
drop_one-declared_in prefix name (level ∷ outer) = refl

-- a pair is taken from the level
pub IsEnding-pair : (old : List levels.Level) (marks : List Mark) (latest new : Index) (prefix : Bor (List ℕ)) (name : ℕ) (shadowed : Option ℕ)
    → IsEnding old (Pair prefix name shadowed ∷ marks) latest
    → ((q : List ℕ) → found new q ≡ found_after latest prefix.now shadowed q)
    → IsEnding old marks new
IsEnding-pair old marks latest new prefix name shadowed was now =
    let chain = was.indexed.chained in record {
      indexed = record {
        chained = chain.2;
        finds = λ q. now q
            ∙ ap (cond (bytes_eq prefix.now q) shadowed) (was.indexed.finds q ∙ lookup_of-declared_in prefix.now name q (levels_of marks) chain.0)
            ∙ shadowed_back prefix.now q (levels_of marks) name shadowed (bytes_eq prefix.now q) (bytes_eq-Decides prefix.now q) chain.1;
      };
      some = chain.0;
      outer = sym (drop_one-declared_in prefix.now name (levels_of marks)) ∙ was.outer;
    }

-- the level's own mark is taken, and it has ended
pub IsEnding-level : (old : List levels.Level) (marks : List Mark) (latest : Index) → IsEnding old (Level ∷ marks) latest
    → IsIndexed marks latest × (levels_of marks ≡ drop 1 old)
IsEnding-level old marks latest was = (record { chained = was.indexed.chained; finds = was.indexed.finds }, was.outer)
