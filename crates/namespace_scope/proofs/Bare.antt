-- Levels that declare nothing, counted and not marked.
use Rattle.std.proofs.Common.{◌≡◌, ◌<◌, ◌+◌, ◌-◌, ◌++◌, ℕ, suc, zero, List, [], ◌∷◌, reverse, refl, sym, ◌∙◌, ap, subst, arith}
use Rattle.namespace_scope.specs.Levels.{lookup_of}
use Rattle.namespace_scope.specs.Levels as levels
use Rattle.namespace_scope.specs.Index.{Index}
use Rattle.namespace_scope.specs.Marks.{levels_of, with_bare, IsIndexed}
use Rattle.namespace_scope.specs.declared.marks.Mark.{Mark}
use Rattle.namespace_scope.specs.declared.marks.Mark.TheVariants.{Level}
use Rattle.namespace_scope.proofs.Endings.{reverse-push}

-- one more of them is the innermost
pub one_more : (n : ℕ) (outer : List levels.Level) → with_bare (n + 1) outer ≡ [] ∷ with_bare n outer
one_more n outer = let same : n + 1 ≡ suc n = omega arith in ap (λ m. with_bare m outer) same

-- the outermost of them may have a mark
pub one_marked : (n : ℕ) (outer : List levels.Level) → with_bare n ([] ∷ outer) ≡ [] ∷ with_bare n outer
one_marked zero outer = refl
one_marked (suc n) outer = ap (λ levels. [] ∷ levels) (one_marked n outer)

-- a look-up finds nothing in them
pub seen_through : (q : List ℕ) (n : ℕ) (outer : List levels.Level) → lookup_of q (with_bare n outer) ≡ lookup_of q outer
seen_through q zero outer = refl
seen_through q (suc n) outer = seen_through q n outer

-- one of them is given its mark
pub settled : (n : ℕ) (marks : List Mark) → 0 < n →
    with_bare (n - 1) (levels_of (reverse (marks ++ Level ∷ []))) ≡ with_bare n (levels_of (reverse marks))
settled n marks some =
    let outer = levels_of (reverse marks) in
    let same : n - 1 + 1 ≡ n = omega arith in
    ap (λ (ms : List Mark). with_bare (n - 1) (levels_of ms)) (reverse-push marks Level)
    ∙ one_marked (n - 1) outer ∙ sym (one_more (n - 1) outer) ∙ ap (λ m. with_bare m outer) same

pub settled_indexed : (marks : List Mark) (latest : Index) → IsIndexed (reverse marks) latest →
    IsIndexed (reverse (marks ++ Level ∷ [])) latest
settled_indexed marks latest old =
    subst (λ (ms : List Mark). IsIndexed ms latest) (sym (reverse-push marks Level)) (record { chained = old.chained; finds = old.finds })
