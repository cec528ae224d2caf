-- What a scope keeps, the latest first, and which levels that is.
use Rattle.std.specs.Prelude.{◌≡◌, ◌<◌, ℕ, suc, zero, List, [], ◌∷◌, length}
use Rattle.namespace_scope.specs.Levels.{lookup_of, declared_in}
use Rattle.namespace_scope.specs.Levels as levels
use Rattle.namespace_scope.specs.Index.{Index, found}
use Rattle.namespace_scope.specs.declared.marks.Mark.{Mark}
use Rattle.namespace_scope.specs.declared.marks.Mark.TheVariants.{Level, Pair}

-- the levels that the marks made
abbrev pub levels_of : List Mark → List levels.Level
levels_of [] = []
levels_of (Level ∷ marks) = [] ∷ levels_of marks
levels_of (Pair prefix name _ ∷ marks) = declared_in prefix.now name (levels_of marks)

-- so many more levels, which declare nothing
abbrev pub with_bare : ℕ → List levels.Level → List levels.Level
with_bare zero outer = outer
with_bare (suc n) outer = [] ∷ with_bare n outer

-- each pair lies in a level, and keeps what its prefix had before
abbrev pub IsChained : List Mark → Type 0
IsChained [] = Unit {0}
IsChained (Level ∷ marks) = IsChained marks
IsChained (Pair prefix _ shadowed ∷ marks) =
    (0 < length (levels_of marks)) × (shadowed ≡ lookup_of prefix.now (levels_of marks)) × IsChained marks

-- the index has what a look-up in the levels gives
pub record IsIndexed (marks : List Mark) (latest : Index) : Type 0 where
  pub chained : IsChained marks
  pub finds : (q : List ℕ) → found latest q ≡ lookup_of q (levels_of marks)
