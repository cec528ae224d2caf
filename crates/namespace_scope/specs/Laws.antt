-- Laws of the levels.
use Rattle.std.specs.Prelude.{◌≡◌, ◌≢◌, ◌+◌, ℕ, suc, zero, List, [], ◌∷◌, ◌↔◌, drop, All, None}
use Rattle.namespace_scope.specs.Levels.{Level, lookup_of, declared_in}

-- one call that changes a scope
pub data Change : Type 0 where
  Push : Change
  Declare : List ℕ → ℕ → Change
  Pop : Change

-- the levels after some calls
abbrev pub levels_after : List Change → List Level → List Level
levels_after [] levels = levels
levels_after (Push ∷ changes) levels = levels_after changes ([] ∷ levels)
levels_after (Declare prefix name ∷ changes) levels = levels_after changes (declared_in prefix name levels)
levels_after (Pop ∷ changes) levels = levels_after changes (drop 1 levels)

-- with `depth` pushes unmatched, each pop matches a later push than these, and in the end no other is left unmatched
abbrev pub IsBalanced : ℕ → List Change → Type 0
IsBalanced depth [] = depth ≡ 0
IsBalanced depth (Push ∷ changes) = IsBalanced (depth + 1) changes
IsBalanced depth (Declare _ _ ∷ changes) = IsBalanced depth changes
IsBalanced zero (Pop ∷ changes) = ⊥
IsBalanced (suc depth) (Pop ∷ changes) = IsBalanced depth changes

-- after a pop every look-up answers as before the matching push, whatever was called in between
abbrev pub PopUndoesItsLevel : Type 0
PopUndoesItsLevel = (levels : List Level) (changes : List Change) (prefix : List ℕ) → IsBalanced 0 changes
    → lookup_of prefix (drop 1 (levels_after changes ([] ∷ levels))) ≡ lookup_of prefix levels

-- a look-up finds nothing exactly where no pair of a level has the prefix
abbrev pub MissesOnlyTheUndeclared : Type 0
MissesOnlyTheUndeclared = (levels : List Level) (prefix : List ℕ)
    → (lookup_of prefix levels ≡ None) ↔ All (All (λ pair. pair.0 ≢ prefix)) levels
