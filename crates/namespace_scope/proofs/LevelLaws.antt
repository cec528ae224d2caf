-- Laws of the levels.
use Rattle.std.proofs.Common.{◌≡◌, ◌≢◌, ◌+◌, ◌++◌, ℕ, suc, zero, List, [], ◌∷◌, length, drop, Option, Some, None, cond, Bool, true, false, refl, ap, arith, ◌↔◌}
use Rattle.std.proofs.lemmas.Slice.Eq.{bytes_eq-Decides}
use Rattle.std.proofs.lemmas.List.Elements.{All-nil, All-cons, All-head, All-tail}
use Rattle.std.specs.Bool.{Decides}
use Rattle.std.specs.List.{All}
use Rattle.std.specs.Option.{option_or}
use Rattle.std.specs.Map.{lookup}
use Rattle.std.specs.Str.{bytes_eq}
use Rattle.namespace_scope.specs.Levels.{Level, lookup_of, declared_in, Pair}
use Rattle.namespace_scope.specs.Laws.{Change, Push, Declare, Pop, levels_after, IsBalanced, PopUndoesItsLevel, MissesOnlyTheUndeclared}

-- with depth + 1 levels over `levels`, balanced calls leave one
outer_stays : (changes : List Change) (depth : ℕ) (inner levels : List Level) → length inner ≡ depth + 1 → IsBalanced depth changes
    → drop 1 (levels_after changes (inner ++ levels)) ≡ levels
outer_stays [] depth [] levels many balanced = absurd (omega arith)
outer_stays [] depth (level ∷ []) levels many balanced = refl
outer_stays [] depth (level ∷ another ∷ more) levels many balanced = absurd (omega arith)
outer_stays (Push ∷ changes) depth inner levels many balanced =
    outer_stays changes (depth + 1) ([] ∷ inner) levels (omega arith) balanced
outer_stays (Declare prefix name ∷ changes) depth [] levels many balanced = absurd (omega arith)
outer_stays (Declare prefix name ∷ changes) depth (level ∷ inner) levels many balanced =
    outer_stays changes depth (((prefix, name) ∷ level) ∷ inner) levels (omega arith) balanced
outer_stays (Pop ∷ changes) zero inner levels many balanced = absurd balanced
outer_stays (Pop ∷ changes) (suc depth) [] levels many balanced = absurd (omega arith)
outer_stays (Pop ∷ changes) (suc depth) (level ∷ inner) levels many balanced =
    outer_stays changes depth inner levels (omega arith) balanced

pub pop_undoes_its_level : PopUndoesItsLevel
pop_undoes_its_level levels changes prefix balanced =
    ap (lookup_of prefix) (outer_stays changes 0 ([] ∷ []) levels refl balanced)

miss_first : {P : Type 0} (b : Bool) (name : ℕ) (rest : Option ℕ) → Decides b P
    → (cond b (Some name) rest ≡ None) ↔ ((P → ⊥) × (rest ≡ None))
miss_first true name rest same = (λ e. cc, λ h. absurd (h.0 (same.0 refl)))
miss_first false name rest same = (λ e. (λ p. let wrong : false ≡ true = same.1 p in cc, e), λ h. h.1)

miss_both : (found rest : Option ℕ) → (option_or found rest ≡ None) ↔ ((found ≡ None) × (rest ≡ None))
miss_both None rest = (λ e. (refl, e), λ h. h.1)
miss_both (Some name) rest = (λ e. cc, λ h. h.0)

abbrev Other : List ℕ → Pair → Type 0
Other prefix pair = pair.0 ≢ prefix

-- a level's look-up finds nothing exactly where none of its pairs has the prefix
miss_in_level : (prefix : List ℕ) (level : Level)
    → (lookup (λ declared. bytes_eq declared prefix) level ≡ None) ↔ All (Other prefix) level
miss_in_level prefix [] = (λ _. All-nil (Other prefix), λ _. refl)
miss_in_level prefix (pair ∷ level) =
    let rest = miss_in_level prefix level in
    let first = miss_first (bytes_eq pair.0 prefix) pair.1 (lookup (λ declared. bytes_eq declared prefix) level) (bytes_eq-Decides pair.0 prefix) in (
      λ e. let h = first.0 e in All-cons (Other prefix) pair level h.0 (rest.0 h.1),
      λ all. first.1 (All-head (Other prefix) pair level all, rest.1 (All-tail (Other prefix) pair level all)),
    )

pub misses_only_the_undeclared : MissesOnlyTheUndeclared
misses_only_the_undeclared [] prefix = (λ _. All-nil (All (Other prefix)), λ _. refl)
misses_only_the_undeclared (level ∷ outer) prefix =
    let inside = miss_in_level prefix level in
    let rest = misses_only_the_undeclared outer prefix in
    let both = miss_both (lookup (λ declared. bytes_eq declared prefix) level) (lookup_of prefix outer) in (
      λ e. let h = both.0 e in All-cons (All (Other prefix)) level outer (inside.0 h.0) (rest.0 h.1),
      λ all. both.1 (inside.1 (All-head (All (Other prefix)) level outer all), rest.1 (All-tail (All (Other prefix)) level outer all)),
    )

pub length-declared_in : (prefix : List ℕ) (name : ℕ) (levels : List Level) → length (declared_in prefix name levels) ≡ length levels
length-declared_in prefix name [] = refl
length-declared_in prefix name (level ∷ outer) = refl
