-- What comes of all that is said comes of one thing that is said after the other.
use Rattle.std.proofs.Common.{◌≡◌, ℕ, List, [], ◌∷◌, Option, None, Some, Result, Ok, ok_or, refl}
use Rattle.text_lines.specs.Lines.{Said, Says, NoText, and_then, with_lines}

-- the same, where it is not known yet what is said next
abbrev pub one_by_one : {X : Type 0} → (ℕ → List ℕ → X → Option X) → X → List Said → Result X ℕ
one_by_one with_line before [] = Ok before
one_by_one with_line before (next ∷ others) = and_then (λ x. one_by_one with_line x others) (with_lines with_line before (next ∷ []))

pub all_said : {X : Type 0} (with_line : ℕ → List ℕ → X → Option X) (before : X) (says : List Said) →
    one_by_one with_line before says ≡ with_lines with_line before says
all_said with_line before [] = refl
all_said with_line before (NoText number ∷ others) = refl
all_said {X} with_line before (Says number line ∷ others) = which (with_line number line before) (λ next. all_said with_line next others)
  where
    which : (o : Option X) → ((next : X) → one_by_one with_line next others ≡ with_lines with_line next others) →
        and_then (λ x. one_by_one with_line x others) (and_then (λ next. with_lines with_line next []) (ok_or o number))
        ≡ and_then (λ next. with_lines with_line next others) (ok_or o number)
    which None rest = refl
    which (Some next) rest = rest next
