-- Values that are noted one after the other.
use Rattle.std.proofs.Common.{◌≡◌, ℕ, List, [], ◌∷◌, fold, refl, subst, sym}
use Rattle.post_binding.specs.declared.reading.Occurrence.{Occurrence}
use Rattle.post_binding.specs.declared.reading.Occurrence.TheVariants as occurrences
use Rattle.post_binding.specs.Occurrences.{IsOccurrence, noted}

still_repeated : (others : List (List ℕ)) → fold noted occurrences.Repeated others ≡ occurrences.Repeated
still_repeated [] = refl
still_repeated (value ∷ others) = still_repeated others

of_all : (found : List (List ℕ)) → IsOccurrence (fold noted occurrences.Absent found) found
of_all [] = refl
of_all (value ∷ []) = refl
of_all (first ∷ second ∷ others) =
    subst (λ occurrence. IsOccurrence occurrence (first ∷ second ∷ others)) (sym (still_repeated others))
    (first, second, others, refl)

-- what was noted of all values says how often they stand
pub is_occurrence : (occurrence : Occurrence) (found : List (List ℕ)) →
    fold noted occurrences.Absent found ≡ occurrence → IsOccurrence occurrence found
is_occurrence occurrence found is = subst (λ occurrence. IsOccurrence occurrence found) is (of_all found)
