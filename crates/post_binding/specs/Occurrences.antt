-- How often a name stands in a form.
use Rattle.std.specs.Prelude.{◌≡◌, ℕ, List, [], ◌∷◌}
use Rattle.post_binding.specs.declared.reading.Occurrence.{Occurrence}
use Rattle.post_binding.specs.declared.reading.Occurrence.TheVariants as occurrences

-- these are the values under a name that stands so often
abbrev pub IsOccurrence : Occurrence → List (List ℕ) → Type 0
IsOccurrence occurrences.Absent found = found ≡ []
IsOccurrence (occurrences.Once value) found = found ≡ value ∷ []
IsOccurrence occurrences.Repeated found =
    (first : List ℕ) × (second : List ℕ) × (others : List (List ℕ)) × (found ≡ first ∷ second ∷ others)

-- how often a name stands that stood so often and stands once more, with this value
abbrev pub noted : Occurrence → List ℕ → Occurrence
noted occurrences.Absent value = occurrences.Once value
noted (occurrences.Once first) value = occurrences.Repeated
noted occurrences.Repeated value = occurrences.Repeated
