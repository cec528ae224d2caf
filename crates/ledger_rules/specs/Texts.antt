-- Texts, and what is looked up among them.
use Rattle.std.specs.Prelude.{◌≡◌, ℕ, Bool, true, false, List, [], ◌∷◌, slice_index_or}
use Rattle.std.specs.List.{list_any}
use Rattle.std.specs.Str.{bytes_eq}
use Rattle.owned_values.specs.declared.attributes.Attribute.{Attribute}

-- whether a text is among these
abbrev pub is_among : List ℕ → List (List ℕ) → Bool
is_among text texts = list_any (λ other. bytes_eq other text) texts

-- whether there is no text
abbrev pub is_empty : List (List ℕ) → Bool
is_empty [] = true
is_empty (first ∷ others) = false

-- the ID at a place, the empty one where there is none
abbrev pub id_at : List (List ℕ) → ℕ → List ℕ
id_at ids k = slice_index_or ids k []

-- an attribute's name and values
abbrev pub of_attribute : Attribute → List (List ℕ)
of_attribute a = a.name ∷ a.values

-- A text is among the first just where it is among the others.
abbrev pub IsSetOf : List (List ℕ) → List (List ℕ) → Type 0
IsSetOf set texts = (text : List ℕ) → is_among text set ≡ is_among text texts
