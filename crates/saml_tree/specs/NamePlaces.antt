-- Names that are kept as their places in a text.
use Rattle.std.specs.Prelude.{ℕ, ◌-◌, ◌<◌, ◌≤◌, ◌^◌, List, map, length, take, drop}
use Rattle.std.specs.List.{AllByRecursion}
use mathlib.Core.Path.{refl}
use Rattle.std.specs.Coded.{Coded, code_by, coded×, coded_list}
use Rattle.xml_spec.specs.Codes.{coded_bytes}
use Rattle.saml_tree.specs.declared.open_names.Place.{Place}

-- the text, and names that stand in it
pub record NamesView : Type 0 where
  pub text : List ℕ
  pub names : List (List ℕ)

abbrev pub coded_names : Coded NamesView
coded_names =
    code_by (List ℕ × List (List ℕ)) (coded× coded_bytes (coded_list coded_bytes)) (λ v. (v.text, v.names))
    (λ p. record { text = p.0; names = p.1 }) (λ _. refl)

-- the bytes of the text that stand at a place
abbrev pub name_at : List ℕ → Place → List ℕ
name_at text place = take (place.end - place.start) (drop place.start text)

abbrev pub names_at : List ℕ → List Place → List (List ℕ)
names_at text places = map (name_at text) places

-- the place lies in the text
pub record IsPlace (text : List ℕ) (place : Place) : Type 0 where
  pub ordered : place.start ≤ place.end
  pub inside : place.end ≤ length text

-- the places lie in the text, and their numbers are small
pub record ArePlaces (text : List ℕ) (places : List Place) : Type 0 where
  pub small : length text < 2 ^ 32
  pub inside : AllByRecursion (IsPlace text) places
