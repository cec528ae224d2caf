-- Names at their places in a text.
use Rattle.std.proofs.Common.{◌≡◌, ℕ, ◌+◌, ◌-◌, List, [], ◌∷◌, ◌++◌, length, take, drop, ◌∙◌, ap, arith, length-append}
use Rattle.std.proofs.Math.Seq.{drop-append-add, take-append_seam}
use Rattle.std.proofs.lemmas.List.{map-append}
use Rattle.xml_spec.specs.Ascii.{less_than}
use Rattle.saml_tree.specs.NamePlaces.{name_at, names_at}
use Rattle.saml_tree.specs.declared.open_names.Place.{Place}

-- behind the sign of a start tag stands its name
placed : (text front left name behind : List ℕ) (place : Place) → text ≡ front ++ left → left ≡ less_than ∷ (name ++ behind) →
    place.start ≡ length front + 1 → place.end - place.start ≡ length name → name_at text place ≡ name
placed text front left name behind place whole begins starts ends =
    ap (λ n. take n (drop place.start text)) ends ∙ ap (λ n. take (length name) (drop n text)) starts
    ∙ ap (λ z. take (length name) (drop (length front + 1) z)) (whole ∙ ap (λ z. front ++ z) begins)
    ∙ ap (take (length name)) (drop-append-add front (less_than ∷ (name ++ behind)) 1)
    ∙ take-append_seam name behind

-- one more name
pub one_more : (text front left name behind : List ℕ) (places after : List Place) (place : Place) → text ≡ front ++ left →
    left ≡ less_than ∷ (name ++ behind) → after ≡ places ++ place ∷ [] → place.start ≡ length front + 1 →
    place.end - place.start ≡ length name → names_at text after ≡ names_at text places ++ name ∷ []
one_more text front left name behind places after place whole begins pushed starts ends =
    ap (names_at text) pushed ∙ map-append (name_at text) places (place ∷ [])
    ∙ ap (λ n. names_at text places ++ n ∷ []) (placed text front left name behind place whole begins starts ends)

-- the front is what the rest leaves of the text
pub front_length : (text front left : List ℕ) → text ≡ front ++ left → length text - length left ≡ length front
front_length text front left whole = let e = ap length whole ∙ length-append front left in omega arith
