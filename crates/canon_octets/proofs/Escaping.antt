-- Bytes that are written as they are in runs, and the others one by one.
use Rattle.std.proofs.Common.{◌≡◌, ℕ, suc, ◌+◌, List, [], ◌∷◌, ◌++◌, take, drop, refl, sym, ap, ◌∙◌, arith}
use Rattle.std.specs.Prelude.{IsTrue}
use Rattle.std.specs.List.{flat_map}
use Rattle.std.proofs.lemmas.Bool.Decides.{nat_tests}
use Rattle.std.proofs.lemmas.List.{take-append-drop}
use Rattle.std.proofs.lemmas.List.Concat.{flat_map-append}
use Rattle.std.proofs.Math.Numerals.{one-add}
use Rattle.xml_spec.specs.Bytes.{AllPass}
use Rattle.canon_octets.specs.Escapes.{escape_byte, is_kept}
use Rattle.canon_octets.specs.declared.escape.Place.{Place}
use Rattle.canon_octets.specs.declared.escape.Place.TheVariants as places

-- a byte that is kept is written as it is
kept_byte : (place : Place) (b : ℕ) → IsTrue (is_kept place b) → escape_byte place b ≡ b ∷ []
kept_byte places.Text b kept = grind (arith, nat_tests)
kept_byte places.Value b kept = grind (arith, nat_tests)

-- and so are many
kept_bytes : (place : Place) (bytes : List ℕ) → AllPass (is_kept place) bytes → flat_map (escape_byte place) bytes ≡ bytes
kept_bytes place [] kept = refl
kept_bytes place (b ∷ bytes) kept =
    let first : IsTrue (is_kept place b) = grind (arith, nat_tests) in
    let others : AllPass (is_kept place) bytes = grind (arith, nat_tests) in
    cc (kept_byte place b first, kept_bytes place bytes others)

-- a run of them in front of others
kept_run : (place : Place) (bytes : List ℕ) (n : ℕ) → AllPass (is_kept place) (take n bytes) →
    flat_map (escape_byte place) bytes ≡ take n bytes ++ flat_map (escape_byte place) (drop n bytes)
kept_run place bytes n kept =
    ap (flat_map (escape_byte place)) (sym (take-append-drop n bytes))
    ∙ flat_map-append (escape_byte place) (take n bytes) (drop n bytes)
    ∙ ap (λ xs. xs ++ flat_map (escape_byte place) (drop n bytes)) (kept_bytes place (take n bytes) kept)

-- a run that begins with a byte that is written as it is
pub run_first : (place : Place) (rest behind run more : List ℕ) (b n : ℕ) → rest ≡ b ∷ behind → escape_byte place b ≡ b ∷ [] →
    AllPass (is_kept place) (take n behind) → run ≡ take (1 + n) rest → more ≡ drop (1 + n) rest →
    flat_map (escape_byte place) rest ≡ run ++ flat_map (escape_byte place) more
run_first place rest behind run more b n is same kept front back =
    let tail = kept_run place behind n kept in
    let run_is : run ≡ b ∷ take n behind = front ∙ ap (λ m. take m rest) (one-add n) ∙ ap (take (suc n)) is in
    let more_is : more ≡ drop n behind = back ∙ ap (λ m. drop m rest) (one-add n) ∙ ap (drop (suc n)) is in
    ap (flat_map (escape_byte place)) is
    ∙ ap (λ xs. xs ++ flat_map (escape_byte place) behind) same
    ∙ ap (λ xs. b ∷ xs) tail
    ∙ ap (λ xs. xs ++ flat_map (escape_byte place) (drop n behind)) (sym run_is)
    ∙ ap (λ xs. run ++ flat_map (escape_byte place) xs) (sym more_is)

-- a reference in front of others
pub reference_first : (f : ℕ → List ℕ) (rest behind name : List ℕ) (b : ℕ) → rest ≡ b ∷ behind → f b ≡ name → flat_map f rest ≡ name ++ flat_map f behind
reference_first f rest behind name b is other = ap (flat_map f) is ∙ ap (λ xs. xs ++ flat_map f behind) other
