-- What a set of texts holds.
use Rattle.std.proofs.Common.{◌≡◌, ℕ, Bool, true, false, cond, ◌||◌, String, List, [], ◌∷◌, map, string_bytes, refl, ◌∙◌}
use Rattle.std.specs.List.{list_any}
use Rattle.std.specs.Ordering.{nat_cmp, is_eq}
use Rattle.std.specs.Cmp.Lexicographic.{slice_cmp}
use Rattle.std.proofs.lemmas.Cmp.{nat_list_eq_equiv}
use Rattle.std.proofs.lemmas.Map.Text.{is_eq-slice_cmp}
use Rattle.ledger_rules.specs.Texts.{is_among}

-- a key that ties with a text equals it
pub ties_among : {Y : Type 0} (text : List ℕ) (keys : List (String Y)) → list_any (λ k. is_eq (slice_cmp nat_cmp text (string_bytes k))) keys ≡ is_among text (map string_bytes keys)
ties_among text [] = refl
ties_among text (key ∷ keys) =
    let here = is_eq-slice_cmp text (string_bytes key) ∙ nat_list_eq_equiv.symm text (string_bytes key) in
    λ i. here i || ties_among text keys i

-- one text more
pub one_more : (here before : Bool) → cond here true before ≡ (before || here)
one_more true true = refl
one_more true false = refl
one_more false true = refl
one_more false false = refl
