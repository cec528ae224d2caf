-- A text is a name where its characters pass the tests.
use Rattle.std.proofs.Common.{◌≡◌, ℕ, Bool, true, false, ◌&&◌, List, [], ◌∷◌, length, IsTrue, refl, sym, ◌∙◌, ap, subst, arith}
use Rattle.std.specs.List.{list_all}
use Rattle.std.specs.Str.{IsUtf8, chars}
use Rattle.std.proofs.lemmas.Bool.Decides.{same_from_decides}
use Rattle.std.proofs.lemmas.Str.{chars-nil, encodes-chars, encodes_same}
use Rattle.std.proofs.Math.Utf8.{encodes}
use Rattle.xml_spec.specs.Characters.{Ranges, InRanges, in_ranges, is_name_start, is_name_char, IsName}
use Rattle.xml_spec.proofs.Classes.{in_ranges-true, true-in_ranges}
use Rattle.xml_spec.proofs.Tests.{and_true, both_true}

-- what is true exactly in the ranges is their test
pub same_test : (ranges : Ranges) (c : ℕ) (b : Bool) → (IsTrue b → InRanges ranges c) × (InRanges ranges c → IsTrue b) → b ≡ in_ranges ranges c
same_test ranges c b h = same_from_decides b (in_ranges ranges c) h (in_ranges-true ranges c, true-in_ranges ranges c)

abbrev name_test : List ℕ → Bool
name_test [] = false
name_test (c ∷ cs) = is_name_start c && list_all is_name_char cs

name_passes : (cs s : List ℕ) → encodes cs ≡ s → IsName s → name_test cs ≡ true
name_passes cs s e n =
    let same : cs ≡ n.first ∷ n.others = encodes_same cs (n.first ∷ n.others) (e ∙ n.spelled) in
    subst (λ x. name_test x ≡ true) (sym same) (and_true (is_name_start n.first) (list_all is_name_char n.others) n.starts n.goes_on)

passed_name : (cs s : List ℕ) → encodes cs ≡ s → name_test cs ≡ true → IsName s
passed_name [] s e h = absurd (cc)
passed_name (c ∷ cs) s e h =
    let both = both_true (is_name_start c) (list_all is_name_char cs) h in
    record { first = c; others = cs; starts = both.0; goes_on = both.1; spelled = sym e }

name_tested : (s cs : List ℕ) (r : Bool) → IsUtf8 s → chars s ≡ cs → r ≡ name_test cs → (IsTrue r → IsName s) × (IsName s → IsTrue r)
name_tested s cs r u e t =
    let spelled : encodes cs ≡ s = ap encodes (sym e) ∙ encodes-chars s u in
    (λ h. passed_name cs s spelled (sym t ∙ h), λ n. t ∙ name_passes cs s spelled n)

no_chars : (s : List ℕ) → length s ≡ 0 → chars s ≡ []
no_chars [] h = chars-nil
no_chars (b ∷ s) h = absurd (omega arith)

pub empty_is_no_name : (s : List ℕ) → IsUtf8 s → length s ≡ 0 → (IsTrue false → IsName s) × (IsName s → IsTrue false)
empty_is_no_name s u h = name_tested s [] false u (no_chars s h) refl

-- the first character with the test of the others
pub name_by_tests : (s cs : List ℕ) (c : ℕ) (r : Bool) → IsUtf8 s → chars s ≡ c ∷ cs → r ≡ (is_name_start c && list_all is_name_char cs) → (IsTrue r → IsName s) × (IsName s → IsTrue r)
name_by_tests s cs c r u e t = name_tested s (c ∷ cs) r u e t
