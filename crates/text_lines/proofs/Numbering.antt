-- The numbers of lines fit in 32 bits, and what a line says is a text.
use Rattle.std.proofs.Common.{◌≡◌, ℕ, suc, ◌+◌, ◌<◌, ◌≤◌, ◌^◌, ◌==◌, Bool, true, false, cond, not, List, [], ◌∷◌, length, refl, arith}
use Rattle.xml_spec.specs.Ascii.{line_feed}
use Rattle.text_lines.specs.Lines.{Said, Says, NoText, said, said_from, lines, is_text, is_passed_over, number_said, SaysText}
use Rattle.text_lines.proofs.Texts.{tested_text}
use Rattle.std.specs.List.{onto_first}

-- each number fits, and what is said is a text
abbrev pub AreSmall : List Said → Type 0
AreSmall [] = Unit {0}
AreSmall (next ∷ others) = (number_said next < 2 ^ 32) × SaysText next × AreSmall others

first_is_longer : (b : ℕ) (ls : List (List ℕ)) (n : ℕ) → length ls ≤ n → length (onto_first b ls) ≤ suc n
first_is_longer b [] n few = omega arith
first_is_longer b (line ∷ ls) n few = omega arith

pub few_lines : (bytes : List ℕ) → length (lines bytes) ≤ length bytes
few_lines [] = omega arith
few_lines (b ∷ bytes) = by_test (b == line_feed) (few_lines bytes)
  where
    by_test : (t : Bool) → length (lines bytes) ≤ length bytes → length (cond t ([] ∷ lines bytes) (onto_first b (lines bytes))) ≤ suc (length bytes)
    by_test true few = omega arith
    by_test false few = first_is_longer b (lines bytes) (length bytes) few

not_false : (b : Bool) → not b ≡ false → b ≡ true
not_false true h = refl
not_false false h = absurd (cc)

small_from : (number : ℕ) (ls : List (List ℕ)) → number + length ls ≤ 2 ^ 32 → AreSmall (said_from number ls)
small_from number [] fits = tt
small_from number (line ∷ ls) fits = by_tests (not (is_text line)) (is_passed_over line) refl (small_from (suc number) ls (omega arith))
  where
    by_tests : (t p : Bool) → not (is_text line) ≡ t → AreSmall (said_from (suc number) ls) →
        AreSmall (cond t (NoText number ∷ []) (cond p (said_from (suc number) ls) (Says number line ∷ said_from (suc number) ls)))
    by_tests true p is others = (omega arith, tt, tt)
    by_tests false true is others = others
    by_tests false false is others = (omega arith, tested_text line (not_false (is_text line) is), others)

pub small_numbers : (text : List ℕ) → length text < 2 ^ 32 → AreSmall (said text)
small_numbers text short = small_from 1 (lines text) (let few = few_lines text in omega arith)
