-- The first line of a text, and the parts of a line.
use Rattle.std.proofs.Common.{◌≡◌, ◌≢◌, ℕ, zero, suc, ◌+◌, ◌<◌, Bool, true, false, cond, ◌==◌, List, [], ◌∷◌, length, take, drop, get_or, ◌-◌, ◌≤◌, Option, None, Some, refl, sym, ap, ◌∙◌, arith}
use Rattle.std.proofs.lemmas.Bool.Decides.{nat_tests}
use Rattle.std.proofs.lemmas.List.{take_all, length-drop}
use Rattle.xml_spec.specs.Ascii.{line_feed, space_character}
use Rattle.text_lines.specs.Lines.{lines}
use Rattle.std.specs.Option.{option_map, option_map_or}
use denote.Bor.{Bor}
use Rattle.text_lines.specs.Words.{with_first, parts_of, between_spaces}
use Rattle.std.specs.List.{onto_first}

other_byte : (b c : ℕ) → b ≢ c → (b == c) ≡ false
other_byte b c h = grind (arith, nat_tests)

same_byte : (b c : ℕ) → b ≡ c → (b == c) ≡ true
same_byte b c h = grind (arith, nat_tests)

-- a line feed at place i, and none in front of it, ends the first line
pub cut_line : (bytes : List ℕ) (i : ℕ) → i < length bytes → ((k : ℕ) → k < i → get_or bytes k 0 ≢ line_feed) → get_or bytes i 0 ≡ line_feed →
    lines bytes ≡ take i bytes ∷ lines (drop (suc i) bytes)
cut_line [] i within none feed = absurd (omega arith)
cut_line (b ∷ bytes) zero within none feed =
    ap (λ t. cond t ([] ∷ lines bytes) (onto_first b (lines bytes))) (same_byte b line_feed feed)
cut_line (b ∷ bytes) (suc i) within none feed =
    ap (λ t. cond t ([] ∷ lines bytes) (onto_first b (lines bytes))) (other_byte b line_feed (none 0 (omega arith)))
    ∙ ap (onto_first b) (cut_line bytes i (omega arith) (λ k h. none (suc k) (omega arith)) feed)

-- without a line feed the text is one line
pub last_line : (bytes : List ℕ) → 0 < length bytes → ((k : ℕ) → k < length bytes → get_or bytes k 0 ≢ line_feed) → lines bytes ≡ bytes ∷ []
last_line [] some none = absurd (omega arith)
last_line (b ∷ []) some none =
    ap (λ t. cond t ([] ∷ []) ((b ∷ []) ∷ [])) (other_byte b line_feed (none 0 (omega arith)))
last_line (b ∷ c ∷ bytes) some none =
    ap (λ t. cond t ([] ∷ lines (c ∷ bytes)) (onto_first b (lines (c ∷ bytes)))) (other_byte b line_feed (none 0 (omega arith)))
    ∙ ap (onto_first b) (last_line (c ∷ bytes) (omega arith) (λ k h. none (suc k) (omega arith)))

pub cut_parts : (bytes : List ℕ) (i : ℕ) → i < length bytes → ((k : ℕ) → k < i → get_or bytes k 0 ≢ space_character) → get_or bytes i 0 ≡ space_character →
    parts_of bytes ≡ record { first = take i bytes; rest = Some (drop (suc i) bytes) }
cut_parts [] i within none space = absurd (omega arith)
cut_parts (b ∷ bytes) zero within none space =
    ap (λ t. cond t (record { first = []; rest = Some bytes }) (with_first b (parts_of bytes))) (same_byte b space_character space)
cut_parts (b ∷ bytes) (suc i) within none space =
    ap (λ t. cond t (record { first = []; rest = Some bytes }) (with_first b (parts_of bytes))) (other_byte b space_character (none 0 (omega arith)))
    ∙ ap (with_first b) (cut_parts bytes i (omega arith) (λ k h. none (suc k) (omega arith)) space)

pub whole_part : (bytes : List ℕ) → ((k : ℕ) → k < length bytes → get_or bytes k 0 ≢ space_character) → parts_of bytes ≡ record { first = bytes; rest = None }
whole_part [] none = refl
whole_part (b ∷ bytes) none =
    ap (λ t. cond t (record { first = []; rest = Some bytes }) (with_first b (parts_of bytes))) (other_byte b space_character (none 0 (omega arith)))
    ∙ ap (with_first b) (whole_part bytes (λ k h. none (suc k) (omega arith)))

-- what stands behind a place is all of it
pub all_behind : (bytes : List ℕ) (n : ℕ) → n ≤ length bytes → take (length bytes - n) (drop n bytes) ≡ drop n bytes
all_behind bytes n within = take_all (length bytes - n) (drop n bytes) (omega (arith, length-drop n bytes))

pub nothing_left : (bytes : List ℕ) → lines (take (length bytes - length bytes) (drop (length bytes) bytes)) ≡ []
nothing_left bytes = ap (λ n. lines (take n (drop (length bytes) bytes))) (let z : length bytes - length bytes ≡ 0 = omega arith in z)

pub slice_behind : {X : Type 0} (f : List ℕ → X) (bytes : List ℕ) (i : ℕ) → i < length bytes → f (drop (suc i) bytes) ≡ f (take (length bytes - (i + 1)) (drop (i + 1) bytes))
slice_behind f bytes i within =
    ap f (ap (λ n. drop n bytes) (let s : suc i ≡ i + 1 = omega arith in s) ∙ sym (all_behind bytes (i + 1) (omega arith)))

-- what stands between spaces is the first part, and then what stands between those of the rest
pub first_word : (bytes : List ℕ) → between_spaces bytes ≡ (parts_of bytes).first ∷ option_map_or between_spaces (parts_of bytes).rest []
first_word [] = refl
first_word (b ∷ bytes) = by_test (b == space_character) (first_word bytes)
  where
    by_test : (t : Bool) → between_spaces bytes ≡ (parts_of bytes).first ∷ option_map_or between_spaces (parts_of bytes).rest [] →
        cond t ([] ∷ between_spaces bytes) (onto_first b (between_spaces bytes))
        ≡ (cond t (record { first = []; rest = Some bytes }) (with_first b (parts_of bytes))).first
        ∷ option_map_or between_spaces (cond t (record { first = []; rest = Some bytes }) (with_first b (parts_of bytes))).rest []
    by_test true h = refl
    by_test false h = ap (onto_first b) h

pub shown_rest : (rest : Option (Bor (List ℕ))) →
    option_map_or between_spaces (option_map (λ (t : Bor (List ℕ)). t.now) rest) [] ≡ option_map_or (λ (t : Bor (List ℕ)). between_spaces t.now) rest []
shown_rest None = refl
shown_rest (Some text) = refl
