-- The definitions at worked examples.
use Rattle.std.specs.Prelude.{ℕ, ◌≡◌, ◌^◌, ◌-◌, List, [], ◌∷◌, ◌++◌, Option, None, Some, Ok, Err, if◌then◌else◌, codes, refl}
use Rattle.std.specs.Str.{chars, bytes_eq}
use lib.Utf8.{encode}
use Rattle.text_lines.specs.Lines.{lines, said, Says, NoText, with_lines}
use Rattle.text_lines.specs.Words.{parts_of, words_of}
use Rattle.text_lines.specs.Numbers.{number_of}

-- the last line may lack its line feed
three_lines : (lines (codes "a\n\nb") ≡ codes "a" ∷ [] ∷ codes "b" ∷ []) × (lines (codes "a\n\nb\n") ≡ codes "a" ∷ [] ∷ codes "b" ∷ [])
three_lines = (refl, refl)

no_line : lines [] ≡ []
no_line = refl

-- empty lines and comments are passed over and counted; a space in front makes a comment a line like others
comments : said (codes "# c\n\na b\n #\n") ≡ Says 3 (codes "a b") ∷ Says 4 (codes " #") ∷ []
unfolding chars encode
comments = refl

-- a comment that holds a byte that is no UTF-8, or a character that XML does not allow, ends it
no_text : (said (codes "a\n#" ++ 255 ∷ codes "\nb\n") ≡ Says 1 (codes "a") ∷ NoText 2 ∷ []) × (said (0 ∷ codes "\nb") ≡ NoText 1 ∷ [])
unfolding chars encode
no_text = (refl, refl)

-- what comes of lines that are kept with their numbers, of which none may say `b`
abbrev numbered : ℕ → List ℕ → List (ℕ × List ℕ) → Option (List (ℕ × List ℕ))
numbered number line before = if bytes_eq line (codes "b") then None else Some (before ++ (number, line) ∷ [])

-- all of them, in order; the first that is bad, be it that nothing comes of it or that it is no text
one_by_one : (with_lines numbered [] (said (codes "a\n\nc\n")) ≡ Ok ((1, codes "a") ∷ (3, codes "c") ∷ []))
    × (with_lines numbered [] (said (codes "a\n#\nb\nb\n")) ≡ Err 3) × (with_lines numbered [] (said (codes "a\n" ++ 0 ∷ [])) ≡ Err 2)
unfolding chars encode
one_by_one = (refl, refl, refl)

-- one space separates two words, and no word is empty; a tab is a part of a word
words : (words_of (codes "a b") ≡ Some (codes "a" ∷ codes "b" ∷ [])) × (words_of (codes "a  b") ≡ None) × (words_of (codes " a") ≡ None)
    × (words_of (codes "a ") ≡ None) × (words_of (codes "a\tb") ≡ Some (codes "a\tb" ∷ []))
words = (refl, refl, refl, refl, refl)

-- what stands behind the first space may hold others
parts : (parts_of (codes "a b  c") ≡ record { first = codes "a"; rest = Some (codes "b  c") }) × (parts_of (codes "a ") ≡ record { first = codes "a"; rest = Some [] })
    × (parts_of (codes "a") ≡ record { first = codes "a"; rest = None })
parts = (refl, refl, refl)

numbers : (number_of 300 (codes "0") ≡ Some 0) × (number_of 300 (codes "300") ≡ Some 300) × (number_of 300 (codes "301") ≡ None)
    × (number_of 300 (codes "07") ≡ None) × (number_of 300 (codes "+7") ≡ None) × (number_of 300 [] ≡ None)
numbers = (refl, refl, refl, refl, refl, refl)

greatest : (number_of (2 ^ 64 - 1) (codes "18446744073709551615") ≡ Some (2 ^ 64 - 1)) × (number_of (2 ^ 64 - 1) (codes "18446744073709551616") ≡ None)
greatest = (refl, refl)
