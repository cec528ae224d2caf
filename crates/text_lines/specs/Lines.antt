-- Files that people write: texts of lines.
use Rattle.std.specs.Prelude.{ℕ, suc, Bool, true, ◌&&◌, not, ◌==◌, List, [], ◌∷◌, Option, Result, Ok, Err, ok_or, if◌then◌else◌}
use Rattle.std.specs.List.{list_all, onto_first}
use Rattle.std.specs.Str.{chars, encode_utf8_all, bytes_eq}
use Rattle.xml_spec.specs.Ascii.{line_feed}
use Rattle.xml_spec.specs.Characters.{is_char, IsText}

-- the bytes are the UTF-8 of characters that XML allows; a law says that this is the word of XML 1.0, 2.2
abbrev pub is_text : List ℕ → Bool
is_text bytes = list_all is_char (chars bytes) && bytes_eq (encode_utf8_all (chars bytes)) bytes

-- the lines of a text: each ends with a line feed, which the last one may lack
abbrev pub lines : List ℕ → List (List ℕ)
lines [] = []
lines (b ∷ bytes) = if b == line_feed then [] ∷ lines bytes else onto_first b (lines bytes)

-- '#'
abbrev pub number_sign : ℕ
number_sign = 35

-- a line is passed over where it is empty or a comment
abbrev pub is_passed_over : List ℕ → Bool
is_passed_over [] = true
is_passed_over (b ∷ bytes) = b == number_sign

-- a line that says something, or one that is no text
pub data Said : Type 0 where
  Says : (number : ℕ) (line : List ℕ) → Said
  NoText : (number : ℕ) → Said

-- the number of a line
abbrev pub number_said : Said → ℕ
number_said (Says number line) = number
number_said (NoText number) = number

-- what it says is a text
abbrev pub SaysText : Said → Type 0
SaysText (Says number line) = IsText line
SaysText (NoText number) = Unit {0}

-- What lines say, of which the first has this number. All lines are counted, also those that are passed over. A line that
-- is no text ends it, a comment too.
abbrev pub said_from : ℕ → List (List ℕ) → List Said
said_from number [] = []
said_from number (line ∷ others) =
    if not (is_text line) then NoText number ∷ []
    else if is_passed_over line then said_from (suc number) others
    else Says number line ∷ said_from (suc number) others

-- what a text says; its first line has the number 1
abbrev pub said : List ℕ → List Said
said text = said_from 1 (lines text)

-- what follows where there is no fault
abbrev pub and_then : {X Y F : Type 0} → (X → Result Y F) → Result X F → Result Y F
and_then f (Ok x) = f x
and_then f (Err fault) = Err fault

-- What comes of a beginning by all that is said behind it, one line after the other; or the number of the first line that is
-- bad: it is no text, or nothing comes of it.
abbrev pub with_lines : {X : Type 0} → (ℕ → List ℕ → X → Option X) → X → List Said → Result X ℕ
with_lines with_line before [] = Ok before
with_lines with_line before (NoText number ∷ others) = Err number
with_lines with_line before (Says number line ∷ others) =
    and_then (λ next. with_lines with_line next others) (ok_or (with_line number line before) number)
