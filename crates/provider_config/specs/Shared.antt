-- Words that the configs of all roles share.
use Rattle.std.specs.Prelude.{ℕ, Bool, List, [], ◌∷◌, ◌++◌, Option, None, Some, Result, ok_or, if◌then◌else◌}
use Rattle.std.specs.List.{list_any}
use Rattle.std.specs.Option.{option_or}
use Rattle.std.specs.Str.{bytes_eq}
use Rattle.xml_spec.specs.Characters.{IsText}
use Rattle.text_lines.specs.Lines.{said, and_then, with_lines}
use Rattle.text_lines.specs.Words.{words_of}
use Rattle.provider_config.specs.declared.fault.ConfigFault.{ConfigFault}
use Rattle.provider_config.specs.declared.fault.ConfigFault.TheVariants as faults
use Rattle.owned_values.specs.Options.{◌>>=◌}

-- what the line of a kind says, of which there is one at most
abbrev pub the : {Line X : Type 0} → (Line → Option X) → List Line → Option X
the says [] = None
the says (line ∷ lines) = option_or (the says lines) (says line)

-- one of these lines has this key
abbrev pub has_key : {Line : Type 0} → (Line → List ℕ) → List Line → List ℕ → Bool
has_key key_of lines key = list_any (λ line. bytes_eq (key_of line) key) lines

-- These lines with the one that a text spells; none where its words spell no line, or one that is beyond what may stand
-- behind those before it.
abbrev pub with_line : {L : Type 0} → (ℕ → List (List ℕ) → Option L) → (L → List L → Bool) → ℕ → List ℕ → List L → Option (List L)
with_line spelled is_beyond number text before = do
  words ← words_of text
  line ← spelled number words
  if is_beyond line before then None else Some (before ++ line ∷ [])

-- The config of a text, or the number of the first line that is bad; 0 where no line is bad and a key is missing.
abbrev pub config_in : {L C : Type 0} → (ℕ → List (List ℕ) → Option L) → (L → List L → Bool) → (List L → Option C) → List ℕ → Result C ℕ
config_in spelled is_beyond config_of text =
    and_then (λ lines. ok_or (config_of lines) 0) (with_lines (with_line spelled is_beyond) [] (said text))

-- the list with what a line adds
abbrev pub pushed : {X : Type 0} → List X → Option X → List X
pushed xs None = xs
pushed xs (Some x) = xs ++ x ∷ []

-- the number that a fault gives, none for want of memory
abbrev pub fault_of : ConfigFault → Option ℕ
fault_of (faults.Line number) = Some number
fault_of faults.NoMemory = None

-- each is a text that XML allows (XML 1.0, 2.2)
abbrev pub AreTexts : List (List ℕ) → Type 0
AreTexts [] = Unit {0}
AreTexts (word ∷ words) = IsText word × AreTexts words
