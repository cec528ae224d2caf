use Rattle.std.proofs.Common.{◌≡◌, ◌++◌, false, length}
use Rattle.std.specs.List.{list_any}
use Rattle.xml_spec.specs.Bytes.{is_empty}
use Rattle.text_lines.specs.Words.{between_spaces}
use Rattle.text_lines.proofs.word.words_of.Given as goal

-- no word so far is empty
abbrev pub invariant-loop-word : goal.invariant-loop-word
invariant-loop-word l =
    (between_spaces l.line ≡ l.found ++ l.words) × (list_any is_empty l.found ≡ false)

abbrev pub decreases-loop-word : goal.decreases-loop-word
decreases-loop-word l = length l.words
