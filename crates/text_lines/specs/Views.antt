-- How the definitions see what is read.
use Rattle.std.specs.Option.{option_map}
use Rattle.text_lines.specs.Lines as lines
use Rattle.text_lines.specs.Words as words
use Rattle.text_lines.specs.declared.line.Said.{Said}
use Rattle.text_lines.specs.declared.line.Said.TheVariants as kinds
use Rattle.text_lines.specs.declared.word.Parts.{Parts}

abbrev pub said_view : Said → lines.Said
said_view (kinds.Line number text) = lines.Says number text.now
said_view (kinds.NoText number) = lines.NoText number

abbrev pub parts_view : Parts → words.Parts
parts_view parts = record { first = parts.first.now; rest = option_map (λ text. text.now) parts.rest }
