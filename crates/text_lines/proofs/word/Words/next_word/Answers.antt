use Rattle.std.proofs.Common.{[], ◌∷◌, sym, ap, ◌∙◌}
use Rattle.std.specs.Option.{option_map_or}
use Rattle.text_lines.specs.Words.{between_spaces}
use Rattle.text_lines.proofs.Lining.{first_word, shown_rest}
use Rattle.text_lines.proofs.word.Words.next_word.Goals as goal

pub returns : goal.returns
returns c =
    let parts = c.parts_of-parts.result in
    sym c.self.view_is ∙ ap (λ o. option_map_or (λ t. between_spaces t.now) o []) c.in_ok-line.was ∙ first_word c.in_ok-line.line.now
    ∙ ap (λ p. p.first ∷ option_map_or between_spaces p.rest []) (sym c.parts_of-parts.ensures)
    ∙ ap (λ xs. parts.first.now ∷ xs) (shown_rest parts.rest)
