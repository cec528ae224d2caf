use Rattle.std.proofs.Common.{◌≡◌, ℕ, List, Option, Some, IfSome, sym, ◌∙◌, subst}
use Rattle.text_lines.specs.Words.{words_of}
use Rattle.provider_config.specs.Shared.{AreTexts}
use Rattle.provider_config.proofs.TextWords.{words_are_texts}
use Rattle.provider_config.proofs.hub_line.line_of.Goals as goal

pub spelled-requires : goal.spelled-requires
spelled-requires c =
    let found : words_of c.args.text.now ≡ Some c.in-Some.words = sym c.in_ok-words.ensures ∙ c.in-Some.is in
    subst AreTexts (sym c.as_slice.ensures)
    (subst (λ (o : Option (List (List ℕ))). IfSome o AreTexts) found (words_are_texts c.args.text.now c.requires))
