use Rattle.std.proofs.Common.{◌≡◌, true, refl, sym, ◌∙◌, subst}
use Rattle.std.specs.List.{list_all}
use Rattle.xml_chars.specs.AsciiTexts.{is_ascii_char}
use Rattle.xml_chars.proofs.Texts.{ascii_text}
use Rattle.xml_chars.proofs.text.is_text.Goals as goal

pub returns-then-are_ascii_chars : goal.returns-then-are_ascii_chars
returns-then-are_ascii_chars c = (
  λ _. ascii_text c.args.text.now
      (subst (λ bytes. list_all is_ascii_char bytes ≡ true) c.as_bytes.ensures.value (sym c.are_ascii_chars.ensures ∙ c.if-are_ascii_chars.true)),
  λ _. refl,
)
