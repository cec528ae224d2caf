-- Escaped texts: they hold no markup, and are read as what they were made of.
use Rattle.std.proofs.Common.{◌≡◌, ◌≢◌, ℕ, List, [], ◌∷◌, ◌++◌, refl, sym, ap, ◌∙◌, subst, ⊎_elim}
use Rattle.std.specs.Prelude.{filter}
use Rattle.std.specs.Option.{option_map}
use Rattle.std.proofs.lemmas.Bool.{cases_eq, ne_eqb}
use Rattle.std.proofs.lemmas.List.Elements.{filter-append}
use Rattle.post_binding.specs.Html.{escape_byte, escape, is_markup, read_behind}
use Rattle.post_binding.specs.Laws.{EscapedTextHoldsNoMarkup, EscapedTextIsReadAgain}

-- what holds of the five bytes that are written as references, and of each other byte
module _ (P : ℕ → Type 0) (at_ampersand : P 38) (at_less : P 60) (at_greater : P 62) (at_quote : P 34) (at_apostrophe : P 39)
    (other : (b : ℕ) → b ≢ 38 → b ≢ 60 → b ≢ 62 → b ≢ 34 → b ≢ 39 → P b) where
  each_byte : (b : ℕ) → P b
  each_byte b =
      let at = λ (c : ℕ) (p : P c) (e : b ≡ c). subst P (sym e) p in
      ⊎_elim (at 38 at_ampersand) (λ not_ampersand.
      ⊎_elim (at 60 at_less) (λ not_less.
      ⊎_elim (at 62 at_greater) (λ not_greater.
      ⊎_elim (at 34 at_quote) (λ not_quote.
      ⊎_elim (at 39 at_apostrophe) (other b not_ampersand not_less not_greater not_quote)
      (cases_eq b 39)) (cases_eq b 34)) (cases_eq b 62)) (cases_eq b 60)) (cases_eq b 38)

-- any other byte is written as it is
as_it_is : (b : ℕ) → b ≢ 38 → b ≢ 60 → b ≢ 62 → b ≢ 34 → b ≢ 39 → escape_byte b ≡ b ∷ []
as_it_is b not_ampersand not_less not_greater not_quote not_apostrophe =
    rw (ne_eqb b 38 not_ampersand, ne_eqb b 60 not_less, ne_eqb b 62 not_greater, ne_eqb b 34 not_quote, ne_eqb b 39 not_apostrophe)

byte_holds_no_markup : (b : ℕ) → filter is_markup (escape_byte b) ≡ []
byte_holds_no_markup =
    each_byte (λ b. filter is_markup (escape_byte b) ≡ []) refl refl refl refl refl
    (λ b not_ampersand not_less not_greater not_quote not_apostrophe.
    let single : filter is_markup (b ∷ []) ≡ [] = rw (ne_eqb b 60 not_less, ne_eqb b 62 not_greater, ne_eqb b 34 not_quote, ne_eqb b 39 not_apostrophe) in
    ap (filter is_markup) (as_it_is b not_ampersand not_less not_greater not_quote not_apostrophe) ∙ single)

pub escaped_text_holds_no_markup : EscapedTextHoldsNoMarkup
escaped_text_holds_no_markup [] = refl
escaped_text_holds_no_markup (b ∷ text) =
    filter-append is_markup (escape_byte b) (escape text)
    ∙ ap (λ xs. xs ++ filter is_markup (escape text)) (byte_holds_no_markup b) ∙ escaped_text_holds_no_markup text

byte_is_read_again : (rest : List ℕ) (b : ℕ) → read_behind 0 (escape_byte b ++ rest) ≡ option_map (λ text. b ∷ text) (read_behind 0 rest)
byte_is_read_again rest =
    each_byte (λ b. read_behind 0 (escape_byte b ++ rest) ≡ option_map (λ text. b ∷ text) (read_behind 0 rest)) refl refl refl refl refl
    (λ b not_ampersand not_less not_greater not_quote not_apostrophe.
    let single : read_behind 0 (b ∷ rest) ≡ option_map (λ text. b ∷ text) (read_behind 0 rest) = rw (ne_eqb b 38 not_ampersand) in
    ap (λ xs. read_behind 0 (xs ++ rest)) (as_it_is b not_ampersand not_less not_greater not_quote not_apostrophe) ∙ single)

pub escaped_text_is_read_again : EscapedTextIsReadAgain
escaped_text_is_read_again [] = refl
escaped_text_is_read_again (b ∷ text) =
    byte_is_read_again (escape text) b ∙ ap (option_map (λ text. b ∷ text)) (escaped_text_is_read_again text)
