-- What is shown of tokens.
use Rattle.std.proofs.Common.{◌≡◌, List, Bool, true, false, refl, sym, subst}
use Rattle.xml_spec.specs.Tree.{Attribute}
use Rattle.xml_spec.specs.Syntax.{Tag, EmptyTag, Token, Alone}
use Rattle.xml_tokens.specs.declared.token.Markup.{Markup}
use Rattle.xml_tokens.specs.declared.token.Markup.TheVariants as markup
use Rattle.xml_tokens.specs.Views.{Shows}

abbrev pub is_empty_tag : Markup → Bool
is_empty_tag (markup.Empty name) = true
is_empty_tag read = false

-- what is shown as the tag of an empty element is one
pub shown_empty : (token : Token) (read : Markup) (attributes : List Attribute) → is_empty_tag read ≡ true → Shows token read attributes → (tag : Tag) × (token ≡ Alone (EmptyTag tag))
shown_empty (Alone (EmptyTag tag)) (markup.Empty name) attributes h s = (tag, refl)
shown_empty token (markup.Empty name) attributes h s = absurd s
shown_empty token read attributes h s = absurd (let clash : false ≡ true = h in cc)

-- what holds of each tag of an empty element holds of what is shown as one
pub of_empty : (P : Token → Type 0) (read : Markup) → is_empty_tag read ≡ true → ((tag : Tag) → P (Alone (EmptyTag tag))) →
    (token : Token) (attributes : List Attribute) → Shows token read attributes → P token
of_empty P read h f token attributes s = let found = shown_empty token read attributes h s in subst P (sym found.1) (f found.0)
