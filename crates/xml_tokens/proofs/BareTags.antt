-- Start tags of a name alone: the bytes of one, and what refuses one.
use Rattle.std.proofs.Common.{◌≡◌, List, ℕ, [], ◌∷◌, ◌++◌, refl, sym, ◌∙◌, ap, append-nil}
use Rattle.xml_spec.specs.Ascii.{less_than, greater_than}
use Rattle.xml_spec.specs.Syntax.{print_token}
use Rattle.xml_spec.specs.Laws.{BeginsWith}
use Rattle.xml_spec.proofs.Tokens.{start_parts}
use Rattle.xml_tokens.specs.Markup.{bare_tag, NoBareStart}
use Rattle.xml_tokens.specs.Lexing.{NameAt, NoName}
use Rattle.xml_tokens.proofs.AttributeReadings.{same_name}

bare_parts : (name x : List ℕ) → print_token (bare_tag name) ++ x ≡ less_than ∷ (name ++ (greater_than ∷ x))
bare_parts name x =
    start_parts (record { name = name; assignments = []; space = [] }) x ∙ ap (λ z. less_than ∷ (z ++ (greater_than ∷ x))) (append-nil (name ++ []) ∙ append-nil name)

same_behind : (tag other : List ℕ) → less_than ∷ tag ≡ less_than ∷ other → tag ≡ other
same_behind tag other e = cc

named : (rest tag name behind : List ℕ) → rest ≡ less_than ∷ tag → BeginsWith rest (bare_tag name) behind → NameAt tag name (greater_than ∷ behind)
named rest tag name behind e b = record {
  named = b.valid.name;
  split = same_behind tag (name ++ (greater_than ∷ behind)) (sym e ∙ b.printed ∙ bare_parts name behind);
  ends = refl;
}

pub unopened : (rest : List ℕ) → ((x : List ℕ) → ¬ (rest ≡ less_than ∷ x)) → NoBareStart rest
unopened rest none name behind b = none (name ++ (greater_than ∷ behind)) (b.printed ∙ bare_parts name behind)

pub unnamed : (rest tag : List ℕ) → rest ≡ less_than ∷ tag → NoName tag → NoBareStart rest
unnamed rest tag e none name behind b = none name (greater_than ∷ behind) (named rest tag name behind e b)

pub unclosed : (rest tag name close : List ℕ) → rest ≡ less_than ∷ tag → NameAt tag name close →
    ((x : List ℕ) → ¬ (close ≡ greater_than ∷ x)) → NoBareStart rest
unclosed rest tag name close e at none other behind b =
    none behind (same_name tag name other close (greater_than ∷ behind) at (named rest tag other behind e b)).1

pub begins : (rest tag name close behind : List ℕ) → rest ≡ less_than ∷ tag → NameAt tag name close → close ≡ greater_than ∷ behind →
    BeginsWith rest (bare_tag name) behind
begins rest tag name close behind e at closes = record {
  valid = record { name = at.named; assignments = tt; space = refl };
  whole = refl;
  printed = e ∙ ap (λ z. less_than ∷ z) (at.split ∙ ap (λ z. name ++ z) closes) ∙ sym (bare_parts name behind);
}
