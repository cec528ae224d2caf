-- Which bytes are a text.
use Rattle.std.proofs.Common.{◌≡◌, ℕ, Bool, true, false, cond, List, None, Some, IsUtf8, refl, sym, ap, ◌∙◌}
use Rattle.std.specs.Str.{is_utf8}
use Rattle.std.proofs.lemmas.Str.{is_utf8-from_IsUtf8, IsUtf8-from_is_utf8}
use Rattle.owned_values.specs.Options.{in_utf8}

pub text_in_utf8 : (bytes text : List ℕ) → text ≡ bytes → IsUtf8 bytes → Some text ≡ in_utf8 bytes
text_in_utf8 bytes text same is = ap Some same ∙ ap (λ t. cond t (Some bytes) None) (sym (is_utf8-from_IsUtf8 bytes is))

no_text : (bytes : List ℕ) (t : Bool) → is_utf8 bytes ≡ t → ¬ (IsUtf8 bytes) → None ≡ cond t (Some bytes) None
no_text bytes true is not = absurd (not (IsUtf8-from_is_utf8 bytes is))
no_text bytes false is not = refl

pub not_in_utf8 : (bytes : List ℕ) → ¬ (IsUtf8 bytes) → None ≡ in_utf8 bytes
not_in_utf8 bytes not = no_text bytes (is_utf8 bytes) refl not
