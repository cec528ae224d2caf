-- The values of field lines.
use Rattle.std.proofs.Common.{◌≡◌, ℕ, ◌-◌, Bool, true, false, cond, ◌&&◌, nat_eq, List, length, take, None, Some, refl, sym, ap, ◌∙◌, IsUtf8}
use Rattle.std.specs.List.{ends_with}
use Rattle.std.specs.Str.{is_utf8}
use Rattle.std.proofs.lemmas.Str.{IsUtf8-from_is_utf8, is_utf8-from_IsUtf8}
use Rattle.xml_spec.proofs.Tests.{and_true, both_true}
use Rattle.http_wire.specs.Answers.{is_one_line}
use Rattle.post_agent.specs.Reading.{line_text, value_in}

-- a line without its end
abbrev front_of : List ℕ → List ℕ → List ℕ
front_of line end = take (length line - length end) line

pub is_value : (line end value : List ℕ) → true ≡ ends_with nat_eq line end → true ≡ is_one_line (front_of line end) →
    value ≡ front_of line end →
    IsUtf8 (front_of line end) → Some value ≡ value_in line end
is_value line end value ends one same is =
    ap Some same
    ∙ sym (ap (λ t. cond t (line_text (front_of line end)) None) (sym ends)
    ∙ ap (λ t. cond t (Some (front_of line end)) None)
    (and_true (is_one_line (front_of line end)) (is_utf8 (front_of line end)) (sym one)
    (is_utf8-from_IsUtf8 (front_of line end) is)))

no_text : (value : List ℕ) → ¬ (IsUtf8 value) → line_text value ≡ None
no_text value invalid = by_test (is_one_line value && is_utf8 value) refl
  where
    by_test : (t : Bool) → (is_one_line value && is_utf8 value) ≡ t → cond t (Some value) None ≡ None
    by_test false h = refl
    by_test true h = absurd (invalid (IsUtf8-from_is_utf8 value (both_true (is_one_line value) (is_utf8 value) h).1))

pub is_no_value : (line end : List ℕ) → true ≡ ends_with nat_eq line end → ¬ (IsUtf8 (front_of line end)) →
    None ≡ value_in line end
is_no_value line end ends invalid =
    sym (ap (λ t. cond t (line_text (front_of line end)) None) (sym ends) ∙ no_text (front_of line end) invalid)
