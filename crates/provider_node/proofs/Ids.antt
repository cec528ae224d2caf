-- An ID holds no end of a line.
use Rattle.std.proofs.Common.{◌≡◌, ℕ, ◌==◌, ◌||◌, not, true, List, [], ◌∷◌, refl, arith}
use Rattle.std.specs.List.{list_all}
use Rattle.std.proofs.lemmas.List.Sums.{list_all-from_AllPass}
use Rattle.std.proofs.lemmas.Bool.Decides.{nat_tests}
use Rattle.xml_spec.specs.Ascii.{carriage_return, line_feed}
use Rattle.xml_spec.proofs.Tests.{and_true, both_true}
use Rattle.http_wire.specs.Answers.{is_one_line}
use Rattle.saml_ids.specs.Names.{IsIdForm, is_lower_hex}

ends_no_line : (b : ℕ) → is_lower_hex b ≡ true → not (b == carriage_return || b == line_feed) ≡ true
ends_no_line b h = grind (arith, nat_tests)

begins_in_line : (b : ℕ) → b ≡ 95 → not (b == carriage_return || b == line_feed) ≡ true
begins_in_line b is = rw is

digits_in_line : (digits : List ℕ) → list_all is_lower_hex digits ≡ true → is_one_line digits ≡ true
digits_in_line [] h = refl
digits_in_line (b ∷ digits) h = let both = both_true (is_lower_hex b) (list_all is_lower_hex digits) h in
    and_true (not (b == carriage_return || b == line_feed))
    (is_one_line digits) (ends_no_line b both.0) (digits_in_line digits both.1)

pub one_line_id : (id : List ℕ) → IsIdForm id → is_one_line id ≡ true
one_line_id [] form = absurd form
one_line_id (b ∷ digits) form = and_true (not (b == carriage_return || b == line_feed)) (is_one_line digits)
    (begins_in_line b form.0) (digits_in_line digits (list_all-from_AllPass is_lower_hex digits form.2))
