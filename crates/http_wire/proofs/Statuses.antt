-- Each answer has its status, and no other.
use Rattle.std.proofs.Common.{◌≡◌, ℕ, ◌<◌, ◌^◌, true, ◌==◌, ◌&&◌, List, [], ◌++◌, length, take, drop, nat_lt, codes, inl, inr, Option, None, Some, refl, sym, ap, ◌∙◌, arith, append_assoc}
use Rattle.std.specs.Prelude.{decimal, unwrap_or}
use Rattle.std.specs.Char.{is_ascii_digit}
use Rattle.std.specs.List.{list_all, list_any}
use Rattle.std.specs.Option.{option_map_or}
use Rattle.std.proofs.Math.Seq.{take-append_seam}
use Rattle.std.proofs.lemmas.Bool.Decides.{nat_tests}
use Rattle.std.proofs.lemmas.Fmt.{decimal_injective}
use Rattle.httparse.specs.Ascii.{crlf_bytes}
use Rattle.httparse.specs.Grammar.{is_value_byte}
use Rattle.http.specs.StatusCode.{reason_phrase}
use Rattle.verdict_codes.specs.declared.codes.Verdict.{Verdict}
use Rattle.owned_values.specs.declared.attributes.Attribute.{Attribute}
use Rattle.xml_spec.proofs.Tests.{both_true, either_true}
use Rattle.http_wire.specs.declared.answer.TheConstants.{PAGE_STATUSES}
use Rattle.http_wire.specs.declared.fixed.TheConstants.{FIXED_STATUSES}
use Rattle.http_wire.specs.Answers.{answer, cookie_line, fixed, location_line, page_lines, refusal, status_line, status_of, status_page, verdict_of}
use Rattle.http_wire.specs.Clients.{is_answered}
use Rattle.http_wire.specs.Statuses.{AnAnswerHasOneStatus, EachAnswerHasItsStatus, HasStatus}
use Rattle.http_wire.specs.Vouched.{attributes_line, user_line, vouched_answer}
use Rattle.http_wire.proofs.Clients.{good}
use Rattle.http_wire.proofs.Table.{any_holds}

-- ---- its status

five_behind : (line lines location cookie end body : List ℕ) → line ++ lines ++ location ++ cookie ++ end ++ body ≡ line ++ (lines ++ location ++ cookie ++ end ++ body)
five_behind line lines location cookie end body = simp append_assoc

four_behind : (line lines user attributes end : List ℕ) → line ++ lines ++ user ++ attributes ++ end ≡ line ++ (lines ++ user ++ attributes ++ end)
four_behind line lines user attributes end = simp append_assoc

full_has : (status : ℕ) (location cookie : Option (List ℕ)) (body : List ℕ) → HasStatus status (answer status location cookie body)
unfolding answer
full_has status location cookie body = (
  page_lines (length body) ++ location_line location ++ cookie_line cookie ++ crlf_bytes ++ body,
  five_behind (status_line status) (page_lines (length body)) (location_line location) (cookie_line cookie) crlf_bytes body,
)

fixed_has : (code : ℕ) (o : Option Verdict) → HasStatus (option_map_or status_of o code) (option_map_or refusal o (status_page code))
fixed_has code None = full_has code None None _
fixed_has code (Some verdict) = full_has (status_of verdict) None None _

vouched_has : (name : List ℕ) (attributes : List Attribute) → HasStatus 200 (vouched_answer name attributes)
unfolding vouched_answer
vouched_has name attributes = (
  page_lines 0 ++ user_line name ++ attributes_line attributes ++ crlf_bytes,
  four_behind (status_line 200) (page_lines 0) (user_line name) (attributes_line attributes) crlf_bytes,
)

pub each_answer_has_its_status : EachAnswerHasItsStatus
each_answer_has_its_status = record { full = full_has; fixed = λ code is. fixed_has code (verdict_of code); vouched = vouched_has }

-- ---- no other

behind_version : (version status space phrase end rest : List ℕ) → version ++ status ++ space ++ phrase ++ end ++ rest ≡ version ++ (status ++ (space ++ phrase ++ end ++ rest))
behind_version version status space phrase end rest = simp append_assoc

-- where the digits of the status stand
digits_in : List ℕ → List ℕ
digits_in bytes = take 3 (drop 9 bytes)

digits_of_status : (status : ℕ) (bytes : List ℕ) → length (decimal status) ≡ 3 → HasStatus status bytes → digits_in bytes ≡ decimal status
unfolding digits_in
digits_of_status status bytes three (rest, is) =
    let more = codes " " ++ unwrap_or (reason_phrase status) [] ++ crlf_bytes ++ rest in
    ap digits_in (is ∙ behind_version (codes "HTTP/1.1 ") (decimal status) (codes " ") (unwrap_or (reason_phrase status) []) crlf_bytes rest)
    ∙ ap (λ n. take n (decimal status ++ more)) (sym three) ∙ take-append_seam (decimal status) more

pages_are_small : list_all (λ status. nat_lt status 1000) PAGE_STATUSES ≡ true
pages_are_small = refl

fixed_are_small : list_all (λ status. nat_lt status 1000) FIXED_STATUSES ≡ true
fixed_are_small = refl

is_small : (status : ℕ) → is_answered status ≡ true → nat_lt status 1000 ≡ true
is_small status is =
    elim (either_true (list_any (λ known. known == status) PAGE_STATUSES) (list_any (λ known. known == status) FIXED_STATUSES) is) [
      | inl page ↦ any_holds (λ status. nat_lt status 1000) PAGE_STATUSES status page pages_are_small
      | inr fixed ↦ any_holds (λ status. nat_lt status 1000) FIXED_STATUSES status fixed fixed_are_small
    ]

small : (status : ℕ) → is_answered status ≡ true → status < 2 ^ 64
small status is = let h : nat_lt status 1000 ≡ true = is_small status is in let few : status < 1000 = grind (arith, nat_tests) in omega arith

three_digits : (status : ℕ) → is_answered status ≡ true → length (decimal status) ≡ 3
three_digits status is =
    let sound = good status is in
    let number = both_true ((length (decimal status) == 3) && list_all is_ascii_digit (decimal status)) (list_all is_value_byte (unwrap_or (reason_phrase status) [])) sound in
    let first = both_true (length (decimal status) == 3) (list_all is_ascii_digit (decimal status)) number.0 in grind (arith, nat_tests, first.0)

pub an_answer_has_one_status : AnAnswerHasOneStatus
an_answer_has_one_status one other bytes is is_other has has_other =
    decimal_injective one other (small one is) (small other is_other)
    (sym (digits_of_status one bytes (three_digits one is) has) ∙ digits_of_status other bytes (three_digits other is_other) has_other)
