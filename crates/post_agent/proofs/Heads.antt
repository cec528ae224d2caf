-- Answers are read just from what they are.
use Rattle.std.proofs.Common.{◌≡◌, ℕ, ◌+◌, ◌%◌, ◌<◌, ◌^◌, true, false, ◌==◌, not, List, [], ◌∷◌, ◌++◌, length, take, drop, codes, Option, Some, refl, sym, ap, ◌∙◌, subst, arith, append_assoc}
use Rattle.std.specs.Prelude.{option_and_then, unwrap_or, decimal}
use Rattle.std.specs.Option.{option_map}
use Rattle.std.proofs.lemmas.Bool.Decides.{nat_tests}
use Rattle.std.proofs.lemmas.List.{take-append-drop}
use Rattle.std.proofs.lemmas.List.Folds.{list_all-append}
use Rattle.std.proofs.lemmas.Fmt.{decimal_by_steps}
use Rattle.http.specs.StatusCode.{IsStatusCode, reason_phrase}
use Rattle.xml_spec.proofs.Tests.{and_true}
use Rattle.http_wire.specs.Answers.{answer, location_line, cookie_line}
use Rattle.post_agent.specs.Cuts.{behind, cut}
use Rattle.post_agent.specs.Reading.{status_in, status_by, status_line, page_lines}
use Rattle.post_agent.proofs.Cutting.{behind_front, behind_some, cut_front, cut_some, is_without}
use Rattle.post_agent.proofs.Options.{followed, mapped, some_same}
use Rattle.post_agent.proofs.Statuses.{status_by-code_digits, status_by-some}
use Rattle.post_agent.proofs.Telling.{decimal-status}

-- ---- the shape of an answer

abbrev pub version : List ℕ
version = codes "HTTP/1.1 "

abbrev pub to_size : List ℕ
to_size = codes "\r\nContent-Type: text/html; charset=utf-8\r\nContent-Length: "

abbrev pub from_size : List ℕ
from_size = codes "\nCache-Control: no-store\r\nConnection: close\r\n"

abbrev pub phrase_of : ℕ → List ℕ
phrase_of status = unwrap_or (reason_phrase status) []

-- what stands behind the size
abbrev pub behind_size : Option (List ℕ) → Option (List ℕ) → List ℕ → List ℕ
behind_size location cookie body = location_line location ++ (cookie_line cookie ++ (codes "\r\n" ++ body))

-- what stands behind the phrase
abbrev pub behind_phrase : List ℕ → List ℕ → List ℕ
behind_phrase size rest = to_size ++ (size ++ 13 ∷ (from_size ++ rest))

abbrev pub shaped : ℕ → List ℕ → List ℕ
shaped status rest = version ++ (decimal status ++ (codes " " ++ (phrase_of status ++ rest)))

grouped : (v s p r e t n z y l c x b : List ℕ) →
    (v ++ s ++ p ++ r ++ e) ++ (t ++ (n ++ z ++ e) ++ y ++ l) ++ c ++ x ++ e ++ b
    ≡ v ++ (s ++ (p ++ (r ++ (e ++ (t ++ (n ++ (z ++ (e ++ (y ++ (l ++ (c ++ (x ++ (e ++ b)))))))))))))
grouped v s p r e t n z y l c x b = simp append_assoc

pub answer_shape : (status : ℕ) (location cookie : Option (List ℕ)) (body : List ℕ) →
    answer status location cookie body ≡ shaped status
    (behind_phrase (decimal (length body)) (behind_size location cookie body))
unfolding answer
answer_shape status location cookie body =
    grouped version (decimal status) (codes " ") (phrase_of status) (codes "\r\n")
    (codes "Content-Type: text/html; charset=utf-8\r\n")
    (codes "Content-Length: ") (decimal (length body)) (codes "Cache-Control: no-store\r\n")
    (codes "Connection: close\r\n")
    (location_line location) (cookie_line cookie) body

-- ---- the status

pub status_is_read : (status : ℕ) (rest : List ℕ) → IsStatusCode status →
    status_line (shaped status rest) ≡ Some (status, rest)
status_is_read status rest is =
    let behind_space = phrase_of status ++ rest in
    let behind_digits = codes " " ++ behind_space in
    let with_rest : ℕ → List ℕ → Option (ℕ × List ℕ) = λ n xs. Some (n, xs) in
    let with_space : ℕ → List ℕ → Option (ℕ × List ℕ) =
    λ n space. option_and_then (with_rest n) (behind (phrase_of n) space) in
    let with_status : ℕ × List ℕ → Option (ℕ × List ℕ) =
    λ found. option_and_then (with_space found.0) (behind (codes " ") found.1) in
    ap (option_and_then (λ digits. option_and_then with_status (status_in digits)))
    (behind_front version (decimal status ++ behind_digits))
    ∙ ap (λ ds. option_and_then with_status (status_in (ds ++ behind_digits))) (decimal-status status is)
    ∙ ap (λ o. option_and_then with_status (option_map (λ (n : ℕ). (n, behind_digits)) o))
    (status_by-code_digits status is)
    ∙ ap (option_and_then (with_rest status)) (behind_front (phrase_of status) rest)

-- what was read stands there
pub record IsStatusLine (bytes : List ℕ) (status : ℕ) (rest : List ℕ) : Type 0 where
  pub valid : IsStatusCode status
  pub shape : bytes ≡ shaped status rest

pub status_stands : (bytes : List ℕ) (found : ℕ × List ℕ) → status_line bytes ≡ Some found →
    IsStatusLine bytes found.0 found.1
status_stands bytes found e =
    let digits = followed (behind version bytes) _ found e in
    let status = followed (status_in digits.first) _ found digits.then in
    let space = followed (behind (codes " ") status.first.1) _ found status.then in
    let rest = followed (behind (phrase_of status.first.0) space.first) _ found space.then in
    let code = mapped (status_by (take 3 digits.first)) (λ (n : ℕ). (n, drop 3 digits.first)) status.first status.was in
    let is = status_by-some (take 3 digits.first) code.first code.was in
    let same_status : code.first ≡ status.first.0 = ap (λ (p : ℕ × List ℕ). p.0) code.made in
    let same_rest : drop 3 digits.first ≡ status.first.1 = ap (λ (p : ℕ × List ℕ). p.1) code.made in
    let front : digits.first ≡ decimal code.first ++ status.first.1 =
    sym (take-append-drop 3 digits.first) ∙ (λ i. (is.1 ∙ sym (decimal-status code.first is.0)) i ++ same_rest i) in
    subst (λ (f : ℕ × List ℕ). IsStatusLine bytes f.0 f.1) (some_same (status.first.0, rest.first) found rest.then)
    (record {
      valid = subst IsStatusCode same_status is.0;
      shape =
          (behind_some version bytes digits.first digits.was
          ∙ ap (λ xs. version ++ xs) (front ∙ ap (λ n. decimal n ++ status.first.1) same_status
          ∙ ap (λ xs. decimal status.first.0 ++ xs) (behind_some (codes " ") status.first.1 space.first space.was
          ∙ ap (λ xs. codes " " ++ xs) (behind_some (phrase_of status.first.0) space.first rest.first rest.was))));
    })

-- ---- the size

pub digits_without_end : (n : ℕ) → n < 2 ^ 64 → is_without 13 (decimal n) ≡ true
digits_without_end =
    decimal_by_steps (λ n ds. is_without 13 ds ≡ true) (λ n below. one n below)
    (λ n ds above so_far. list_all-append (λ b. not (b == 13)) ds ((48 + n % 10) ∷ [])
    ∙ and_true _ _ so_far (one (n % 10) (omega arith)))
  where
    one : (n : ℕ) → n < 10 → is_without 13 ((48 + n) ∷ []) ≡ true
    one n below = rw (let other : ((48 + n) == 13) ≡ false = grind (arith, nat_tests) in other) refl

pub size_is_read : (size rest : List ℕ) → is_without 13 size ≡ true →
    page_lines (behind_phrase size rest) ≡ Some (size, rest)
size_is_read size rest clean =
    let with_rest : List ℕ → List ℕ → Option (List ℕ × List ℕ) = λ s xs. Some (s, xs) in
    let with_size : List ℕ × List ℕ → Option (List ℕ × List ℕ) =
    λ found. option_and_then (with_rest found.0) (behind from_size found.1) in
    ap (option_and_then (λ digits. option_and_then with_size (cut 13 digits)))
    (behind_front to_size (size ++ 13 ∷ (from_size ++ rest)))
    ∙ ap (option_and_then with_size) (cut_front 13 size (from_size ++ rest) clean)
    ∙ ap (option_and_then (with_rest size)) (behind_front from_size rest)

pub size_stands : (bytes : List ℕ) (found : List ℕ × List ℕ) → page_lines bytes ≡ Some found →
    bytes ≡ behind_phrase found.0 found.1
size_stands bytes found e =
    let digits = followed (behind to_size bytes) _ found e in
    let size = followed (cut 13 digits.first) _ found digits.then in
    let rest = followed (behind from_size size.first.1) _ found size.then in
    subst (λ (f : List ℕ × List ℕ). bytes ≡ behind_phrase f.0 f.1)
    (some_same (size.first.0, rest.first) found rest.then)
    (behind_some to_size bytes digits.first digits.was
    ∙ ap (λ xs. to_size ++ xs) (cut_some 13 digits.first size.first.0 size.first.1 size.was
    ∙ ap (λ xs. size.first.0 ++ 13 ∷ xs) (behind_some from_size size.first.1 rest.first rest.was)))
