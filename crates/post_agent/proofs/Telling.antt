-- The page that a body is: each is told from the others.
use Rattle.std.proofs.Common.{◌≡◌, ℕ, ◌+◌, ◌/◌, ◌%◌, ◌<◌, ◌≤◌, Bool, true, false, cond, ◌==◌, List, [], ◌∷◌, ◌++◌, Option, None, Some, refl, sym, ap, ◌∙◌, arith, inl, inr}
use Rattle.std.specs.Prelude.{decimal, find}
use Rattle.std.specs.Option.{option_map, option_map_or}
use Rattle.std.specs.Str.{bytes_eq}
use Rattle.std.proofs.lemmas.Bool.Decides.{nat_tests}
use Rattle.std.proofs.lemmas.Fmt.{decimal_digit, decimal_step}
use Rattle.std.proofs.lemmas.Slice.Eq.{bytes_eq-Decides}
use Rattle.http.specs.StatusCode.{IsStatusCode, code_digits}
use Rattle.verdict_codes.specs.declared.codes.Verdict.{Verdict}
use Rattle.verdict_codes.specs.Codes.{number_of}
use Rattle.xml_spec.proofs.Tests.{either_true}
use Rattle.post_binding.specs.Laws.{EscapedTextHoldsNoMarkup, EscapedTextIsReadAgain}
use Rattle.post_binding.specs.Pages.{login_page, end_page}
use Rattle.http_wire.specs.Answers.{page}
use Rattle.verdict_codes.specs.declared.codes.TheConstants.{VERDICTS}
use Rattle.post_agent.specs.declared.seen.AutoForm.{AutoForm}
use Rattle.post_agent.specs.declared.seen.Page.{Page}
use Rattle.post_agent.specs.declared.seen.Page.TheVariants.{Form, Login, End, Code, Status, Other}
use Rattle.post_agent.specs.Pages.{form_page, IsPage, Shows, refusal_page, status_page}
use Rattle.post_agent.specs.Reading.{form_in, login_in, is_refusal, code_in, is_status, is_end, other_page, page_of}
use Rattle.post_agent.proofs.Cutting.{bytes_eq-same}
use Rattle.post_agent.proofs.Forms.{form_in-page, login_in-page, form_in-shows, login_in-shows}
use Rattle.post_agent.proofs.Options.{found_passes, none_found, mapped, never}
use Rattle.post_agent.proofs.Refusals.{code_in-refusal_page}

-- ---- the digits of a status

pub decimal-status : (n : ℕ) → IsStatusCode n → decimal n ≡ code_digits n
decimal-status n is =
    let low : 100 ≤ n = is.0 in
    let high : n < 1000 = is.1 in
    let tens : n / 10 / 10 ≡ n / 100 = omega arith in
    decimal_step n (omega arith) (omega arith)
    ∙ ap (λ ds. ds ++ (48 + n % 10) ∷ []) (decimal_step (n / 10) (omega arith) (omega arith)
    ∙ ap (λ ds. ds ++ (48 + n / 10 % 10) ∷ [])
    (decimal_digit (n / 10 / 10) (omega arith) ∙ ap (λ k. (48 + k) ∷ []) tens))

-- ---- the page of a status is no other

other_letter : (d c : ℕ) → d < 58 → 58 ≤ c → (d == c) ≡ false
other_letter d c low high = grind (arith, nat_tests)

-- a paragraph that begins with a digit
no_end_there : (d : ℕ) (rest : List ℕ) → d < 58 → is_end (page (d ∷ rest)) ≡ false
no_end_there d rest low = rw (other_letter d 76 low (omega arith)) refl

no_refusal_there : (d : ℕ) (rest : List ℕ) → d < 58 → (verdict : Verdict) → is_refusal (page (d ∷ rest)) verdict ≡ false
no_refusal_there d rest low verdict = rw (other_letter d 82 low (omega arith)) refl

status_alone : (status d : ℕ) (rest : List ℕ) → d < 58 →
    other_page status (page (d ∷ rest)) ≡ cond (is_status status (page (d ∷ rest))) Status Other
status_alone status d rest low =
    ap (λ t. cond t End (option_map_or (λ code. Code code) (code_in (page (d ∷ rest)))
    (cond (is_status status (page (d ∷ rest))) Status Other))) (no_end_there d rest low)
    ∙ ap (λ o. option_map_or (λ code. Code code) (option_map number_of o)
    (cond (is_status status (page (d ∷ rest))) Status Other))
    (none_found (is_refusal (page (d ∷ rest))) VERDICTS (no_refusal_there d rest low))

status_page_is : (status : ℕ) → IsStatusCode status → page_of status (status_page status) ≡ Status
status_page_is status is =
    let low : status / 100 < 10 = (let high : status < 1000 = is.1 in omega arith) in
    let same : status_page status ≡ page (code_digits status) = ap page (decimal-status status is) in
    ap (page_of status) same
    ∙ status_alone status (48 + status / 100) ((48 + status / 10 % 10) ∷ (48 + status % 10) ∷ []) (omega arith)
    ∙ ap (λ t. cond t Status Other)
    (ap (bytes_eq (page (code_digits status))) same ∙ bytes_eq-same (page (code_digits status)))

end_page_is : (status : ℕ) (partial : Bool) → page_of status (end_page partial) ≡ End
end_page_is status true = refl
end_page_is status false = refl

end_is : (partial : Bool) → is_end (end_page partial) ≡ true
end_is true = refl
end_is false = refl

true_false : true ≡ false → ⊥
true_false e = cc

refusal_is : (status : ℕ) (verdict : Verdict) → page_of status (refusal_page verdict) ≡ Code (number_of verdict)
refusal_is status verdict =
    ap (λ o. option_map_or (λ code. Code code) o (cond (is_status status (refusal_page verdict)) Status Other))
    (code_in-refusal_page verdict)

-- ---- what is found is there

end_shows : (body : List ℕ) → is_end body ≡ true → (partial : Bool) × (body ≡ end_page partial)
end_shows body h =
    elim (either_true (bytes_eq body (end_page true)) (bytes_eq body (end_page false)) h) [
      | inl e ↦ (true, (bytes_eq-Decides body (end_page true)).0 e)
      | inr e ↦ (false, (bytes_eq-Decides body (end_page false)).0 e)
    ]

code_shows : (status : ℕ) (body : List ℕ) (code : ℕ) → code_in body ≡ Some code → Shows status body (Code code)
code_shows status body code e =
    let found = mapped (find (is_refusal body) VERDICTS) number_of code e in (
      found.first,
      sym found.made,
      (bytes_eq-Decides body (refusal_page found.first)).0
          (found_passes (is_refusal body) VERDICTS found.first found.was),
    )

-- the page by what was read of it
abbrev other_by : Bool → Option ℕ → Bool → Page
other_by end code status = cond end End (option_map_or (λ n. Code n) code (cond status Status Other))

abbrev page_by : Option AutoForm → Option (List ℕ) → Page → Page
page_by form login other = option_map_or (λ f. Form f) form (option_map_or (λ pending. Login pending) login other)

-- ---- a body that is none of the pages

other_page_is : (status : ℕ) (body : List ℕ) → Shows status body Other → other_page status body ≡ Other
other_page_is status body is =
    by_tests (is_end body) (code_in body) (is_status status body)
    (λ e. is End (end_shows body e))
    (λ code e. is (Code code) (code_shows status body code e))
    (λ e. is Status ((bytes_eq-Decides body (status_page status)).0 e))
  where
    by_tests : (end : Bool) (code : Option ℕ) (alone : Bool) → (end ≡ true → ⊥) → ((n : ℕ) → code ≡ Some n → ⊥) →
        (alone ≡ true → ⊥) → other_by end code alone ≡ Other
    by_tests true code alone no_end no_code no_status = absurd (no_end refl)
    by_tests false (Some n) alone no_end no_code no_status = absurd (no_code n refl)
    by_tests false None true no_end no_code no_status = absurd (no_status refl)
    by_tests false None false no_end no_code no_status = refl

other_is : (status : ℕ) (body : List ℕ) → Shows status body Other → page_of status body ≡ Other
other_is status body is =
    by_options (form_in body) (login_in body) (λ form e. is (Form form) (form_in-shows body form e))
    (λ pending e. is (Login pending) (login_in-shows body pending e))
  where
    by_options : (form : Option AutoForm) (login : Option (List ℕ)) → ((f : AutoForm) → form ≡ Some f → ⊥) →
        ((text : List ℕ) → login ≡ Some text → ⊥) →
        page_by form login (other_page status body) ≡ Other
    by_options (Some f) login no_form no_login = absurd (no_form f refl)
    by_options None (Some text) no_form no_login = absurd (no_login text refl)
    by_options None None no_form no_login = other_page_is status body is

module _ (clean : EscapedTextHoldsNoMarkup) (again : EscapedTextIsReadAgain) where
  -- what a body shows is read of it
  pub page_of-shown : (status : ℕ) (body : List ℕ) (p : Page) → IsStatusCode status → Shows status body p →
      page_of status body ≡ p
  page_of-shown status body (Form form) valid shows =
      ap (page_of status) shows.1
      ∙ ap (λ o. page_by o (login_in (form_page form)) (other_page status (form_page form)))
      (form_in-page clean again form shows.0)
  page_of-shown status body (Login pending) valid shows =
      ap (page_of status) shows.1
      ∙ ap (λ o. page_by None o (other_page status (login_page pending))) (login_in-page clean again pending shows.0)
  page_of-shown status body End valid shows = ap (page_of status) shows.1 ∙ end_page_is status shows.0
  page_of-shown status body (Code code) valid shows =
      ap (page_of status) shows.2 ∙ refusal_is status shows.0 ∙ ap (λ n. Code n) (sym shows.1)
  page_of-shown status body Status valid shows = ap (page_of status) shows ∙ status_page_is status valid
  page_of-shown status body Other valid shows = other_is status body shows

  -- what is read of a body is what it shows
  pub page_of-shows : (status : ℕ) (body : List ℕ) → IsStatusCode status → Shows status body (page_of status body)
  page_of-shows status body valid = by_form (form_in body) refl
    where
      other : form_in body ≡ None → login_in body ≡ None → is_end body ≡ false → code_in body ≡ None →
          is_status status body ≡ false → (page : Page) → IsPage status body page → ⊥
      other no_form no_login no_end no_code no_status (Form form) shows =
          never form (sym no_form ∙ ap form_in shows.1 ∙ form_in-page clean again form shows.0)
      other no_form no_login no_end no_code no_status (Login pending) shows =
          never pending (sym no_login ∙ ap login_in shows.1 ∙ login_in-page clean again pending shows.0)
      other no_form no_login no_end no_code no_status End shows =
          true_false (sym (ap is_end shows.1 ∙ end_is shows.0) ∙ no_end)
      other no_form no_login no_end no_code no_status (Code code) shows =
          never (number_of shows.0) (sym no_code ∙ ap code_in shows.2 ∙ code_in-refusal_page shows.0)
      other no_form no_login no_end no_code no_status Status shows =
          true_false (sym (ap (is_status status) shows ∙ bytes_eq-same (status_page status)) ∙ no_status)
      other no_form no_login no_end no_code no_status Other shows = shows

      by_status : (t : Bool) → is_status status body ≡ t → form_in body ≡ None → login_in body ≡ None →
          is_end body ≡ false → code_in body ≡ None →
          Shows status body (cond t Status Other)
      by_status true e no_form no_login no_end no_code = (bytes_eq-Decides body (status_page status)).0 e
      by_status false e no_form no_login no_end no_code = other no_form no_login no_end no_code e

      by_code : (o : Option ℕ) → code_in body ≡ o → form_in body ≡ None → login_in body ≡ None → is_end body ≡ false →
          Shows status body (option_map_or (λ n. Code n) o (cond (is_status status body) Status Other))
      by_code (Some n) e no_form no_login no_end = code_shows status body n e
      by_code None e no_form no_login no_end = by_status (is_status status body) refl no_form no_login no_end e

      by_end : (t : Bool) → is_end body ≡ t → form_in body ≡ None → login_in body ≡ None →
          Shows status body (other_by t (code_in body) (is_status status body))
      by_end true e no_form no_login = end_shows body e
      by_end false e no_form no_login = by_code (code_in body) refl no_form no_login e

      by_login : (o : Option (List ℕ)) → login_in body ≡ o → form_in body ≡ None →
          Shows status body (page_by None o (other_page status body))
      by_login (Some pending) e no_form = login_in-shows body pending e
      by_login None e no_form = by_end (is_end body) refl no_form e

      by_form : (o : Option AutoForm) → form_in body ≡ o →
          Shows status body (page_by o (login_in body) (other_page status body))
      by_form (Some form) e = form_in-shows body form e
      by_form None e = by_login (login_in body) refl e
