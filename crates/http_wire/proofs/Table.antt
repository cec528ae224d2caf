-- The answers without a choice, each of which has room.
use Rattle.std.proofs.Common.{◌≡◌, ℕ, ◌≤◌, Bool, true, false, cond, ◌==◌, ◌||◌, ◌⊎◌, inl, inr, List, [], ◌∷◌, ◌++◌, length, codes, nat_le, nat_lt, ◌&&◌, Option, None, Some, refl, sym, ap, subst, ◌∙◌, arith, append-nil}
use Rattle.std.specs.Prelude.{find, is_some}
use Rattle.std.specs.List.{list_all, list_any}
use Rattle.std.specs.Option.{option_map_or}
use Rattle.std.specs.Fmt.{digits, decimal}
use Rattle.std.proofs.lemmas.Bool.Decides.{nat_tests}
use Rattle.http.specs.StatusCode.{IsStatusCode}
use Rattle.verdict_codes.specs.declared.codes.Verdict.{Verdict}
use Rattle.verdict_codes.specs.declared.codes.Verdict.TheVariants.{BadForm, BadBase64, TooLarge, BadXml, XmlLimit, BadNames, DuplicateId, NotResponse, NotSuccess, NotOneAssertion, BadSignatureForm, BadReference, TagDiffers, DigestDiffers, BadAssertion, WrongIssuer, WrongAudience, WrongRecipient, NotInTime, NotOutstanding, RequestSpent, AssertionSeen, RelayDiffers, NotLogout, UnknownPeer, LogoutDestination, NoSuchSession, UnknownLogout, LogoutNotInTime, NotAuthnRequest, UnknownIssuer, RequestDestination, WrongConsumer, NoSuchPending, LoginRefused, DiskFault, Full, NoMemory, Foreign, RegistryExpired}
use Rattle.verdict_codes.specs.Codes.{number_of, name_of}
use Rattle.xml_spec.proofs.Tests.{both_true, either_true}
use Rattle.http_wire.specs.declared.fixed.TheConstants.{FIXED_STATUSES}
use Rattle.verdict_codes.specs.declared.codes.TheConstants.{VERDICTS}
use Rattle.http_wire.specs.Laws.{EachVerdictHasItsAnswer, FixedAnswersHaveRoom}
use Rattle.http_wire.specs.Answers.{answer, page, refusal, status_page, status_of, verdict_of, is_fixed, fixed}

-- ---- the whole table

each_refusal_fits : list_all (λ v. nat_le (length (refusal v)) 512) VERDICTS ≡ true
unfolding answer digits
each_refusal_fits = refl

-- a status that is answered alone is one, and its answer fits
abbrev is_good_status : ℕ → Bool
is_good_status status = nat_le (length (status_page status)) 512 && nat_le 100 status && nat_lt status 1000

each_status_fits : list_all is_good_status FIXED_STATUSES ≡ true
unfolding answer digits
each_status_fits = refl

-- ---- what holds of each

-- the first step of a search
found_first : {X : Type 0} (t : Bool) (y x : X) (rest : Option X) → cond t (Some y) rest ≡ Some x → ((t ≡ true) × (y ≡ x)) ⊎ (rest ≡ Some x)
found_first true y x rest h = inl (refl, cc)
found_first false y x rest h = inr h

found_holds : {X : Type 0} (p q : X → Bool) (xs : List X) (x : X) → find p xs ≡ Some x → list_all q xs ≡ true → (p x ≡ true) × (q x ≡ true)
found_holds p q [] x found all = absurd (cc)
found_holds p q (y ∷ xs) x found all =
    let parts = both_true (q y) (list_all q xs) all in
    elim (found_first (p y) y x (find p xs) found) [
      | inl here ↦ (ap p (sym here.1) ∙ here.0, ap q (sym here.1) ∙ parts.0)
      | inr later ↦ found_holds p q xs x later parts.1
    ]

pub any_holds : (q : ℕ → Bool) (xs : List ℕ) (x : ℕ) → list_any (λ y. y == x) xs ≡ true → list_all q xs ≡ true → q x ≡ true
any_holds q [] x any all = absurd (cc)
any_holds q (y ∷ xs) x any all =
    let parts = both_true (q y) (list_all q xs) all in
    elim (either_true (y == x) (list_any (λ y. y == x) xs) any) [
      | inl here ↦ (let same : y ≡ x = grind (arith, nat_tests, here) in ap q (sym same) ∙ parts.0)
      | inr later ↦ any_holds q xs x later parts.1
    ]

-- the verdict that a number has
pub record IsVerdictOf (code : ℕ) (verdict : Verdict) : Type 0 where
  pub number : number_of verdict ≡ code
  pub fits : length (refusal verdict) ≤ 512

pub verdict_holds : (code : ℕ) (verdict : Verdict) → verdict_of code ≡ Some verdict → IsVerdictOf code verdict
verdict_holds code verdict found =
    let both = found_holds (λ v. number_of v == code) (λ v. nat_le (length (refusal v)) 512) VERDICTS verdict found each_refusal_fits in
    record { number = grind (arith, nat_tests, both.0); fits = grind (arith, nat_tests, both.1) }

-- a status without a verdict
pub record IsStatusAlone (code : ℕ) : Type 0 where
  pub valid : IsStatusCode code
  pub fits : length (status_page code) ≤ 512

status_holds : (code : ℕ) → list_any (λ status. status == code) FIXED_STATUSES ≡ true → IsStatusAlone code
status_holds code any =
    let good = any_holds is_good_status FIXED_STATUSES code any each_status_fits in
    let low = both_true (nat_le (length (status_page code)) 512 && nat_le 100 code) (nat_lt code 1000) good in
    let most = both_true (nat_le (length (status_page code)) 512) (nat_le 100 code) low.0 in
    record { valid = (grind (arith, nat_tests, most.1), grind (arith, nat_tests, low.1)); fits = grind (arith, nat_tests, most.0) }

pub status_alone : (code : ℕ) → is_fixed code ≡ true → verdict_of code ≡ None → IsStatusAlone code
status_alone code is none = status_holds code (ap (λ (o : Option Verdict). is_some o || list_any (λ status. status == code) FIXED_STATUSES) (sym none) ∙ is)

-- the answers for a verdict's number, and for another
pub fixed_verdict : (code : ℕ) (verdict : Verdict) → verdict_of code ≡ Some verdict → fixed code ≡ refusal verdict
fixed_verdict code verdict found = ap (λ (o : Option Verdict). option_map_or refusal o (status_page code)) found

pub fixed_status : (code : ℕ) → verdict_of code ≡ None → fixed code ≡ status_page code
fixed_status code none = ap (λ (o : Option Verdict). option_map_or refusal o (status_page code)) none

-- ---- the same page, as it is written

pub same_refusal : (verdict : Verdict) (status code : ℕ) (name : List ℕ) → status ≡ status_of verdict → code ≡ number_of verdict → name ≡ name_of verdict →
    answer status None None (page (codes "Refused: " ++ decimal code ++ codes " " ++ name)) ≡ refusal verdict
same_refusal verdict status code name is_status is_code is_name =
    λ i. answer (is_status i) None None (page (codes "Refused: " ++ decimal (is_code i) ++ codes " " ++ is_name i))

pub same_status : (code : ℕ) → answer code None None (page ([] ++ decimal code ++ [] ++ [])) ≡ status_page code
same_status code = ap (λ xs. answer code None None (page xs)) (append-nil (decimal code ++ []) ∙ append-nil (decimal code))

-- ---- each verdict has its answer

verdict_found : (verdict : Verdict) → verdict_of (number_of verdict) ≡ Some verdict
verdict_found BadForm = refl
verdict_found BadBase64 = refl
verdict_found TooLarge = refl
verdict_found BadXml = refl
verdict_found XmlLimit = refl
verdict_found BadNames = refl
verdict_found DuplicateId = refl
verdict_found NotResponse = refl
verdict_found NotSuccess = refl
verdict_found NotOneAssertion = refl
verdict_found BadSignatureForm = refl
verdict_found BadReference = refl
verdict_found TagDiffers = refl
verdict_found DigestDiffers = refl
verdict_found BadAssertion = refl
verdict_found WrongIssuer = refl
verdict_found WrongAudience = refl
verdict_found WrongRecipient = refl
verdict_found NotInTime = refl
verdict_found NotOutstanding = refl
verdict_found RequestSpent = refl
verdict_found AssertionSeen = refl
verdict_found RelayDiffers = refl
verdict_found NotLogout = refl
verdict_found UnknownPeer = refl
verdict_found LogoutDestination = refl
verdict_found NoSuchSession = refl
verdict_found UnknownLogout = refl
verdict_found LogoutNotInTime = refl
verdict_found NotAuthnRequest = refl
verdict_found UnknownIssuer = refl
verdict_found RequestDestination = refl
verdict_found WrongConsumer = refl
verdict_found NoSuchPending = refl
verdict_found LoginRefused = refl
verdict_found DiskFault = refl
verdict_found Full = refl
verdict_found NoMemory = refl
verdict_found Foreign = refl
verdict_found RegistryExpired = refl

pub each_verdict_has_its_answer : EachVerdictHasItsAnswer
each_verdict_has_its_answer = record {
  answered = λ verdict.
      ap (λ (o : Option Verdict). is_some o || list_any (λ status. status == number_of verdict) FIXED_STATUSES) (verdict_found verdict);
  named = λ verdict. fixed_verdict (number_of verdict) verdict (verdict_found verdict);
}

pub fixed_answers_have_room : FixedAnswersHaveRoom
fixed_answers_have_room code is = by_verdict (verdict_of code) refl
  where
    by_verdict : (o : Option Verdict) → verdict_of code ≡ o → length (fixed code) ≤ 512
    by_verdict (Some verdict) found = subst (λ xs. length xs ≤ 512) (sym (fixed_verdict code verdict found)) (verdict_holds code verdict found).fits
    by_verdict None none = subst (λ xs. length xs ≤ 512) (sym (fixed_status code none)) (status_alone code is none).fits
