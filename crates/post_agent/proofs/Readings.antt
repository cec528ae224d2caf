-- Bytes have one reading, and what an agent keeps of them follows from it.
use Rattle.std.proofs.Common.{◌≡◌, ◌≢◌, ℕ, Bool, true, false, cond, ◌==◌, List, Option, None, Some, refl, sym, ap, ◌∙◌, subst, arith}
use Rattle.std.proofs.lemmas.Bool.Decides.{nat_tests}
use Rattle.post_binding.specs.Laws.{EscapedTextHoldsNoMarkup, EscapedTextIsReadAgain}
use Rattle.post_agent.specs.declared.seen.Page.{Page}
use Rattle.post_agent.specs.declared.seen.Seen.{Seen}
use Rattle.post_agent.specs.declared.seen.What.TheVariants as seen
use Rattle.post_agent.specs.declared.site.Site.{Site}
use Rattle.post_agent.specs.Agents.{with_cookie, with_location, with_page}
use Rattle.post_agent.specs.Laws.{EachAnswerHasOneReading}
use Rattle.post_agent.specs.Reading.{answer_of, page_of, shown, seen_by, reading_with, reading_by, reading_of}
use Rattle.post_agent.specs.Received.{Parts, IsAnswer, Means, Reading, NoAnswer, Moved, Shown, Receives}
use Rattle.post_agent.specs.States.{State}
use Rattle.post_agent.proofs.Answered.{answer_of-answer, answer_of-stands}
use Rattle.post_agent.proofs.Options.{never}
use Rattle.post_agent.proofs.Telling.{page_of-shown, page_of-shows}

same_status : (status : ℕ) → status ≡ 303 → (status == 303) ≡ true
same_status status e = grind (arith, nat_tests)

other_status : (status : ℕ) → status ≢ 303 → (status == 303) ≡ false
other_status status e = grind (arith, nat_tests)

module _ (clean : EscapedTextHoldsNoMarkup) (again : EscapedTextIsReadAgain) where
  is_meant : (bytes : List ℕ) → Means bytes (reading_of bytes)
  is_meant bytes = by_answer (answer_of bytes) refl
    where
      by_status : (parts : Parts) (t : Bool) → IsAnswer bytes parts → (parts.status == 303) ≡ t →
          Means bytes (reading_with parts (cond t None (Some (page_of parts.status parts.body))))
      by_status parts true is e = (is, (let same : parts.status ≡ 303 = grind (arith, nat_tests) in same))
      by_status parts false is e =
          let other : parts.status ≢ 303 = grind (arith, nat_tests) in
          (is, other, page_of-shows clean again parts.status parts.body is.status)

      by_answer : (o : Option Parts) → answer_of bytes ≡ o → Means bytes (reading_by o)
      by_answer None e = λ parts is. never parts (sym e ∙ answer_of-answer bytes parts is)
      by_answer (Some parts) e = by_status parts (parts.status == 303) (answer_of-stands bytes parts e) refl

  is_read : (bytes : List ℕ) (reading : Reading) → Means bytes reading → reading_of bytes ≡ reading
  is_read bytes NoAnswer means = by_answer (answer_of bytes) refl
    where
      by_answer : (o : Option Parts) → answer_of bytes ≡ o → reading_by o ≡ NoAnswer
      by_answer None e = refl
      by_answer (Some parts) e = absurd (means parts (answer_of-stands bytes parts e))
  is_read bytes (Moved parts) means =
      ap reading_by (answer_of-answer bytes parts means.0)
      ∙ ap (λ t. reading_with parts (cond t None (Some (page_of parts.status parts.body))))
      (same_status parts.status means.1)
  is_read bytes (Shown parts page) means =
      ap reading_by (answer_of-answer bytes parts means.0)
      ∙ ap (λ t. reading_with parts (cond t None (Some (page_of parts.status parts.body))))
      (other_status parts.status means.1)
      ∙ ap (λ p. Shown parts p) (page_of-shown clean again parts.status parts.body page means.0.status means.2)

  pub each_answer_has_one_reading : EachAnswerHasOneReading
  each_answer_has_one_reading = record {
    read = is_meant;
    one = λ bytes a b means_a means_b. sym (is_read bytes a means_a) ∙ is_read bytes b means_b;
  }

-- ---- what an agent keeps

pub receives_nothing : (site : Site) (bytes : List ℕ) (state : State) → EachAnswerHasOneReading →
    None ≡ answer_of bytes →
    Receives site bytes state (record { status = 0; what = seen.Page }) state
receives_nothing site bytes state law none = record {
  reading = NoAnswer;
  means = subst (Means bytes) (ap reading_by (sym none)) (law.read bytes);
  seen = refl;
  kept = refl;
}

pub receives_answer : (site : Site) (bytes : List ℕ) (parts : Parts) (page : Option Page)
    (cookie location : Option (List ℕ)) (before one two : State) (saw : Seen) →
    EachAnswerHasOneReading → Some parts ≡ answer_of bytes → page ≡ shown parts → cookie ≡ parts.cookie →
    location ≡ parts.location →
    saw ≡ seen_by parts.status page → one ≡ with_cookie site cookie before → two ≡ with_location site location one →
    page ≡ None →
    Receives site bytes before saw two
receives_answer site bytes parts page cookie location before one two saw law found is_shown same_cookie same_location is_seen is_one is_two moved = record {
  reading = Moved parts;
  means = subst (Means bytes) (ap reading_by (sym found) ∙ ap (reading_with parts) (sym is_shown ∙ moved))
      (law.read bytes);
  seen = is_seen ∙ ap (seen_by parts.status) moved;
  kept = is_two ∙ (λ i. with_location site (same_location i)
      ((is_one ∙ ap (λ c. with_cookie site c before) same_cookie) i));
}

pub receives_page : (site : Site) (bytes : List ℕ) (parts : Parts) (page : Option Page) (p : Page)
    (cookie location : Option (List ℕ)) (before one two three : State) (saw : Seen) →
    EachAnswerHasOneReading → Some parts ≡ answer_of bytes → page ≡ shown parts → cookie ≡ parts.cookie →
    location ≡ parts.location →
    saw ≡ seen_by parts.status page → one ≡ with_cookie site cookie before → two ≡ with_location site location one →
    page ≡ Some p →
    three ≡ with_page site p two → Receives site bytes before saw three
receives_page site bytes parts page p cookie location before one two three saw law found is_shown same_cookie same_location is_seen is_one is_two there is_three = record {
  reading = Shown parts p;
  means = subst (Means bytes) (ap reading_by (sym found) ∙ ap (reading_with parts) (sym is_shown ∙ there))
      (law.read bytes);
  seen = is_seen ∙ ap (seen_by parts.status) there;
  kept =
      (is_three
      ∙ ap (with_page site p)
      (is_two ∙ (λ i. with_location site (same_location i)
      ((is_one ∙ ap (λ c. with_cookie site c before) same_cookie) i))));
}
