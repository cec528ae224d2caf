use Rattle.std.proofs.Common.{ℕ, ◌≤◌, arith}
use Rattle.saml_time.specs.declared.TheConstants.{LAST}
use Rattle.saml_time.specs.Instant.{EachIsTold}
use Rattle.protocol_messages.proofs.Texts.{text_of_graphic}
use Rattle.logout_answers.specs.Laws.{IsWritten}
use Rattle.logout_answers.proofs.Making.{leaving_is_answered, ending_is_answered}
use Rattle.logout_answers.proofs.laws.each_logout_has_an_answer.Goals as goal

written : EachIsTold → (moment : ℕ) → moment ≤ LAST → IsWritten moment
written law moment h =
    let told = law moment h in
    record { text = told.0; told = told.1; characters = text_of_graphic told.0 told.2 }

pub returns-clause-leaving : goal.returns-clause-leaving
returns-clause-leaving c = λ now h.
    leaving_is_answered now (written c.each_moment_is_told.ensures now h) (written c.each_moment_is_told.ensures _ (omega arith))

pub returns-clause-ending : goal.returns-clause-ending
returns-clause-ending c = λ now h. ending_is_answered now (written c.each_moment_is_told.ensures now h)
