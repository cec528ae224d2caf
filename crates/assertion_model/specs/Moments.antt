-- The moments of a login, and how they are written: SAML Core, 1.3.3.
use Rattle.std.specs.Prelude.{ℕ, ◌≤◌, List, Option, None, Some, IfSome, ⊤}
use Rattle.xml_spec.specs.Characters.{IsText}
use Rattle.saml_time.specs.declared.TheConstants.{LAST}
use Rattle.saml_time.specs.Instant.{TellsInFull}
use Rattle.assertion_model.specs.declared.login.Login.{Login}
use Rattle.assertion_model.specs.declared.moments.Moments.{Moments}

-- a moment that has a written form
abbrev pub IsMoment : ℕ → Type 0
IsMoment ms = ms ≤ LAST

-- each moment of the login has one
pub record HasMoments (login : Login) : Type 0 where
  pub issued : IsMoment login.issued
  pub confirm_until : IsMoment login.confirm_until
  pub not_before : IfSome login.not_before IsMoment
  pub not_on_or_after : IfSome login.not_on_or_after IsMoment
  pub session_until : IfSome login.session_until IsMoment

-- there is a text exactly where there is a moment, and it tells the moment in full
abbrev pub IsWritten : Option ℕ → Option (List ℕ) → Type 0
IsWritten None None = ⊤
IsWritten (Some ms) (Some text) = TellsInFull text ms
IsWritten None (Some text) = ⊥
IsWritten (Some ms) None = ⊥

-- the texts tell the moments of the login in full
pub record AreWritten (login : Login) (moments : Moments) : Type 0 where
  pub issued : TellsInFull moments.issued login.issued
  pub confirm_until : TellsInFull moments.confirm_until login.confirm_until
  pub not_before : IsWritten login.not_before moments.not_before
  pub not_on_or_after : IsWritten login.not_on_or_after moments.not_on_or_after
  pub session_until : IsWritten login.session_until moments.session_until

-- a text that an element may hold, where there is one
abbrev pub IsTextIfAny : Option (List ℕ) → Type 0
IsTextIfAny o = IfSome o IsText

-- and all of them may stand in a document
pub record AllAreTexts (moments : Moments) : Type 0 where
  pub issued : IsText moments.issued
  pub confirm_until : IsText moments.confirm_until
  pub not_before : IsTextIfAny moments.not_before
  pub not_on_or_after : IsTextIfAny moments.not_on_or_after
  pub session_until : IsTextIfAny moments.session_until
