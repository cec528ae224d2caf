-- What some records stand for, more records stand for.
use Rattle.std.proofs.Common.{ℕ, List, [], ◌∷◌}
use Rattle.std.specs.Prelude.{Contains}
use Rattle.assertion_model.specs.declared.login.Login.{Login}
use Rattle.idp_rules.specs.declared.config.IdpConfig.{IdpConfig}
use Rattle.request_rows.specs.declared.row.NewSession.{NewSession}
use Rattle.sp_rules.specs.declared.config.SpConfig.{SpConfig}
use Rattle.login_origin.specs.Signed.{Signed}
use Rattle.recorded_logins.specs.Recorded.{Added, AreOf}
use Rattle.recorded_logins.specs.Logins.{IsRecordedLogin, IsRecordedSession}

pub more_signed : (setup : IdpConfig) (added more : List Added) (issued : List Signed) →
    ((one : Added) → Contains added one → Contains more one) → AreOf setup added issued → AreOf setup more issued
more_signed setup added more [] among are = tt
more_signed setup added more (s ∷ issued) among are =
    let is = are.0 in (
      record {
        one = is.one;
        known = among is.one is.known;
        element = is.element;
        signed = is.signed;
        made = is.made;
        document = is.document;
      },
      more_signed setup added more issued among are.1,
    )

pub more_login : (setup : IdpConfig) (added more : List Added) (l : Login) →
    ((one : Added) → Contains added one → Contains more one) → IsRecordedLogin setup added l →
    IsRecordedLogin setup more l
more_login setup added more l among is = record {
  held = is.held;
  r = is.r;
  known = among _ is.known;
  assertion = is.assertion;
  made = is.made;
  read = is.read;
}

pub more_session : (setup : IdpConfig) (added more : List Added) (config : SpConfig) (now : ℕ) (session : NewSession) →
    ((one : Added) → Contains added one → Contains more one) → IsRecordedSession setup added config now session →
    IsRecordedSession setup more config now session
more_session setup added more config now session among is = record {
  held = is.held;
  r = is.r;
  known = among _ is.known;
  issuer = is.issuer;
  audience = is.audience;
  address = is.address;
  begun = is.begun;
  accepted = is.accepted;
  lives = is.lives;
  key = is.key;
  counts = is.counts;
  is = is.is;
}
