-- Logins and sessions of which an identity provider has a record: SAML Profiles, 4.1.4.2 and 4.1.4.3.
use Rattle.std.specs.Prelude.{◌≡◌, ℕ, ◌+◌, ◌<◌, ◌≤◌, List, [], ◌∷◌, None, Some, Contains}
use Rattle.xml_spec.specs.Content.{content}
use Rattle.tree_read.specs.Texts.{trimmed}
use Rattle.element_make.specs.Made.{Made, tree_of}
use Rattle.assertion_model.specs.declared.login.Login.{Login}
use Rattle.assertion_model.specs.Assertion.{IsAssertionOf}
use Rattle.assertion_model.specs.Login.{login}
use Rattle.ledger_records.specs.declared.idp_record.Issued.{Issued}
use Rattle.ledger_records.specs.declared.idp_record.IdpRecord.TheVariants as kinds
use Rattle.idp_ledger.specs.Ledger.{Held}
use Rattle.idp_rules.specs.declared.config.IdpConfig.{IdpConfig}
use Rattle.idp_server.specs.Logins.{login_of}
use Rattle.request_rows.specs.declared.row.NewSession.{NewSession}
use Rattle.sp_rules.specs.declared.config.SpConfig.{SpConfig}
use Rattle.sp_rules.specs.Keys.{Key, usable}
use Rattle.sp_rules.specs.Meant.{consumer}
use Rattle.sp_rules.specs.Shown.{session_end}
use Rattle.recorded_logins.specs.Recorded.{Added}

-- What is read of an Assertion of an issued record: all that the record stands for, but for white space at the ends of
-- the issuer and of the audience (profile).
abbrev pub read_of : (issuer : List ℕ) → Issued → Login
read_of issuer r = record (login_of issuer r) { issuer = trimmed issuer; audiences = (trimmed r.peer ∷ []) ∷ [] }

-- the login is read of the content of an Assertion of an issued record that is one of these
pub record IsRecordedLogin (setup : IdpConfig) (added : List Added) (said : Login) : Type 0 where
  pub held : Held
  pub r : Issued
  pub known : Contains added (record { held = held; r = kinds.Issued r })
  pub assertion : Made
  pub made : IsAssertionOf (login_of setup.entity r) assertion
  pub read : login (content (tree_of assertion) 0 None) ≡ Some said

-- The session is that of an issued record, which is one of these, and of a key that counts now: it has the record's
-- request, assertion, user, index and attributes. The record is of this provider's identity provider, for this provider
-- and to its address (SAML Core, 2.5.1.4; SAML Profiles, 4.1.4.2), and now is in its time, where the clocks may differ
-- by the skew.
pub record IsRecordedSession (setup : IdpConfig) (added : List Added) (config : SpConfig) (now : ℕ)
    (session : NewSession) : Type 0 where
  pub held : Held
  pub r : Issued
  pub known : Contains added (record { held = held; r = kinds.Issued r })
  pub issuer : trimmed setup.entity ≡ config.idp.entity
  pub audience : trimmed r.peer ≡ config.entity
  pub address : r.consumer ≡ consumer config
  pub begun : r.moment ≤ now + config.skew
  pub accepted : now < r.until + config.skew
  pub lives : now < r.session_end
  pub key : Key
  pub counts : Contains (usable config now) key
  pub is : session ≡ record {
    request = r.request;
    issuer = trimmed setup.entity;
    assertion = r.assertion;
    assertion_until = r.until + config.skew;
    name = r.user;
    index = Some r.index;
    until = session_end now (Some r.session_end);
    attributes = r.attributes;
    key = key.number;
  }
