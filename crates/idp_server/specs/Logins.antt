-- The login that an issued record stands for: SAML Core, 2.3.3; SAML Profiles, 4.1.4.2.
use Rattle.std.specs.Prelude.{ℕ, List}
use Rattle.assertion_model.specs.declared.login.Login.{Login}
use Rattle.ledger_records.specs.declared.idp_record.Issued.{Issued}
use Rattle.idp_answers.specs.Stating.{Stated, stated_login}

-- What an issuer states by an issued record: the user has logged in, for the peer that asked alone. The Assertion may
-- be presented from the moment at which it was issued until that which the record says, at the address to which the
-- answer goes.
abbrev pub stated_by : Issued → Stated
stated_by r = record {
  assertion = r.assertion;
  index = r.index;
  user = r.user;
  attributes = r.attributes;
  peer = r.peer;
  consumer = r.consumer;
  request = r.request;
  moment = r.moment;
  until = r.until;
  session_end = r.session_end;
}

abbrev pub login_of : (issuer : List ℕ) → Issued → Login
login_of issuer r = stated_login issuer (stated_by r)
