-- The login that a hub passes on: SAML Core, 2.3.3 and 3.4.1.5; SAML Profiles, 4.1.4.2.
use Rattle.std.specs.Prelude.{ℕ, List}
use Rattle.assertion_model.specs.declared.login.Login.{Login}
use Rattle.ledger_records.specs.declared.hub_record.Backed.{Backed}
use Rattle.idp_answers.specs.Stating.{Stated, presented_until, stated_login}

-- What the hub states by a record of a login that it passes on: the user of the login from above, with what was stated
-- of the user there, has logged in for the provider below that asked. The session ends when that from above does.
abbrev pub stated_by : Backed → Stated
stated_by r = record {
  assertion = r.assertion;
  index = r.index;
  user = r.name;
  attributes = r.attributes;
  peer = r.peer;
  consumer = r.consumer;
  request = r.below;
  moment = r.moment;
  until = presented_until r.moment;
  session_end = r.until;
}

abbrev pub login_of : (issuer : List ℕ) → Backed → Login
login_of issuer r = stated_login issuer (stated_by r)
