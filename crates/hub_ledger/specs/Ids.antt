-- The IDs that records draw.
use Rattle.std.specs.Prelude.{◌≡◌, ℕ, ◌+◌, ◌<◌, ◌^◌, List, length}
use Rattle.saml_ids.specs.IdText.{id_text}
use Rattle.saml_ids.specs.declared.Kind.TheVariants.{Assertion, Index, Message, Relay, Request}
use Rattle.hub_ledger.specs.declared.ids.LoginIds.{LoginIds}
use Rattle.hub_ledger.specs.declared.ids.RequestIds.{RequestIds}

-- the IDs of a request upwards, of the next two numbers
abbrev pub request_ids : (key : List ℕ) (next : ℕ) → RequestIds
request_ids key next = record { request = id_text key Request next; relay = id_text key Relay (next + 1) }

-- the IDs of a login that is passed on, of the next three numbers
abbrev pub login_ids : (key : List ℕ) (next : ℕ) → LoginIds
login_ids key next = record {
  assertion = id_text key Assertion next;
  message = id_text key Message (next + 1);
  index = id_text key Index (next + 2);
}

-- Each ID is that of its number as long as 64 bits hold it, and has 57 bytes in any case.
pub record AreRequestIds (key : List ℕ) (next : ℕ) (ids : RequestIds) : Type 0 where
  pub request : ids.request ≡ id_text key Request next
  pub relay : next + 1 < 2 ^ 64 → ids.relay ≡ id_text key Relay (next + 1)
  pub relay_long : length ids.relay ≡ 57

pub record AreLoginIds (key : List ℕ) (next : ℕ) (ids : LoginIds) : Type 0 where
  pub assertion : ids.assertion ≡ id_text key Assertion next
  pub message : next + 1 < 2 ^ 64 → ids.message ≡ id_text key Message (next + 1)
  pub index : next + 2 < 2 ^ 64 → ids.index ≡ id_text key Index (next + 2)
  pub message_long : length ids.message ≡ 57
  pub index_long : length ids.index ≡ 57
