-- The IDs of assertions and of rounds.
use Rattle.std.specs.Prelude.{◌≡◌, ℕ, ◌+◌, ◌<◌, ◌^◌, List, length}
use Rattle.saml_ids.specs.IdText.{id_text}
use Rattle.saml_ids.specs.declared.Kind.TheVariants.{Request, Cookie, Index, Assertion, Message}
use Rattle.idp_ledger.specs.declared.ids.LoginIds.{LoginIds}
use Rattle.idp_ledger.specs.declared.ids.RoundIds.{RoundIds}

-- the IDs of the next four numbers
abbrev pub login_ids : (key : List ℕ) (next : ℕ) → LoginIds
login_ids key next = record {
  assertion = id_text key Assertion next;
  message = id_text key Message (next + 1);
  cookie = id_text key Cookie (next + 2);
  index = id_text key Index (next + 3);
}

-- Each ID is that of its number as long as 64 bits hold it, and has 57 bytes in any case.
pub record AreLoginIds (key : List ℕ) (next : ℕ) (ids : LoginIds) : Type 0 where
  pub assertion : ids.assertion ≡ id_text key Assertion next
  pub message : next + 1 < 2 ^ 64 → ids.message ≡ id_text key Message (next + 1)
  pub cookie : next + 2 < 2 ^ 64 → ids.cookie ≡ id_text key Cookie (next + 2)
  pub index : next + 3 < 2 ^ 64 → ids.index ≡ id_text key Index (next + 3)
  pub message_long : length ids.message ≡ 57
  pub cookie_long : length ids.cookie ≡ 57
  pub index_long : length ids.index ≡ 57

-- the IDs of the next two numbers: that of the answer, and that of the first request
abbrev pub round_ids : (key : List ℕ) (next : ℕ) → RoundIds
round_ids key next = record { message = id_text key Message next; request = id_text key Request (next + 1) }

pub record AreRoundIds (key : List ℕ) (next : ℕ) (ids : RoundIds) : Type 0 where
  pub message : ids.message ≡ id_text key Message next
  pub request : next + 1 < 2 ^ 64 → ids.request ≡ id_text key Request (next + 1)
  pub request_long : length ids.request ≡ 57
