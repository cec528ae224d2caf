-- Whether a login answers a request that is outstanding and unused. InResponseTo is the ID of a request that the provider sent (SAML
-- Profiles, 4.1.4.3), bearer assertions are not replayed (4.1.4.5), and RelayState comes back as it was given (SAML Bindings, 3.5.3).
use Rattle.std.specs.Prelude.{ℕ, Bool, false, not, List, Option, None, Some}
use Rattle.std.specs.Str.{bytes_eq}
use Rattle.protocol_messages.specs.declared.response.ResponseHead.{ResponseHead}
use Rattle.assertion_model.specs.declared.login.Login.{Login}
use Rattle.request_rows.specs.declared.row.AskedRow.{AskedRow}
use Rattle.request_rows.specs.Rows.{RowsView, asked_row, is_spent, is_seen}
use Rattle.sp_rules.specs.Meant.{is_if_any}

-- what was asked by the request that a login answers, where that is outstanding
abbrev pub asked_for : RowsView → ℕ → ℕ → Login → Option AskedRow
asked_for rows horizon now login = asked_row rows.asked login.request now horizon

-- the request is outstanding, and the Response says no other one
abbrev pub is_outstanding : Option AskedRow → ResponseHead → Login → Bool
is_outstanding None head login = false
is_outstanding (Some asked) head login = is_if_any login.request head.request

-- no session was opened for the request
abbrev pub is_unspent : RowsView → Login → Bool
is_unspent rows login = not (is_spent rows.opened login.request)

-- no session was opened by the assertion, as long as it may be presented
abbrev pub is_unseen : RowsView → ℕ → ℕ → Login → Bool
is_unseen rows horizon now login = not (is_seen rows.opened login.issuer login.id now horizon)

-- the relay is the one that was given with the request
abbrev pub is_relayed : Option AskedRow → Option (List ℕ) → Bool
is_relayed (Some asked) (Some relay) = bytes_eq relay asked.relay
is_relayed asked relay = false
