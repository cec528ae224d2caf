-- What a line leaves out of a record: of a secret all behind its number, and relay states.
use Rattle.std.specs.Prelude.{ℕ, List, [], map, take, None, option_map}
use Rattle.logout_turns.specs.declared.part.Asker.{Asker}
use Rattle.ledger_records.specs.declared.sp_record.SpRecord.{SpRecord}
use Rattle.ledger_records.specs.declared.sp_record.SpRecord.TheVariants as sp
use Rattle.ledger_records.specs.declared.idp_record.IdpRecord.{IdpRecord}
use Rattle.ledger_records.specs.declared.idp_record.IdpRecord.TheVariants as idp
use Rattle.ledger_records.specs.declared.hub_record.HubRecord.{HubRecord}
use Rattle.ledger_records.specs.declared.hub_record.HubRecord.TheVariants as hub

-- a secret as far as its number goes: `_` and 16 digits
abbrev pub number_part : List ℕ → List ℕ
number_part secret = take 17 secret

-- a record of a service provider with its secrets as far as their numbers go, and without a relay state
abbrev pub sp_without_secrets : SpRecord → SpRecord
sp_without_secrets (sp.Asked r) = sp.Asked (record r { relay = [] })
sp_without_secrets (sp.Opened r) = sp.Opened (record r { token = number_part r.token })
sp_without_secrets (sp.Left r) = sp.Left (record r { token = number_part r.token })
sp_without_secrets (sp.Ended r) = sp.Ended (record r { tokens = map number_part r.tokens })
sp_without_secrets (sp.Confirmed r) = sp.Confirmed r

abbrev pub without_relay : Asker → Asker
without_relay asker = record asker { relay = None }

-- the same of an identity provider's
abbrev pub idp_without_secrets : IdpRecord → IdpRecord
idp_without_secrets (idp.Pending r) = idp.Pending (record r { pending = number_part r.pending; relay = None })
idp_without_secrets (idp.Issued r) =
    idp.Issued (record r { pending = option_map number_part r.pending; cookie = number_part r.cookie; relay = None })
idp_without_secrets (idp.Ended r) = idp.Ended (record r { cookies = map number_part r.cookies })
idp_without_secrets (idp.Left r) = idp.Left (record r { cookie = number_part r.cookie })
idp_without_secrets (idp.Round r) =
    idp.Round (record r { cookies = map number_part r.cookies; asker = option_map without_relay r.asker })
idp_without_secrets (idp.Confirmed r) = idp.Confirmed r
idp_without_secrets (idp.Spoke r) = idp.Spoke r
idp_without_secrets (idp.Told r) = idp.Told r

-- and of a hub's, which keeps no secret
abbrev pub hub_without_secrets : HubRecord → HubRecord
hub_without_secrets (hub.Routed r) = hub.Routed (record r { relay = []; below_relay = None })
hub_without_secrets (hub.Backed r) = hub.Backed (record r { below_relay = None })
hub_without_secrets (hub.Spoke r) = hub.Spoke r
