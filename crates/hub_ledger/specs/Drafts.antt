-- The records that are drafted, and why one is refused.
use Rattle.std.specs.Prelude.{◌≡◌, ℕ, ◌+◌, min, true, List, [], ◌∷◌, Result}
use Rattle.std.specs.List.{list_all}
use Rattle.ledger_records.specs.declared.hub_record.Backed.{Backed}
use Rattle.ledger_records.specs.declared.hub_record.HubRecord.{HubRecord}
use Rattle.ledger_records.specs.declared.hub_record.HubRecord.TheVariants as kinds
use Rattle.ledger_rules.specs.declared.fault.DraftFault.{DraftFault}
use Rattle.ledger_rules.specs.Numbers.{is_xml_text}
use Rattle.record_ledger.specs.Drafts as any
use Rattle.request_rows.specs.declared.row.NewSession.{NewSession}
use Rattle.saml_ids.specs.IdText.{id_text}
use Rattle.saml_ids.specs.declared.Kind.TheVariants.{Message}
use Rattle.hub_ledger.specs.declared.row.BelowRow.{BelowRow}
use Rattle.hub_ledger.specs.declared.ids.LoginIds.{LoginIds}
use Rattle.hub_ledger.specs.declared.ids.RequestIds.{RequestIds}
use Rattle.hub_ledger.specs.Ids.{login_ids, request_ids}
use Rattle.hub_ledger.specs.Record.{LAST, hub_rules}
use Rattle.hub_ledger.specs.Standing.{hub_row_rules}
use Rattle.hub_ledger.specs.Ledger.{Held, OpenedLedger}
pub use Rattle.ledger_rules.specs.Moments.{LIFE}
pub use Rattle.request_ledger.specs.Drafts.{key_of, AreSessionTexts}

-- a document may hold the texts of a request below, but the relay state
abbrev pub IsXmlBelow : BelowRow → Type 0
IsXmlBelow below = list_all is_xml_text (below.peer ∷ below.consumer ∷ below.request ∷ []) ≡ true

-- A request upwards for one below, with these IDs.
abbrev pub routed_with : (first now : ℕ) → RequestIds → BelowRow → HubRecord
routed_with first now ids below = kinds.Routed (record {
  first = first;
  moment = now;
  until = now + LIFE;
  request = ids.request;
  relay = ids.relay;
  peer = below.peer;
  consumer = below.consumer;
  below = below.request;
  below_relay = below.relay;
})

-- The same, with the IDs of the next two numbers.
abbrev pub routed : (key : List ℕ) (next now : ℕ) → BelowRow → HubRecord
routed key next now below = routed_with next now (request_ids key next) below

-- An accepted login that is passed on to a request below, with these IDs.
abbrev pub passed_with : (first now : ℕ) → LoginIds → BelowRow → NewSession → Backed
passed_with first now ids below new = record {
  first = first;
  moment = now;
  request = new.request;
  issuer = new.issuer;
  above = new.assertion;
  assertion_until = new.assertion_until;
  key = key_of new.key;
  assertion = ids.assertion;
  message = ids.message;
  index = ids.index;
  name = new.name;
  peer = below.peer;
  consumer = below.consumer;
  below = below.request;
  below_relay = below.relay;
  until = min LAST new.until;
  attributes = new.attributes;
}

abbrev pub backed_with : (first now : ℕ) → LoginIds → BelowRow → NewSession → HubRecord
backed_with first now ids below new = kinds.Backed (passed_with first now ids below new)

-- The same, with the IDs of the next three numbers.
abbrev pub backed : (key : List ℕ) (next now : ℕ) → BelowRow → NewSession → HubRecord
backed key next now below new = backed_with next now (login_ids key next) below new

-- An answer without an assertion, with a message of the next number.
abbrev pub spoke : (key : List ℕ) (next now : ℕ) → BelowRow → HubRecord
spoke key next now below = kinds.Spoke (record {
  first = next;
  moment = now;
  message = id_text key Message next;
  request = below.request;
  peer = below.peer;
})

-- what a draft call answers: a draft of this record, or the cause of the refusal
abbrev pub Drafts : OpenedLedger → OpenedLedger → HubRecord → Result HubRecord DraftFault → Type 0
Drafts = any.Drafts hub_rules hub_row_rules

-- A record that may be drafted: one of the ledger where its numbers are below the end, and these were not drawn before.
abbrev pub IsDraftable : Held → HubRecord → Type 0
IsDraftable = any.IsDraftable hub_rules
