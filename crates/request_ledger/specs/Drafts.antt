-- The records that are drafted, and why one is refused.
use Rattle.std.specs.Prelude.{◌≡◌, ℕ, ◌+◌, ◌==◌, if◌then◌else◌, Bool, true, false, ◌&&◌, not, List, [], ◌∷◌, ◌++◌, map, filter, Option, None, Some, Result}
use Rattle.std.specs.List.{flat_map, list_all, list_any}
use Rattle.std.specs.Str.{bytes_eq}
use Rattle.ledger_records.specs.declared.key_number.KeyNumber.{KeyNumber}
use Rattle.ledger_records.specs.declared.key_number.KeyNumber.TheVariants.{First, Second}
use Rattle.ledger_records.specs.declared.sp_record.SpRecord.{SpRecord}
use Rattle.ledger_records.specs.declared.sp_record.SpRecord.TheVariants as kinds
use Rattle.ledger_rules.specs.declared.fault.DraftFault.{DraftFault}
use Rattle.request_rows.specs.declared.row.NewSession.{NewSession}
use Rattle.request_rows.specs.declared.row.OpenedRow.{OpenedRow}
use Rattle.request_rows.specs.declared.row.LeftRow.{LeftRow}
use Rattle.ledger_rules.specs.Numbers.{is_xml_text}
use Rattle.record_ledger.specs.Drafts as any
use Rattle.request_ledger.specs.Record.{of_attribute, request_rules}
use Rattle.request_rows.specs.Rows.{visible}
use Rattle.saml_ids.specs.IdText.{id_text}
use Rattle.saml_ids.specs.declared.Kind.TheVariants.{Request, Relay, Cookie, Message}
use Rattle.request_ledger.specs.RowsOf.{is_among}
use Rattle.request_ledger.specs.Standing.{request_row_rules}
use Rattle.request_ledger.specs.Ledger.{Held, OpenedLedger}
use Rattle.std.specs.Option.{option_to_list}
pub use Rattle.ledger_rules.specs.Texts.{is_empty}
pub use Rattle.ledger_rules.specs.Moments.{LIFE}

-- A request for a login, with the IDs of the next two numbers.
abbrev pub asked : (key : List ℕ) (next now : ℕ) (target : List ℕ) → SpRecord
asked key next now target = kinds.Asked (record {
  first = next;
  moment = now;
  until = now + LIFE;
  target = target;
  request = id_text key Request next;
  relay = id_text key Relay (next + 1);
})

-- A session for an accepted login, with this token.
abbrev pub key_of : ℕ → KeyNumber
key_of n = if n == 1 then First else Second

abbrev pub opened_with : (first now : ℕ) (token : List ℕ) → NewSession → SpRecord
opened_with first now token new = kinds.Opened (record {
  first = first;
  moment = now;
  until = new.until;
  request = new.request;
  issuer = new.issuer;
  assertion = new.assertion;
  assertion_until = new.assertion_until;
  token = token;
  name = new.name;
  index = new.index;
  attributes = new.attributes;
  key = key_of new.key;
})

-- The same, with a token of the next number.
abbrev pub opened : (key : List ℕ) (next now : ℕ) → NewSession → SpRecord
opened key next now new = opened_with next now (id_text key Cookie next) new

-- a document may hold the texts of a session
abbrev pub session_texts : NewSession → List (List ℕ)
session_texts new =
    new.request ∷ new.issuer ∷ new.assertion ∷ new.name ∷ option_to_list new.index ++ flat_map of_attribute new.attributes

abbrev pub AreSessionTexts : NewSession → Type 0
AreSessionTexts new = list_all is_xml_text (session_texts new) ≡ true

-- A logout of the session of this token, with a request of the next number.
abbrev pub left : (key : List ℕ) (next now : ℕ) (token : List ℕ) → SpRecord
left key next now token =
    kinds.Left (record { first = next; moment = now; until = now + LIFE; token = token; request = id_text key Request next })

-- The live sessions of an issuer and a name whose index is listed, or all where none is listed.
abbrev pub is_listed : List (List ℕ) → Option (List ℕ) → Bool
is_listed [] index = true
is_listed (first ∷ others) None = false
is_listed (first ∷ others) (Some index) = is_among index (first ∷ others)

abbrev pub is_ending : (now horizon : ℕ) (issuer name : List ℕ) (indexes : List (List ℕ)) → OpenedRow → Bool
is_ending now horizon issuer name indexes row =
    not row.closed && visible row.until now horizon && bytes_eq row.issuer issuer && bytes_eq row.name name && is_listed indexes row.index

abbrev pub ending : (now horizon : ℕ) (issuer name : List ℕ) (indexes : List (List ℕ)) → List OpenedRow → List (List ℕ)
ending now horizon issuer name indexes rows = map (λ row. row.token) (filter (is_ending now horizon issuer name indexes) rows)

-- An answered logout of the sessions of these tokens, with a message of the next number.
abbrev pub ended : (key : List ℕ) (next now : ℕ) (tokens : List (List ℕ)) (request : List ℕ) → SpRecord
ended key next now tokens request =
    kinds.Ended (record { first = next; moment = now; tokens = tokens; message = id_text key Message next; request = request })

-- A confirmed logout. It draws no number.
abbrev pub confirmed : (now : ℕ) (request : List ℕ) → SpRecord
confirmed now request = kinds.Confirmed (record { moment = now; request = request })

-- whether a visible logout of a request is not confirmed
abbrev pub is_waiting_now : List LeftRow → (request : List ℕ) (now horizon : ℕ) → Bool
is_waiting_now left request now horizon =
    list_any (λ row. bytes_eq row.request request && not row.confirmed && visible row.until now horizon) left

-- what a draft call answers: a draft of this record, or the cause of the refusal
abbrev pub Drafts : OpenedLedger → OpenedLedger → SpRecord → Result SpRecord DraftFault → Type 0
Drafts = any.Drafts request_rules request_row_rules

-- the same where there may be nothing to record: none exactly there
abbrev pub DraftsSome : OpenedLedger → OpenedLedger → (nothing : Bool) → SpRecord → Result (Option SpRecord) DraftFault → Type 0
DraftsSome = any.DraftsSome request_rules request_row_rules

-- A record that may be drafted: one of the ledger where its numbers are below the end, and these were not drawn before.
abbrev pub IsDraftable : Held → SpRecord → Type 0
IsDraftable = any.IsDraftable request_rules
