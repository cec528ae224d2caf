-- The records that are drafted, and why one is refused.
use Rattle.std.specs.Prelude.{◌≡◌, ℕ, ◌+◌, min, Bool, true, false, List, [], ◌∷◌, Option, None, Some, Result}
use Rattle.std.specs.List.{flat_map, list_all}
use Rattle.std.specs.Option.{is_some}
use Rattle.owned_values.specs.declared.attributes.Attribute.{Attribute}
use Rattle.logout_turns.specs.declared.part.Asker.{Asker}
use Rattle.logout_turns.specs.declared.turns.Turn.{Turn}
use Rattle.ledger_records.specs.declared.idp_record.IdpRecord.{IdpRecord}
use Rattle.ledger_records.specs.declared.idp_record.IdpRecord.TheVariants as kinds
use Rattle.ledger_rules.specs.declared.fault.DraftFault.{DraftFault}
use Rattle.ledger_rules.specs.Numbers.{is_xml_text}
use Rattle.record_ledger.specs.Drafts as any
use Rattle.saml_ids.specs.IdText.{id_text}
use Rattle.saml_ids.specs.declared.Kind.TheVariants.{Request, Message, Pending as PendingId}
use Rattle.round_rows.specs.declared.row.RoundRow.{RoundRow}
use Rattle.round_rows.specs.Rounds as rounds
use Rattle.idp_ledger.specs.declared.ask.Ask.{Ask}
use Rattle.idp_rows.specs.declared.row.PendingRow.{PendingRow}
use Rattle.idp_rows.specs.declared.row.SessionRow.{SessionRow}
use Rattle.idp_ledger.specs.declared.ids.LoginIds.{LoginIds}
use Rattle.idp_ledger.specs.declared.ids.RoundIds.{RoundIds}
use Rattle.idp_ledger.specs.Standing.{idp_row_rules}
use Rattle.idp_ledger.specs.Ids.{login_ids, round_ids}
use Rattle.idp_rows.specs.Finding.{session_found}
use Rattle.idp_ledger.specs.Record.{idp_rules}
use Rattle.idp_rows.specs.Record.{LAST, of_attribute, of_asker, of_turn}
use Rattle.idp_ledger.specs.Ledger.{Held, OpenedLedger}
pub use Rattle.ledger_rules.specs.Moments.{ASSERTION_LIFE, LIFE}

-- how long a session lives
abbrev pub SESSION_LIFE : ℕ
SESSION_LIFE = 28800000

-- a document may hold the texts of what is asked for, but the relay state
abbrev pub IsXmlAsk : Ask → Type 0
IsXmlAsk ask = list_all is_xml_text (ask.request ∷ ask.peer ∷ ask.consumer ∷ []) ≡ true

-- and those of attributes
abbrev pub AreXmlAttributes : List Attribute → Type 0
AreXmlAttributes attributes = list_all is_xml_text (flat_map of_attribute attributes) ≡ true

-- A login that is pending, with an ID of the next number.
abbrev pub pending : (key : List ℕ) (next now : ℕ) → Ask → IdpRecord
pending key next now ask = kinds.Pending (record {
  first = next;
  moment = now;
  until = now + LIFE;
  pending = id_text key PendingId next;
  request = ask.request;
  peer = ask.peer;
  consumer = ask.consumer;
  relay = ask.relay;
})

-- An assertion for a pending login, which begins a session, with these IDs.
abbrev pub login_with : (first now : ℕ) → LoginIds → PendingRow → (user : List ℕ) → List Attribute → IdpRecord
login_with first now ids row user attributes = kinds.Issued (record {
  first = first;
  moment = now;
  pending = Some row.pending;
  cookie = ids.cookie;
  index = ids.index;
  session_end = min LAST (now + SESSION_LIFE);
  assertion = ids.assertion;
  message = ids.message;
  user = user;
  peer = row.peer;
  consumer = row.consumer;
  request = row.request;
  relay = row.relay;
  until = min LAST (now + ASSERTION_LIFE);
  attributes = attributes;
})

-- The same, with the IDs of the next four numbers.
abbrev pub login : (key : List ℕ) (next now : ℕ) → PendingRow → (user : List ℕ) → List Attribute → IdpRecord
login key next now row user attributes = login_with next now (login_ids key next) row user attributes

-- An assertion in a session, with these IDs, the first two of which it draws.
abbrev pub issue_with : (first now : ℕ) → LoginIds → SessionRow → Ask → IdpRecord
issue_with first now ids row ask = kinds.Issued (record {
  first = first;
  moment = now;
  pending = None;
  cookie = row.cookie;
  index = row.index;
  session_end = row.until;
  assertion = ids.assertion;
  message = ids.message;
  user = row.user;
  peer = ask.peer;
  consumer = ask.consumer;
  request = ask.request;
  relay = ask.relay;
  until = min LAST (now + ASSERTION_LIFE);
  attributes = row.attributes;
})

-- The same, with the IDs of the next two numbers.
abbrev pub issue : (key : List ℕ) (next now : ℕ) → SessionRow → Ask → IdpRecord
issue key next now row ask = issue_with next now (login_ids key next) row ask

-- An answered logout of the sessions of these cookies, with a message of the next number.
abbrev pub ended : (key : List ℕ) (next now : ℕ) (cookies : List (List ℕ)) (request peer : List ℕ) (partial : Bool) → IdpRecord
ended key next now cookies request peer partial = kinds.Ended (record {
  first = next;
  moment = now;
  cookies = cookies;
  message = id_text key Message next;
  request = request;
  peer = peer;
  partial = partial;
})

-- A logout of the session of this cookie, with a request of the next number that goes to this peer.
abbrev pub left : (key : List ℕ) (next now : ℕ) (cookie peer : List ℕ) → IdpRecord
left key next now cookie peer = kinds.Left (record {
  first = next;
  moment = now;
  until = now + LIFE;
  cookie = cookie;
  request = id_text key Request next;
  peer = peer;
})

-- A confirmed logout. It draws no number.
abbrev pub confirmed : (now : ℕ) (request : List ℕ) → IdpRecord
confirmed now request = kinds.Confirmed (record { moment = now; request = request })

-- An answer without an assertion, with a message of the next number.
abbrev pub spoke : (key : List ℕ) (next now : ℕ) → Ask → IdpRecord
spoke key next now ask = kinds.Spoke (record {
  first = next;
  moment = now;
  message = id_text key Message next;
  request = ask.request;
  peer = ask.peer;
})

-- A round of the sessions of these cookies, with these IDs.
abbrev pub round_with : (first now : ℕ) → RoundIds → (cookies : List (List ℕ)) → Option Asker → List Turn → (skipped : Bool) → IdpRecord
round_with first now ids cookies asker turns skipped = kinds.Round (record {
  first = first;
  moment = now;
  until = now + LIFE;
  message = ids.message;
  request = ids.request;
  cookies = cookies;
  asker = asker;
  turns = turns;
  skipped = skipped;
})

-- The same, with the IDs of the next two numbers.
abbrev pub round : (key : List ℕ) (next now : ℕ) (cookies : List (List ℕ)) → Option Asker → List Turn → (skipped : Bool) → IdpRecord
round key next now cookies asker turns skipped = round_with next now (round_ids key next) cookies asker turns skipped

-- An answer to a request of a round, with this next request.
abbrev pub told_with : (first now : ℕ) (request : List ℕ) (confirmed : Bool) (next : Option (List ℕ)) → IdpRecord
told_with first now request confirmed next =
    kinds.Told (record { first = first; moment = now; request = request; confirmed = confirmed; next = next })

-- The same, with a next request of the next number where a turn is left.
abbrev pub told : (key : List ℕ) (next now : ℕ) (request : List ℕ) (confirmed left : Bool) → IdpRecord
told key next now request confirmed true = told_with next now request confirmed (Some (id_text key Request next))
told key next now request confirmed false = told_with 0 now request confirmed None

-- whether a turn is left behind the answer to a round, where there is one
abbrev pub is_turn_left : Option RoundRow → Bool
is_turn_left None = false
is_turn_left (Some row) = rounds.is_turn_left row

-- a document may hold the texts of the provider that asks, but the relay state, and those of turns
abbrev pub IsXmlAsker : Option Asker → Type 0
IsXmlAsker asker = list_all is_xml_text (of_asker asker) ≡ true

abbrev pub AreXmlTurns : List Turn → Type 0
AreXmlTurns turns = list_all is_xml_text (flat_map of_turn turns) ≡ true

-- each of these is the cookie of a live session
abbrev pub AreLive : List SessionRow → (cookies : List (List ℕ)) (now horizon : ℕ) → Type 0
AreLive sessions cookies now horizon = list_all (λ cookie. is_some (session_found sessions cookie now horizon)) cookies ≡ true

-- a draft of this record, for which nothing but memory was missing, and which can be committed now
abbrev pub IsDraftOf : OpenedLedger → OpenedLedger → IdpRecord → IdpRecord → Type 0
IsDraftOf = any.IsDraftOf idp_rules idp_row_rules

-- what a draft call answers: a draft of this record, or the cause of the refusal
abbrev pub Drafts : OpenedLedger → OpenedLedger → IdpRecord → Result IdpRecord DraftFault → Type 0
Drafts = any.Drafts idp_rules idp_row_rules

-- the same where there may be nothing to record: none exactly there
abbrev pub DraftsSome : OpenedLedger → OpenedLedger → (nothing : Bool) → IdpRecord → Result (Option IdpRecord) DraftFault → Type 0
DraftsSome = any.DraftsSome idp_rules idp_row_rules

-- A record that may be drafted: one of the ledger where its numbers are below the end, and these were not drawn before.
abbrev pub IsDraftable : Held → IdpRecord → Type 0
IsDraftable = any.IsDraftable idp_rules
