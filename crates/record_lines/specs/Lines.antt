-- The line that is printed of a record.
use Rattle.std.specs.Prelude.{ℕ, List, [], ◌∷◌, ◌++◌, map, take, Bool, true, false, Option, None, Some, codes, decimal}
use Rattle.std.specs.List.{flat_map}
use Rattle.owned_values.specs.declared.attributes.Attribute.{Attribute}
use Rattle.logout_turns.specs.declared.part.Asker.{Asker as AskerOf}
use Rattle.logout_turns.specs.declared.turns.Turn.{Turn}
use Rattle.ledger_records.specs.Fields.{key_byte}
use Rattle.ledger_records.specs.declared.sp_record.Asked.{Asked}
use Rattle.ledger_records.specs.declared.sp_record.Opened.{Opened}
use Rattle.ledger_records.specs.declared.sp_record.Left.{Left}
use Rattle.ledger_records.specs.declared.sp_record.Ended.{Ended}
use Rattle.ledger_records.specs.declared.sp_record.Confirmed.{Confirmed}
use Rattle.ledger_records.specs.declared.sp_record.SpRecord.{SpRecord}
use Rattle.ledger_records.specs.declared.sp_record.SpRecord.TheVariants as sp
use Rattle.ledger_records.specs.declared.idp_record.Pending.{Pending}
use Rattle.ledger_records.specs.declared.idp_record.Issued.{Issued}
use Rattle.ledger_records.specs.declared.idp_record.Ended.{Ended as IdpEnded}
use Rattle.ledger_records.specs.declared.idp_record.Left.{Left as IdpLeft}
use Rattle.ledger_records.specs.declared.idp_record.Confirmed.{Confirmed as IdpConfirmed}
use Rattle.ledger_records.specs.declared.idp_record.Spoke.{Spoke}
use Rattle.ledger_records.specs.declared.idp_round.Round.{Round}
use Rattle.ledger_records.specs.declared.idp_round.Told.{Told}
use Rattle.ledger_records.specs.declared.idp_record.IdpRecord.{IdpRecord}
use Rattle.ledger_records.specs.declared.idp_record.IdpRecord.TheVariants as idp
use Rattle.record_lines.specs.Escapes.{escaped, escaped_name}
use Rattle.record_lines.specs.Instants.{instant}

-- FIELDS

-- What is printed of a field: its name, and what it holds. A secret is a text that would let somebody in.
pub data Field : Type 0 where
  Moment : (name : List ℕ) (moment : ℕ) → Field
  Number : (name : List ℕ) (n : ℕ) → Field
  Text : (name text : List ℕ) → Field
  MaybeText : (name : List ℕ) (text : Option (List ℕ)) → Field
  Secret : (name text : List ℕ) → Field
  MaybeSecret : (name : List ℕ) (text : Option (List ℕ)) → Field
  Secrets : (name : List ℕ) (texts : List (List ℕ)) → Field
  Attributes : (attributes : List Attribute) → Field
  Asker : (asker : Option AskerOf) → Field
  Turns : (turns : List Turn) → Field

-- a name and a value
abbrev pub named : List ℕ → List ℕ → List ℕ
named name value = name ++ codes "=" ++ value

abbrev pub text_piece : List ℕ → List ℕ → List ℕ
text_piece name text = named name (escaped text)

-- Of a secret its first 17 characters are printed: `_` and the number with which it was drawn, in 16 digits.
abbrev pub secret_piece : List ℕ → List ℕ → List ℕ
secret_piece name text = named name (escaped (take 17 text))

-- the name of an attribute: the first '=' of a piece ends it
abbrev pub attribute_name : Attribute → List ℕ
attribute_name a = codes "attribute." ++ escaped_name a.name

-- a piece for each value of an attribute; its name alone where it has none
abbrev pub value_pieces : List ℕ → List (List ℕ) → List (List ℕ)
value_pieces name [] = name ∷ []
value_pieces name (value ∷ values) = map (text_piece name) (value ∷ values)

-- a provider that asks, and the ID of its request; its relay state is left out
abbrev pub asker_pieces : Option AskerOf → List (List ℕ)
asker_pieces None = []
asker_pieces (Some asker) =
    text_piece (codes "asker.peer") asker.peer ∷ text_piece (codes "asker.request") asker.request ∷ []

-- a provider that is asked, the name of the user, and each index
unfoldable pub turn_pieces : Turn → List (List ℕ)
turn_pieces turn =
    text_piece (codes "turn") turn.peer ∷ text_piece (codes "turn.name") turn.name
    ∷ map (text_piece (codes "turn.index")) turn.indexes

-- the pieces of a field: none of an option that is not there, and one for each item of a list
abbrev pub pieces : Field → List (List ℕ)
pieces (Moment name moment) = named name (instant moment) ∷ []
pieces (Number name n) = named name (decimal n) ∷ []
pieces (Text name text) = text_piece name text ∷ []
pieces (MaybeText name None) = []
pieces (MaybeText name (Some text)) = text_piece name text ∷ []
pieces (Secret name text) = secret_piece name text ∷ []
pieces (MaybeSecret name None) = []
pieces (MaybeSecret name (Some text)) = secret_piece name text ∷ []
pieces (Secrets name texts) = map (secret_piece name) texts
pieces (Attributes attributes) = flat_map (λ a. value_pieces (attribute_name a) a.values) attributes
pieces (Asker asker) = asker_pieces asker
pieces (Turns turns) = flat_map turn_pieces turns

-- pieces, each behind a space
abbrev pub spaced : List (List ℕ) → List ℕ
spaced pieces = flat_map (λ piece. 32 ∷ piece) pieces

-- a field as it is printed
abbrev pub shown : Field → List ℕ
shown field = spaced (pieces field)

-- A line: the moment of the record, its kind, the fields that are printed, and a line end.
abbrev pub line : ℕ → List ℕ → List Field → List ℕ
line moment kind fields = instant moment ++ codes " " ++ kind ++ flat_map shown fields ++ codes "\n"

-- RECORDS OF A SERVICE PROVIDER. The fields are those of the payload, in its order. The first number that was drawn is
-- not printed, as it is part of each ID that was drawn, and a relay state is left out.

abbrev pub asked : Asked → List Field
asked r = Moment (codes "until") r.until ∷ Text (codes "target") r.target ∷ Text (codes "request") r.request ∷ []

abbrev pub opened : Opened → List Field
opened r =
    Moment (codes "until") r.until ∷ Text (codes "request") r.request ∷ Text (codes "issuer") r.issuer
    ∷ Text (codes "assertion") r.assertion ∷ Moment (codes "assertion_until") r.assertion_until
    ∷ Secret (codes "token") r.token ∷ Text (codes "name") r.name ∷ MaybeText (codes "index") r.index
    ∷ Attributes r.attributes ∷ Number (codes "key") (key_byte r.key) ∷ []

abbrev pub left : Left → List Field
left r = Moment (codes "until") r.until ∷ Secret (codes "token") r.token ∷ Text (codes "request") r.request ∷ []

abbrev pub ended : Ended → List Field
ended r =
    Secrets (codes "tokens") r.tokens ∷ Text (codes "message") r.message ∷ Text (codes "request") r.request ∷ []

abbrev pub confirmed : Confirmed → List Field
confirmed r = Text (codes "request") r.request ∷ []

abbrev pub sp_line : SpRecord → List ℕ
sp_line (sp.Asked r) = line r.moment (codes "Asked") (asked r)
sp_line (sp.Opened r) = line r.moment (codes "Opened") (opened r)
sp_line (sp.Left r) = line r.moment (codes "Left") (left r)
sp_line (sp.Ended r) = line r.moment (codes "Ended") (ended r)
sp_line (sp.Confirmed r) = line r.moment (codes "Confirmed") (confirmed r)

-- RECORDS OF AN IDENTITY PROVIDER

abbrev pub pending : Pending → List Field
pending r =
    Moment (codes "until") r.until ∷ Secret (codes "pending") r.pending ∷ Text (codes "request") r.request
    ∷ Text (codes "peer") r.peer ∷ Text (codes "consumer") r.consumer ∷ []

abbrev pub issued : Issued → List Field
issued r =
    MaybeSecret (codes "pending") r.pending ∷ Secret (codes "cookie") r.cookie ∷ Text (codes "index") r.index
    ∷ Moment (codes "session_end") r.session_end ∷ Text (codes "assertion") r.assertion
    ∷ Text (codes "message") r.message ∷ Text (codes "user") r.user ∷ Text (codes "peer") r.peer
    ∷ Text (codes "consumer") r.consumer ∷ Text (codes "request") r.request ∷ Moment (codes "until") r.until
    ∷ Attributes r.attributes ∷ []

-- a yes or no
abbrev pub flag_number : Bool → ℕ
flag_number false = 0
flag_number true = 1

abbrev pub idp_ended : IdpEnded → List Field
idp_ended r =
    Secrets (codes "cookies") r.cookies ∷ Text (codes "message") r.message ∷ Text (codes "request") r.request
    ∷ Text (codes "peer") r.peer ∷ Number (codes "partial") (flag_number r.partial) ∷ []

abbrev pub idp_left : IdpLeft → List Field
idp_left r =
    Moment (codes "until") r.until ∷ Secret (codes "cookie") r.cookie ∷ Text (codes "request") r.request
    ∷ Text (codes "peer") r.peer ∷ []

abbrev pub idp_confirmed : IdpConfirmed → List Field
idp_confirmed r = Text (codes "request") r.request ∷ []

abbrev pub spoke : Spoke → List Field
spoke r = Text (codes "message") r.message ∷ Text (codes "request") r.request ∷ Text (codes "peer") r.peer ∷ []

abbrev pub round : Round → List Field
round r =
    Moment (codes "until") r.until ∷ Text (codes "message") r.message ∷ Text (codes "request") r.request
    ∷ Secrets (codes "cookies") r.cookies ∷ Asker r.asker ∷ Turns r.turns
    ∷ Number (codes "skipped") (flag_number r.skipped) ∷ []

abbrev pub told : Told → List Field
told r =
    Text (codes "request") r.request ∷ Number (codes "confirmed") (flag_number r.confirmed)
    ∷ MaybeText (codes "next") r.next ∷ []

abbrev pub idp_line : IdpRecord → List ℕ
idp_line (idp.Pending r) = line r.moment (codes "Pending") (pending r)
idp_line (idp.Issued r) = line r.moment (codes "Issued") (issued r)
idp_line (idp.Ended r) = line r.moment (codes "Ended") (idp_ended r)
idp_line (idp.Left r) = line r.moment (codes "Left") (idp_left r)
idp_line (idp.Confirmed r) = line r.moment (codes "Confirmed") (idp_confirmed r)
idp_line (idp.Spoke r) = line r.moment (codes "Spoke") (spoke r)
idp_line (idp.Round r) = line r.moment (codes "Round") (round r)
idp_line (idp.Told r) = line r.moment (codes "Told") (told r)
