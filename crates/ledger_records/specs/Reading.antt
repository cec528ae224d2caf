-- How a payload is read, field by field. The laws of this reading lead to the definitions of Fields, SpRecord and
-- IdpRecord.
use Rattle.std.specs.Prelude.{◌≡◌, ℕ, zero, suc, ◌==◌, nat_lt, if◌then◌else◌, Bool, true, false, List, [], ◌∷◌, length, take, drop, Option, None, Some, Result, Ok, Err}
use Rattle.std.specs.Int.{Width, w32, w64, byte_len, from_be_bytes}
use Rattle.owned_values.specs.declared.attributes.Attribute.{Attribute}
use Rattle.logout_turns.specs.declared.part.Asker.{Asker as AskerOf}
use Rattle.logout_turns.specs.declared.turns.Turn.{Turn}
use Rattle.ledger_records.specs.declared.key_number.KeyNumber.{KeyNumber}
use Rattle.ledger_records.specs.declared.key_number.KeyNumber.TheVariants.{First, Second}
use Rattle.ledger_records.specs.declared.reading.Unread.{Unread}
use Rattle.ledger_records.specs.declared.reading.Unread.TheVariants as errors
use Rattle.ledger_records.specs.Fields.{Field, NoNumber, Number, Text, Optional, Texts, Attributes, Asker, Turns, Flag, Key}
use Rattle.owned_values.specs.Options.{◌>>=◌, in_utf8}

-- What a call returned, seen by view, is what reading gives, unless memory ran out.
abbrev pub Misses : {Y : Type 0} → Unread → Option Y → Type 0
Misses errors.Malformed read = read ≡ None
Misses errors.NoMemory read = Unit {0}

abbrev pub Reads : {X Y : Type 0} → (X → Y) → Result X Unread → Option Y → Type 0
Reads view (Ok x) read = read ≡ Some (view x)
Reads view (Err e) read = Misses e read

-- Each field at the front is a value and the bytes behind it.
abbrev pub Front : Type 0 → Type 0
Front X = Option (X × List ℕ)

abbrev pub number_at : Width → List ℕ → Front ℕ
number_at w bytes =
    if nat_lt (length bytes) (byte_len w) then None
    else Some (from_be_bytes w (take (byte_len w) bytes), drop (byte_len w) bytes)

-- a text of so many bytes
abbrev pub text_of : ℕ × List ℕ → Front (List ℕ)
text_of (n, bytes) =
    if nat_lt (length bytes) n then None else in_utf8 (take n bytes) >>= λ chars. Some (chars, drop n bytes)

unfoldable pub text_at : List ℕ → Front (List ℕ)
text_at bytes = number_at w32 bytes >>= text_of

unfoldable pub flag_at : List ℕ → Front Bool
flag_at (zero ∷ rest) = Some (false, rest)
flag_at (suc zero ∷ rest) = Some (true, rest)
flag_at _ = None

unfoldable pub key_at : List ℕ → Front KeyNumber
key_at (suc zero ∷ rest) = Some (First, rest)
key_at (suc (suc zero) ∷ rest) = Some (Second, rest)
key_at _ = None

-- the value where the flag says that there is one
abbrev pub value_if : {X : Type 0} → (List ℕ → Front X) → Bool × List ℕ → Front (Option X)
value_if value_at (true, bytes) = value_at bytes >>= λ x. Some (Some x.0, x.1)
value_if value_at (false, bytes) = Some (None, bytes)

unfoldable pub option_at : {X : Type 0} → (List ℕ → Front X) → List ℕ → Front (Option X)
option_at value_at bytes = flag_at bytes >>= value_if value_at

-- so many items one after the other
unfoldable pub many_at : {X : Type 0} → (List ℕ → Front X) → ℕ → List ℕ → Front (List X)
many_at item_at zero bytes = Some ([], bytes)
many_at item_at (suc n) bytes = do
  first ← item_at bytes
  others ← many_at item_at n first.1
  Some (first.0 ∷ others.0, others.1)

unfoldable pub list_at : {X : Type 0} → (List ℕ → Front X) → List ℕ → Front (List X)
list_at item_at bytes = number_at w32 bytes >>= λ n. many_at item_at n.0 n.1

unfoldable pub attribute_at : List ℕ → Front Attribute
attribute_at bytes = do
  name ← text_at bytes
  values ← list_at text_at name.1
  Some (record { name = name.0; values = values.0 }, values.1)

unfoldable pub asking_at : List ℕ → Front AskerOf
asking_at bytes = do
  peer ← text_at bytes
  request ← text_at peer.1
  relay ← option_at text_at request.1
  Some (record { peer = peer.0; request = request.0; relay = relay.0 }, relay.1)

unfoldable pub turn_at : List ℕ → Front Turn
turn_at bytes = do
  peer ← text_at bytes
  name ← text_at peer.1
  indexes ← list_at text_at name.1
  Some (record { peer = peer.0; name = name.0; indexes = indexes.0 }, indexes.1)

-- what kind of field comes
pub data Form : Type 0 where
  NoNumberForm : Form
  NumberForm : Form
  TextForm : Form
  OptionalForm : Form
  TextsForm : Form
  AttributesForm : Form
  AskerForm : Form
  TurnsForm : Form
  FlagForm : Form
  KeyForm : Form

unfoldable pub no_number_at : List ℕ → Front Field
no_number_at bytes = number_at w64 bytes >>= λ n. if n.0 == 0 then Some (NoNumber, n.1) else None

-- a value as a field
abbrev pub as_field : {X : Type 0} → (X → Field) → X × List ℕ → Front Field
as_field make x = Some (make x.0, x.1)

abbrev pub field_at : Form → List ℕ → Front Field
field_at NoNumberForm bytes = no_number_at bytes
field_at NumberForm bytes = number_at w64 bytes >>= as_field Number
field_at TextForm bytes = text_at bytes >>= as_field Text
field_at OptionalForm bytes = option_at text_at bytes >>= as_field Optional
field_at TextsForm bytes = list_at text_at bytes >>= as_field Texts
field_at AttributesForm bytes = list_at attribute_at bytes >>= as_field Attributes
field_at AskerForm bytes = option_at asking_at bytes >>= as_field Asker
field_at TurnsForm bytes = list_at turn_at bytes >>= as_field Turns
field_at FlagForm bytes = flag_at bytes >>= as_field Flag
field_at KeyForm bytes = key_at bytes >>= as_field Key

-- fields of these forms, with nothing behind them
abbrev pub fields_in : List Form → List ℕ → Option (List Field)
fields_in [] bytes = if length bytes == 0 then Some [] else None
fields_in (form ∷ forms) bytes = do
  first ← field_at form bytes
  others ← fields_in forms first.1
  Some (first.0 ∷ others)

-- The forms of each kind of record. Those that two roles have stand once.
abbrev pub confirmed_forms : List Form
confirmed_forms = NoNumberForm ∷ NumberForm ∷ TextForm ∷ []

abbrev pub spoke_forms : List Form
spoke_forms = NumberForm ∷ NumberForm ∷ TextForm ∷ TextForm ∷ TextForm ∷ []

-- a journal of version 1 does not keep the key
abbrev pub key_forms : ℕ → List Form
key_forms version = if version == 1 then [] else KeyForm ∷ []

abbrev pub sp_forms : ℕ → ℕ → Option (List Form)
sp_forms version kind =
    if kind == 1 then Some (NumberForm ∷ NumberForm ∷ NumberForm ∷ TextForm ∷ TextForm ∷ TextForm ∷ [])
    else if kind == 2 then Some (
    NumberForm ∷ NumberForm ∷ NumberForm ∷ TextForm ∷ TextForm ∷ TextForm ∷ NumberForm ∷ TextForm ∷ TextForm
    ∷ OptionalForm ∷ AttributesForm ∷ key_forms version)
    else if kind == 3 then Some (NumberForm ∷ NumberForm ∷ NumberForm ∷ TextForm ∷ TextForm ∷ [])
    else if kind == 4 then Some (NumberForm ∷ NumberForm ∷ TextsForm ∷ TextForm ∷ TextForm ∷ [])
    else if kind == 5 then Some confirmed_forms
    else None

abbrev pub idp_forms : ℕ → Option (List Form)
idp_forms kind =
    if kind == 11 then Some (
    NumberForm ∷ NumberForm ∷ NumberForm ∷ TextForm ∷ TextForm ∷ TextForm ∷ TextForm ∷ OptionalForm ∷ [])
    else if kind == 12 then Some (
    NumberForm ∷ NumberForm ∷ OptionalForm ∷ TextForm ∷ TextForm ∷ NumberForm ∷ TextForm ∷ TextForm ∷ TextForm
    ∷ TextForm ∷ TextForm ∷ TextForm ∷ OptionalForm ∷ NumberForm ∷ AttributesForm ∷ [])
    else if kind == 13 then Some (
    NumberForm ∷ NumberForm ∷ TextsForm ∷ TextForm ∷ TextForm ∷ TextForm ∷ FlagForm ∷ [])
    else if kind == 14 then Some (NumberForm ∷ NumberForm ∷ NumberForm ∷ TextForm ∷ TextForm ∷ TextForm ∷ [])
    else if kind == 15 then Some confirmed_forms
    else if kind == 16 then Some spoke_forms
    else if kind == 17 then Some (
    NumberForm ∷ NumberForm ∷ NumberForm ∷ TextForm ∷ TextForm ∷ TextsForm ∷ AskerForm ∷ TurnsForm ∷ FlagForm ∷ [])
    else if kind == 18 then Some (NumberForm ∷ NumberForm ∷ TextForm ∷ FlagForm ∷ OptionalForm ∷ [])
    else None

-- the kind of a record and its fields
abbrev pub record_in : (ℕ → Option (List Form)) → List ℕ → Option (ℕ × List Field)
record_in forms [] = None
record_in forms (kind ∷ rest) = do
  found ← forms kind
  fields ← fields_in found rest
  Some (kind, fields)
