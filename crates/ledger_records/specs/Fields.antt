-- The fields of a record, and the bytes of each. Numbers are big-endian.
use Rattle.std.specs.Prelude.{ℕ, ◌<◌, ◌^◌, Bool, true, false, List, [], ◌∷◌, ◌++◌, length, Option, None, Some, IfSome, IsUtf8}
use Rattle.std.specs.List.{flat_map, AllByRecursion}
use Rattle.std.specs.Int.{w32, w64, to_be_bytes}
use Rattle.owned_values.specs.declared.attributes.Attribute.{Attribute}
use Rattle.logout_turns.specs.declared.part.Asker.{Asker as AskerOf}
use Rattle.logout_turns.specs.declared.turns.Turn.{Turn}
use Rattle.ledger_records.specs.declared.key_number.KeyNumber.{KeyNumber}
use Rattle.ledger_records.specs.declared.key_number.KeyNumber.TheVariants.{First, Second}

-- a number or a moment: eight bytes
abbrev pub number : ℕ → List ℕ
number n = to_be_bytes w64 n

-- how many bytes or items follow: four bytes
abbrev pub count : ℕ → List ℕ
count n = to_be_bytes w32 n

-- a text: how many bytes it has, and these
abbrev pub text : List ℕ → List ℕ
text bytes = count (length bytes) ++ bytes

-- an option: 0x00, or 0x01 and the value
abbrev pub option_of : {X : Type 0} → (X → List ℕ) → Option X → List ℕ
option_of spelling None = 0 ∷ []
option_of spelling (Some x) = 1 ∷ spelling x

-- a list: how many items there are, and these
abbrev pub list_of : {X : Type 0} → (X → List ℕ) → List X → List ℕ
list_of spelling items = count (length items) ++ flat_map spelling items

-- an attribute: its name, and the list of its values
abbrev pub attribute : Attribute → List ℕ
attribute a = text a.name ++ list_of text a.values

-- a provider that asks: its entity, the ID of its request, and the relay state of that request
abbrev pub asking : AskerOf → List ℕ
asking a = text a.peer ++ (text a.request ++ option_of text a.relay)

-- a turn: the provider that is asked, the name of the user, and the list of the indexes
abbrev pub turn : Turn → List ℕ
turn t = text t.peer ++ (text t.name ++ list_of text t.indexes)

-- no or yes: 0x00 or 0x01
abbrev pub flag : Bool → List ℕ
flag false = 0 ∷ []
flag true = 1 ∷ []

-- the number of a key: 0x01 or 0x02
abbrev pub key_byte : KeyNumber → ℕ
key_byte First = 1
key_byte Second = 2

-- a field
pub data Field : Type 0 where
  -- that no number was drawn
  NoNumber : Field
  Number : (n : ℕ) → Field
  Text : (bytes : List ℕ) → Field
  Optional : (bytes : Option (List ℕ)) → Field
  Texts : (items : List (List ℕ)) → Field
  Attributes : (items : List Attribute) → Field
  Asker : (asker : Option AskerOf) → Field
  Turns : (items : List Turn) → Field
  Flag : (is : Bool) → Field
  Key : (key : KeyNumber) → Field

abbrev pub field : Field → List ℕ
field NoNumber = number 0
field (Number n) = number n
field (Text bytes) = text bytes
field (Optional bytes) = option_of text bytes
field (Texts items) = list_of text items
field (Attributes items) = list_of attribute items
field (Asker a) = option_of asking a
field (Turns items) = list_of turn items
field (Flag is) = flag is
field (Key key) = key_byte key ∷ []

-- fields, one behind the other
abbrev pub bytes_of : List Field → List ℕ
bytes_of fields = flat_map field fields

-- a kind with its fields
abbrev pub of_kind : ℕ → List Field → ℕ × List Field
of_kind kind fields = (kind, fields)

-- the byte of the kind, and then the fields
abbrev pub kind_bytes : ℕ × List Field → List ℕ
kind_bytes (kind, fields) = kind ∷ bytes_of fields

-- What a field may hold: a number of eight bytes, and texts in UTF-8.
pub record IsAttribute (a : Attribute) : Type 0 where
  pub name : IsUtf8 a.name
  pub values : AllByRecursion IsUtf8 a.values

pub record IsAsking (a : AskerOf) : Type 0 where
  pub peer : IsUtf8 a.peer
  pub request : IsUtf8 a.request
  pub relay : IfSome a.relay IsUtf8

pub record IsTurn (t : Turn) : Type 0 where
  pub peer : IsUtf8 t.peer
  pub name : IsUtf8 t.name
  pub indexes : AllByRecursion IsUtf8 t.indexes

abbrev pub IsField : Field → Type 0
IsField NoNumber = Unit {0}
IsField (Number n) = n < 2 ^ 64
IsField (Text bytes) = IsUtf8 bytes
IsField (Optional bytes) = IfSome bytes IsUtf8
IsField (Texts items) = AllByRecursion IsUtf8 items
IsField (Attributes items) = AllByRecursion IsAttribute items
IsField (Asker a) = IfSome a IsAsking
IsField (Turns items) = AllByRecursion IsTurn items
IsField (Flag is) = Unit {0}
IsField (Key key) = Unit {0}

abbrev pub AreFields : List Field → Type 0
AreFields fields = AllByRecursion IsField fields
