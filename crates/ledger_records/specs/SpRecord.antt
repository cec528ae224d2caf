-- The records of a service provider. A payload is a kind byte, the first number that the record draws, the moment, and
-- then the fields of its kind in order. Nothing follows.
use Rattle.std.specs.Prelude.{◌≡◌, ℕ, ◌<◌, ◌^◌, ◌==◌, if◌then◌else◌, List, [], ◌∷◌, length}
use Rattle.ledger_records.specs.declared.key_number.KeyNumber.{KeyNumber}
use Rattle.ledger_records.specs.declared.key_number.KeyNumber.TheVariants.{First}
use Rattle.ledger_records.specs.declared.sp_record.SpRecord.{SpRecord}
use Rattle.ledger_records.specs.declared.sp_record.SpRecord.TheVariants as kinds
use Rattle.ledger_records.specs.Fields.{Field, NoNumber, Number, Text, Optional, Texts, Attributes, Key, of_kind, kind_bytes, AreFields}

-- the key, which a journal of version 1 does not keep
abbrev pub key_in : ℕ → KeyNumber → List Field
key_in version key = if version == 1 then [] else Key key ∷ []

-- the kind of a record, and the fields behind it; a Confirmed draws no number
abbrev pub sp_parts : ℕ → SpRecord → ℕ × List Field
sp_parts version (kinds.Asked r) = of_kind 1 (
    Number r.first ∷ Number r.moment ∷ Number r.until ∷ Text r.target ∷ Text r.request ∷ Text r.relay ∷ [])
sp_parts version (kinds.Opened r) = of_kind 2 (
    Number r.first ∷ Number r.moment ∷ Number r.until ∷ Text r.request ∷ Text r.issuer ∷ Text r.assertion
    ∷ Number r.assertion_until ∷ Text r.token ∷ Text r.name ∷ Optional r.index ∷ Attributes r.attributes
    ∷ key_in version r.key)
sp_parts version (kinds.Left r) = of_kind 3 (
    Number r.first ∷ Number r.moment ∷ Number r.until ∷ Text r.token ∷ Text r.request ∷ [])
sp_parts version (kinds.Ended r) = of_kind 4 (
    Number r.first ∷ Number r.moment ∷ Texts r.tokens ∷ Text r.message ∷ Text r.request ∷ [])
sp_parts version (kinds.Confirmed r) = of_kind 5 (NoNumber ∷ Number r.moment ∷ Text r.request ∷ [])

-- the bytes of a record in a journal of this version
abbrev pub sp_bytes : ℕ → SpRecord → List ℕ
sp_bytes version r = kind_bytes (sp_parts version r)

-- In a journal of version 1 the key is the first one.
abbrev pub IsOfVersion : ℕ → SpRecord → Type 0
IsOfVersion version (kinds.Opened r) = version ≡ 1 → r.key ≡ First
IsOfVersion version (kinds.Asked r) = Unit {0}
IsOfVersion version (kinds.Left r) = Unit {0}
IsOfVersion version (kinds.Ended r) = Unit {0}
IsOfVersion version (kinds.Confirmed r) = Unit {0}

-- The payload is the bytes of this record. A journal keeps the length of a payload in four bytes.
pub record IsSpPayload (version : ℕ) (payload : List ℕ) (r : SpRecord) : Type 0 where
  pub spelled : payload ≡ sp_bytes version r
  pub short : length payload < 2 ^ 32
  pub fields : AreFields (sp_parts version r).1
  pub key : IsOfVersion version r
