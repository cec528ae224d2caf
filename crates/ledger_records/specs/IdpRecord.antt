-- The records of an identity provider. A payload is a kind byte, the first number that the record draws, the moment,
-- and then the fields of its kind in order. Nothing follows.
use Rattle.std.specs.Prelude.{◌≡◌, ℕ, ◌<◌, ◌^◌, List, [], ◌∷◌, length}
use Rattle.ledger_records.specs.declared.idp_record.Issued.{Issued}
use Rattle.ledger_records.specs.declared.idp_round.Round.{Round}
use Rattle.ledger_records.specs.declared.idp_record.IdpRecord.{IdpRecord}
use Rattle.ledger_records.specs.declared.idp_record.IdpRecord.TheVariants as kinds
use Rattle.ledger_records.specs.Fields.{Field, NoNumber, Number, Text, Optional, Texts, Attributes, Asker, Turns, Flag, of_kind, kind_bytes, AreFields}

-- kind 12
abbrev pub issued : Issued → List Field
issued r =
    Number r.first ∷ Number r.moment ∷ Optional r.pending ∷ Text r.cookie ∷ Text r.index ∷ Number r.session_end
    ∷ Text r.assertion ∷ Text r.message ∷ Text r.user ∷ Text r.peer ∷ Text r.consumer ∷ Text r.request
    ∷ Optional r.relay ∷ Number r.until ∷ Attributes r.attributes ∷ []

-- kind 17
abbrev pub round : Round → List Field
round r =
    Number r.first ∷ Number r.moment ∷ Number r.until ∷ Text r.message ∷ Text r.request ∷ Texts r.cookies
    ∷ Asker r.asker ∷ Turns r.turns ∷ Flag r.skipped ∷ []

-- the kind of a record, and the fields behind it; a Confirmed draws no number, and the first number of a Told is that
-- of the next request, and 0 where there is none
abbrev pub idp_parts : IdpRecord → ℕ × List Field
idp_parts (kinds.Pending r) = of_kind 11 (
    Number r.first ∷ Number r.moment ∷ Number r.until ∷ Text r.pending ∷ Text r.request ∷ Text r.peer
    ∷ Text r.consumer ∷ Optional r.relay ∷ [])
idp_parts (kinds.Issued r) = of_kind 12 (issued r)
idp_parts (kinds.Ended r) = of_kind 13 (
    Number r.first ∷ Number r.moment ∷ Texts r.cookies ∷ Text r.message ∷ Text r.request ∷ Text r.peer
    ∷ Flag r.partial ∷ [])
idp_parts (kinds.Left r) = of_kind 14 (
    Number r.first ∷ Number r.moment ∷ Number r.until ∷ Text r.cookie ∷ Text r.request ∷ Text r.peer ∷ [])
idp_parts (kinds.Confirmed r) = of_kind 15 (NoNumber ∷ Number r.moment ∷ Text r.request ∷ [])
idp_parts (kinds.Spoke r) = of_kind 16 (
    Number r.first ∷ Number r.moment ∷ Text r.message ∷ Text r.request ∷ Text r.peer ∷ [])
idp_parts (kinds.Round r) = of_kind 17 (round r)
idp_parts (kinds.Told r) = of_kind 18 (
    Number r.first ∷ Number r.moment ∷ Text r.request ∷ Flag r.confirmed ∷ Optional r.next ∷ [])

-- the bytes of a record
abbrev pub idp_bytes : IdpRecord → List ℕ
idp_bytes r = kind_bytes (idp_parts r)

-- The payload is the bytes of this record. A journal keeps the length of a payload in four bytes.
pub record IsIdpPayload (payload : List ℕ) (r : IdpRecord) : Type 0 where
  pub spelled : payload ≡ idp_bytes r
  pub short : length payload < 2 ^ 32
  pub fields : AreFields (idp_parts r).1
