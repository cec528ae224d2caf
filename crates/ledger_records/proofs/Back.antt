-- The record that is found in a payload is the one whose bytes the payload is.
use Rattle.std.proofs.Common.{◌≡◌, ℕ, ◌<◌, ◌^◌, ◌⊎◌, inl, inr, length, Bool, true, false, cond, eqb, nat_lt, List, [], ◌∷◌, Option, Some, None, refl, sym, ap, subst, ◌∙◌, arith}
use Rattle.std.specs.List.{All}
use Rattle.std.specs.Int.{w64}
use Rattle.std.proofs.lemmas.Bool.{cases_lt, ltb-true, eqb-true}
use Rattle.std.proofs.lemmas.List.{get_or_past}
use Rattle.std.proofs.lemmas.List.Elements.{All-get_or}
use Rattle.owned_values.specs.declared.attributes.Attribute.{Attribute}
use Rattle.logout_turns.specs.declared.part.Asker.{Asker as AskerOf}
use Rattle.logout_turns.specs.declared.turns.Turn.{Turn}
use Rattle.ledger_records.specs.declared.key_number.KeyNumber.{KeyNumber}
use Rattle.ledger_records.specs.Fields.{Field, NoNumber, Number, Text, Optional, Texts, Attributes, Asker, Turns, Flag, Key}
use Rattle.ledger_records.specs.Reading.{number_at, text_at, option_at, flag_at, key_at, list_at, attribute_at, asking_at, turn_at, no_number_at, Form, NoNumberForm, NumberForm, TextForm, OptionalForm, TextsForm, AttributesForm, AskerForm, TurnsForm, FlagForm, KeyForm, as_field, field_at, fields_in, record_in}
use Rattle.ledger_records.specs.Found.{found_in}
use Rattle.ledger_records.proofs.Fronts.{IsBytes, bind_some, test_some, some_is}
use Rattle.owned_values.specs.Options.{◌>>=◌}

-- ---- bytes

pub bytes_each : (payload : List ℕ) → All (λ b. b < 256) payload → IsBytes payload
bytes_each payload all i =
    elim (cases_lt i (length payload)) [
      | inl lt ↦ All-get_or (λ b. b < 256) payload i 0 lt all
      | inr le ↦ rw (get_or_past payload i 0 le) (omega arith)
    ]

-- ---- fields of given forms

-- what a field of a form holds
abbrev Value : Form → Type 0
Value NoNumberForm = Unit {0}
Value NumberForm = ℕ
Value TextForm = List ℕ
Value OptionalForm = Option (List ℕ)
Value TextsForm = List (List ℕ)
Value AttributesForm = List Attribute
Value AskerForm = Option AskerOf
Value TurnsForm = List Turn
Value FlagForm = Bool
Value KeyForm = KeyNumber

abbrev with_value : (form : Form) → Value form → Field
with_value NoNumberForm v = NoNumber
with_value NumberForm v = Number v
with_value TextForm v = Text v
with_value OptionalForm v = Optional v
with_value TextsForm v = Texts v
with_value AttributesForm v = Attributes v
with_value AskerForm v = Asker v
with_value TurnsForm v = Turns v
with_value FlagForm v = Flag v
with_value KeyForm v = Key v

abbrev pub Values : List Form → Type 0
Values [] = Unit {0}
Values (form ∷ forms) = Value form × Values forms

abbrev pub with_values : (forms : List Form) → Values forms → List Field
with_values [] vs = []
with_values (form ∷ forms) vs = with_value form vs.0 ∷ with_values forms vs.1

made : {X : Type 0} (make : X → Field) (front : Option (X × List ℕ)) (f : Field) (rest : List ℕ)
    → (front >>= as_field make) ≡ Some (f, rest) → (x : X) × (f ≡ make x)
made {X} make front f rest e =
    let b = bind_some front (as_field make) (f, rest) e in
    (b.0.0, sym (ap (λ (p : Field × List ℕ). p.0) (some_is (make b.0.0, b.0.1) (f, rest) b.2)))

no_number : (bytes : List ℕ) (f : Field) (rest : List ℕ) → no_number_at bytes ≡ Some (f, rest) → f ≡ NoNumber
unfolding no_number_at
no_number bytes f rest e =
    let b = bind_some (number_at w64 bytes) (λ n. cond (eqb n.0 0) (Some (NoNumber, n.1)) None) (f, rest) e in
    let u = test_some (eqb b.0.0 0) (NoNumber, b.0.1) (f, rest) b.2 in
    sym (ap (λ (p : Field × List ℕ). p.0) u.1)

-- what is read as a form holds a value of it
field_has : (form : Form) (bytes : List ℕ) (f : Field) (rest : List ℕ) → field_at form bytes ≡ Some (f, rest)
    → (v : Value form) × (f ≡ with_value form v)
field_has NoNumberForm bytes f rest e = (tt, no_number bytes f rest e)
field_has NumberForm bytes f rest e = made Number (number_at w64 bytes) f rest e
field_has TextForm bytes f rest e = made Text (text_at bytes) f rest e
field_has OptionalForm bytes f rest e = made Optional (option_at text_at bytes) f rest e
field_has TextsForm bytes f rest e = made Texts (list_at text_at bytes) f rest e
field_has AttributesForm bytes f rest e = made Attributes (list_at attribute_at bytes) f rest e
field_has AskerForm bytes f rest e = made Asker (option_at asking_at bytes) f rest e
field_has TurnsForm bytes f rest e = made Turns (list_at turn_at bytes) f rest e
field_has FlagForm bytes f rest e = made Flag (flag_at bytes) f rest e
field_has KeyForm bytes f rest e = made Key (key_at bytes) f rest e

fields_have : (forms : List Form) (bytes : List ℕ) (fs : List Field) → fields_in forms bytes ≡ Some fs
    → (vs : Values forms) × (fs ≡ with_values forms vs)
fields_have [] bytes fs e = (tt, sym (test_some (eqb (length bytes) 0) [] fs e).1)
fields_have (form ∷ forms) bytes fs e =
    let a =
    bind_some (field_at form bytes) (λ first. fields_in forms first.1 >>= λ others. Some (first.0 ∷ others)) fs e in
    let b = bind_some (fields_in forms a.0.1) (λ others. Some (a.0.0 ∷ others)) fs a.2 in
    let first = field_has form bytes a.0.0 a.0.1 a.1 in
    let others = fields_have forms a.0.1 b.0 b.1 in
    let is : fs ≡ a.0.0 ∷ b.0 = sym (some_is (a.0.0 ∷ b.0) fs b.2) in
    let front : a.0.0 ∷ b.0 ≡ with_value form first.0 ∷ b.0 = ap (λ (f : Field). f ∷ b.0) first.1 in
    ((first.0, others.0), is ∙ (front ∙ ap (λ (gs : List Field). with_value form first.0 ∷ gs) others.1))

-- ---- a payload

-- what is read as a record has a kind, and values of its forms
pub record Read (forms : ℕ → Option (List Form)) (kind : ℕ) (fs : List Field) : Type 0 where
  pub found : List Form
  pub are : forms kind ≡ Some found
  pub values : Values found
  pub fields : fs ≡ with_values found values

pub is_read_so : (forms : ℕ → Option (List Form)) (payload : List ℕ) (kind : ℕ) (fs : List Field)
    → record_in forms payload ≡ Some (kind, fs) → Read forms kind fs
is_read_so forms [] kind fs e = absurd cc
is_read_so forms (b ∷ rest) kind fs e =
    let a = bind_some (forms b) (λ found. fields_in found rest >>= λ fields. Some (b, fields)) (kind, fs) e in
    let d = bind_some (fields_in a.0 rest) (λ fields. Some (b, fields)) (kind, fs) a.2 in
    let h = fields_have a.0 rest d.0 d.1 in
    let same = some_is (b, d.0) (kind, fs) d.2 in
    let kinds : b ≡ kind = ap (λ (p : ℕ × List Field). p.0) same in
    let fields : d.0 ≡ fs = ap (λ (p : ℕ × List Field). p.1) same in
    record { found = a.0; are = ap forms (sym kinds) ∙ a.1; values = h.0; fields = sym fields ∙ h.1 }

-- A payload in which a record is found is short, and read as a kind and fields of which it is the record.
pub record Parted {R : Type 0} (forms : ℕ → Option (List Form)) (from : List Field → Option R)
    (payload : List ℕ) (r : R) : Type 0 where
  pub short : length payload < 2 ^ 32
  pub kind : ℕ
  pub fields : List Field
  pub read : record_in forms payload ≡ Some (kind, fields)
  pub is : from fields ≡ Some r

within : {R : Type 0} (b : Bool) (o : Option R) (r : R) → cond b o None ≡ Some r → (b ≡ true) × (o ≡ Some r)
within true o r e = (refl, e)
within false o r e = absurd cc

pub is_parted : {R : Type 0} (forms : ℕ → Option (List Form)) (from : List Field
    → Option R) (payload : List ℕ) (r : R) → found_in forms from payload ≡ Some r → Parted forms from payload r
is_parted {R} forms from payload r e =
    let w = within (nat_lt (length payload) (2 ^ 32)) (record_in forms payload >>= λ found. from found.1) r e in
    let b = bind_some (record_in forms payload) (λ found. from found.1) r w.1 in
    record { short = ltb-true (length payload) (2 ^ 32) w.0; kind = b.0.0; fields = b.0.1; read = b.1; is = b.2 }

-- ---- the kinds of a role, of which each is asked about in turn

pub either_kind : {A : Type 0} (kind n : ℕ) (x y : Option A) (z : A) → cond (eqb kind n) x y ≡ Some z
    → ((kind ≡ n) × (x ≡ Some z)) ⊎ (y ≡ Some z)
either_kind {A} kind n x y z e = go (eqb kind n) refl e
  where
    go : (b : Bool) → eqb kind n ≡ b → cond b x y ≡ Some z → ((kind ≡ n) × (x ≡ Some z)) ⊎ (y ≡ Some z)
    go true is h = inl (eqb-true kind n is, h)
    go false is h = inr h

-- ---- the record of values

-- The values of these forms are those of a record of this kind: `Has` says that it has the kind and the fields.
abbrev pub Back : {R : Type 0} → (List Field → Option R) → (ℕ → List Field → R → Type 0) → ℕ → List Form → Type 0
Back {R} from Has kind forms =
    (vs : Values forms) (r : R) → from (with_values forms vs) ≡ Some r → Has kind (with_values forms vs) r

pub at_kind : {R : Type 0} (from : List Field → Option R) (Has : ℕ → List Field → R
    → Type 0) (kind n : ℕ) (forms found : List Form)
    → kind ≡ n → Some forms ≡ Some found → Back from Has n forms → Back from Has kind found
at_kind {R} from Has kind n forms found kinds same back =
    subst (λ (k : ℕ). Back from Has k found) (sym kinds)
    (subst (λ (fs : List Form). Back from Has n fs) (some_is forms found same) back)
