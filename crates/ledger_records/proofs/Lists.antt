-- Lists of items, and the fields of a record.
use Rattle.std.proofs.Common.{◌≡◌, ℕ, zero, suc, ◌+◌, ◌^◌, ◌<◌, ◌≤◌, cond, eqb, List, [], ◌∷◌, ◌++◌, length, Option, Some, None, refl, sym, ap, subst, ◌∙◌, append_assoc, arith}
use Rattle.std.specs.Prelude.{map, IfSome, IsUtf8}
use Rattle.std.specs.List.{flat_map, AllByRecursion}
use Rattle.std.specs.Int.{w32, w64}
use Rattle.std.proofs.lemmas.Bool.{eqb-true}
use Rattle.std.proofs.lemmas.List.{nil_from_length, length-append}
use Rattle.owned_values.specs.declared.attributes.Attribute.{Attribute}
use Rattle.logout_turns.specs.declared.part.Asker.{Asker as AskerOf}
use Rattle.logout_turns.specs.declared.turns.Turn.{Turn}
use Rattle.ledger_records.specs.Fields.{number, count, text, option_of, list_of, attribute, asking, turn, IsAttribute, IsAsking, IsTurn, Field, NoNumber, Number, Text, Optional, Texts, Attributes, Asker, Turns, Flag, Key, field, bytes_of, IsField, AreFields}
use Rattle.ledger_records.specs.Reading.{number_at, text_at, option_at, flag_at, key_at, many_at, list_at, attribute_at, asking_at, turn_at, no_number_at, Form, NoNumberForm, NumberForm, TextForm, OptionalForm, TextsForm, AttributesForm, AskerForm, TurnsForm, FlagForm, KeyForm, as_field, field_at, fields_in, record_in}
use Rattle.ledger_records.proofs.Fronts.{IsBytes, IsBytes-rest, bind_some, test_some, some_is, Takes, Takes-then, Spelled, numbers, counts, wide32, number_again, wide64, text_spelled, flag_spelled, key_spelled, key_bytes, option_spelled}
use Rattle.owned_values.specs.Options.{◌>>=◌}

-- ---- several items

many_takes : {X : Type 0} (at : List ℕ → Option (X × List ℕ)) (spelling : X → List ℕ) (May : X → Type 0) → Spelled at spelling May → (n : ℕ) (bytes : List ℕ) (xs : List X) (rest : List ℕ) → IsBytes bytes → many_at at n bytes ≡ Some (xs, rest) → Takes bytes (flat_map spelling xs) rest × AllByRecursion May xs × (length xs ≡ n)
unfolding many_at
many_takes {X} at spelling May law zero bytes xs rest fits e =
    subst (λ (p : List X × List ℕ). Takes bytes (flat_map spelling p.0) p.1 × AllByRecursion May p.0 × (length p.0 ≡ 0)) (some_is ([], bytes) (xs, rest) e) (record { parts = refl; rest_fits = fits }, tt, refl)
many_takes {X} at spelling May law (suc n) bytes xs rest fits e =
    let a = bind_some (at bytes) (λ first. many_at at n first.1 >>= λ others. Some (first.0 ∷ others.0, others.1)) (xs, rest) e in
    let b = bind_some (many_at at n a.0.1) (λ others. Some (a.0.0 ∷ others.0, others.1)) (xs, rest) a.2 in
    let t = law.takes bytes a.0.0 a.0.1 fits a.1 in
    let u = many_takes at spelling May law n a.0.1 b.0.0 b.0.1 t.0.rest_fits b.1 in
    let both = Takes-then bytes (spelling a.0.0) a.0.1 (flat_map spelling b.0.0) b.0.1 t.0 u.0 in
    subst (λ (p : List X × List ℕ). Takes bytes (flat_map spelling p.0) p.1 × AllByRecursion May p.0 × (length p.0 ≡ suc n)) (some_is (a.0.0 ∷ b.0.0, b.0.1) (xs, rest) b.2) (both, (t.1, u.1), omega (arith, u.2))

many_again : {X : Type 0} (at : List ℕ → Option (X × List ℕ)) (spelling : X → List ℕ) (May : X → Type 0) → Spelled at spelling May → (xs : List X) (rest : List ℕ) → AllByRecursion May xs → length (flat_map spelling xs ++ rest) < 2 ^ 32 → many_at at (length xs) (flat_map spelling xs ++ rest) ≡ Some (xs, rest)
unfolding many_at
many_again at spelling May law [] rest may short = refl
many_again at spelling May law (x ∷ xs) rest may short =
    let regrouped : (spelling x ++ flat_map spelling xs) ++ rest ≡ spelling x ++ (flat_map spelling xs ++ rest) = append_assoc (spelling x) (flat_map spelling xs) rest in
    let whole : length (spelling x ++ (flat_map spelling xs ++ rest)) < 2 ^ 32 = subst (λ (bytes : List ℕ). length bytes < 2 ^ 32) regrouped short in
    let behind : length (flat_map spelling xs ++ rest) < 2 ^ 32 = omega (arith, length-append (spelling x) (flat_map spelling xs ++ rest)) in
    ap (many_at at (suc (length xs))) regrouped ∙ rw (law.again x (flat_map spelling xs ++ rest) may.0 whole, many_again at spelling May law xs rest may.1 behind) refl

-- each item takes a byte at least
length-le-flat_map : {X : Type 0} (spelling : X → List ℕ) → ((x : X) → 0 < length (spelling x)) → (xs : List X) → length xs ≤ length (flat_map spelling xs)
length-le-flat_map spelling long [] = omega arith
length-le-flat_map spelling long (x ∷ xs) = omega (arith, long x, length-le-flat_map spelling long xs, length-append (spelling x) (flat_map spelling xs))

list_takes : {X : Type 0} (at : List ℕ → Option (X × List ℕ)) (spelling : X → List ℕ) (May : X → Type 0) → Spelled at spelling May → (bytes : List ℕ) (xs : List X) (rest : List ℕ) → IsBytes bytes → list_at at bytes ≡ Some (xs, rest) → Takes bytes (list_of spelling xs) rest × AllByRecursion May xs
unfolding list_at
list_takes at spelling May law bytes xs rest fits e =
    let b = bind_some (number_at w32 bytes) (λ n. many_at at n.0 n.1) (xs, rest) e in
    let t = counts.takes bytes b.0.0 b.0.1 fits b.1 in
    let u = many_takes at spelling May law b.0.0 b.0.1 xs rest t.0.rest_fits b.2 in
    let both = Takes-then bytes (count b.0.0) b.0.1 (flat_map spelling xs) rest t.0 u.0 in
    (subst (λ (k : ℕ). Takes bytes (count k ++ flat_map spelling xs) rest) (sym u.2) both, u.1)

list_again : {X : Type 0} (at : List ℕ → Option (X × List ℕ)) (spelling : X → List ℕ) (May : X → Type 0) → Spelled at spelling May → (xs : List X) (rest : List ℕ) → AllByRecursion May xs → length (list_of spelling xs ++ rest) < 2 ^ 32 → list_at at (list_of spelling xs ++ rest) ≡ Some (xs, rest)
unfolding list_at
list_again at spelling May law xs rest may short =
    let behind : length (flat_map spelling xs ++ rest) < 2 ^ 32 = omega arith in
    let few : length xs < 2 ^ 32 = omega (arith, length-le-flat_map spelling law.long xs, length-append (flat_map spelling xs) rest) in
    rw (number_again w32 (2 ^ 32) wide32 (length xs) (flat_map spelling xs ++ rest) few) (many_again at spelling May law xs rest may behind)

list_spelled : {X : Type 0} (at : List ℕ → Option (X × List ℕ)) (spelling : X → List ℕ) (May : X → Type 0) → Spelled at spelling May → Spelled (list_at at) (list_of spelling) (AllByRecursion May)
list_spelled at spelling May law = record {
  takes = list_takes at spelling May law;
  again = list_again at spelling May law;
  long = λ xs. omega arith;
}

pub texts_spelled : Spelled (list_at text_at) (list_of text) (AllByRecursion IsUtf8)
texts_spelled = list_spelled text_at text IsUtf8 text_spelled

-- ---- attributes

attribute_takes : (bytes : List ℕ) (a : Attribute) (rest : List ℕ) → IsBytes bytes → attribute_at bytes ≡ Some (a, rest) → Takes bytes (attribute a) rest × IsAttribute a
unfolding attribute_at
attribute_takes bytes a rest fits e =
    let b = bind_some (text_at bytes) (λ name. list_at text_at name.1 >>= λ values. Some (record { name = name.0; values = values.0 }, values.1)) (a, rest) e in
    let d = bind_some (list_at text_at b.0.1) (λ values. Some (record { name = b.0.0; values = values.0 }, values.1)) (a, rest) b.2 in
    let t = text_spelled.takes bytes b.0.0 b.0.1 fits b.1 in
    let u = texts_spelled.takes b.0.1 d.0.0 d.0.1 t.0.rest_fits d.1 in
    let made : Attribute × List ℕ = (record { name = b.0.0; values = d.0.0 }, d.0.1) in
    subst (λ (p : Attribute × List ℕ). Takes bytes (attribute p.0) p.1 × IsAttribute p.0) (some_is made (a, rest) d.2) (Takes-then bytes (text b.0.0) b.0.1 (list_of text d.0.0) d.0.1 t.0 u.0, record { name = t.1; values = u.1 })

attribute_again : (a : Attribute) (rest : List ℕ) → IsAttribute a → length (attribute a ++ rest) < 2 ^ 32 → attribute_at (attribute a ++ rest) ≡ Some (a, rest)
unfolding attribute_at
attribute_again a rest may short =
    let regrouped : attribute a ++ rest ≡ text a.name ++ (list_of text a.values ++ rest) = append_assoc (text a.name) (list_of text a.values) rest in
    let whole : length (text a.name ++ (list_of text a.values ++ rest)) < 2 ^ 32 = subst (λ (bytes : List ℕ). length bytes < 2 ^ 32) regrouped short in
    let behind : length (list_of text a.values ++ rest) < 2 ^ 32 = omega (arith, length-append (text a.name) (list_of text a.values ++ rest)) in
    ap attribute_at regrouped ∙ rw (text_spelled.again a.name (list_of text a.values ++ rest) may.name whole, texts_spelled.again a.values rest may.values behind) refl

attribute_spelled : Spelled attribute_at attribute IsAttribute
attribute_spelled = record {
  takes = attribute_takes;
  again = attribute_again;
  long = λ a. omega (arith, text_spelled.long a.name, length-append (text a.name) (list_of text a.values));
}

pub attributes_spelled : Spelled (list_at attribute_at) (list_of attribute) (AllByRecursion IsAttribute)
attributes_spelled = list_spelled attribute_at attribute IsAttribute attribute_spelled

-- ---- askers

optional_spelled : Spelled (option_at text_at) (option_of text) (λ o. IfSome o IsUtf8)
optional_spelled = option_spelled text_at text IsUtf8 text_spelled

asking_takes : (bytes : List ℕ) (a : AskerOf) (rest : List ℕ) → IsBytes bytes → asking_at bytes ≡ Some (a, rest) → Takes bytes (asking a) rest × IsAsking a
unfolding asking_at
asking_takes bytes a rest fits e =
    let b = bind_some (text_at bytes) (λ peer. text_at peer.1 >>= λ request. option_at text_at request.1 >>= λ relay. Some (record { peer = peer.0; request = request.0; relay = relay.0 }, relay.1)) (a, rest) e in
    let c = bind_some (text_at b.0.1) (λ request. option_at text_at request.1 >>= λ relay. Some (record { peer = b.0.0; request = request.0; relay = relay.0 }, relay.1)) (a, rest) b.2 in
    let d = bind_some (option_at text_at c.0.1) (λ relay. Some (record { peer = b.0.0; request = c.0.0; relay = relay.0 }, relay.1)) (a, rest) c.2 in
    let t = text_spelled.takes bytes b.0.0 b.0.1 fits b.1 in
    let u = text_spelled.takes b.0.1 c.0.0 c.0.1 t.0.rest_fits c.1 in
    let v = optional_spelled.takes c.0.1 d.0.0 d.0.1 u.0.rest_fits d.1 in
    let made : AskerOf × List ℕ = (record { peer = b.0.0; request = c.0.0; relay = d.0.0 }, d.0.1) in
    let last = Takes-then b.0.1 (text c.0.0) c.0.1 (option_of text d.0.0) d.0.1 u.0 v.0 in
    subst (λ (p : AskerOf × List ℕ). Takes bytes (asking p.0) p.1 × IsAsking p.0) (some_is made (a, rest) d.2)
    (Takes-then bytes (text b.0.0) b.0.1 (text c.0.0 ++ option_of text d.0.0) d.0.1 t.0 last, record { peer = t.1; request = u.1; relay = v.1 })

asking_again : (a : AskerOf) (rest : List ℕ) → IsAsking a → length (asking a ++ rest) < 2 ^ 32 → asking_at (asking a ++ rest) ≡ Some (a, rest)
unfolding asking_at
asking_again a rest may short =
    let inner : (text a.request ++ option_of text a.relay) ++ rest ≡ text a.request ++ (option_of text a.relay ++ rest) = append_assoc (text a.request) (option_of text a.relay) rest in
    let regrouped : asking a ++ rest ≡ text a.peer ++ (text a.request ++ (option_of text a.relay ++ rest)) =
    append_assoc (text a.peer) (text a.request ++ option_of text a.relay) rest ∙ ap (λ (s : List ℕ). text a.peer ++ s) inner in
    let whole : length (text a.peer ++ (text a.request ++ (option_of text a.relay ++ rest))) < 2 ^ 32 = subst (λ (bytes : List ℕ). length bytes < 2 ^ 32) regrouped short in
    let behind : length (text a.request ++ (option_of text a.relay ++ rest)) < 2 ^ 32 = omega (arith, length-append (text a.peer) (text a.request ++ (option_of text a.relay ++ rest))) in
    let last : length (option_of text a.relay ++ rest) < 2 ^ 32 = omega (arith, length-append (text a.request) (option_of text a.relay ++ rest)) in
    ap asking_at regrouped
    ∙ rw (text_spelled.again a.peer (text a.request ++ (option_of text a.relay ++ rest)) may.peer whole, text_spelled.again a.request (option_of text a.relay ++ rest) may.request behind, optional_spelled.again a.relay rest may.relay last) refl

asking_spelled : Spelled asking_at asking IsAsking
asking_spelled = record {
  takes = asking_takes;
  again = asking_again;
  long = λ a. omega (arith, text_spelled.long a.peer, length-append (text a.peer) (text a.request ++ option_of text a.relay));
}

asker_spelled : Spelled (option_at asking_at) (option_of asking) (λ o. IfSome o IsAsking)
asker_spelled = option_spelled asking_at asking IsAsking asking_spelled

-- ---- turns

turn_takes : (bytes : List ℕ) (t : Turn) (rest : List ℕ) → IsBytes bytes → turn_at bytes ≡ Some (t, rest) → Takes bytes (turn t) rest × IsTurn t
unfolding turn_at
turn_takes bytes a rest fits e =
    let b = bind_some (text_at bytes) (λ peer. text_at peer.1 >>= λ name. list_at text_at name.1 >>= λ indexes. Some (record { peer = peer.0; name = name.0; indexes = indexes.0 }, indexes.1)) (a, rest) e in
    let c = bind_some (text_at b.0.1) (λ name. list_at text_at name.1 >>= λ indexes. Some (record { peer = b.0.0; name = name.0; indexes = indexes.0 }, indexes.1)) (a, rest) b.2 in
    let d = bind_some (list_at text_at c.0.1) (λ indexes. Some (record { peer = b.0.0; name = c.0.0; indexes = indexes.0 }, indexes.1)) (a, rest) c.2 in
    let t = text_spelled.takes bytes b.0.0 b.0.1 fits b.1 in
    let u = text_spelled.takes b.0.1 c.0.0 c.0.1 t.0.rest_fits c.1 in
    let v = texts_spelled.takes c.0.1 d.0.0 d.0.1 u.0.rest_fits d.1 in
    let made : Turn × List ℕ = (record { peer = b.0.0; name = c.0.0; indexes = d.0.0 }, d.0.1) in
    let last = Takes-then b.0.1 (text c.0.0) c.0.1 (list_of text d.0.0) d.0.1 u.0 v.0 in
    subst (λ (p : Turn × List ℕ). Takes bytes (turn p.0) p.1 × IsTurn p.0) (some_is made (a, rest) d.2)
    (Takes-then bytes (text b.0.0) b.0.1 (text c.0.0 ++ list_of text d.0.0) d.0.1 t.0 last, record { peer = t.1; name = u.1; indexes = v.1 })

turn_again : (t : Turn) (rest : List ℕ) → IsTurn t → length (turn t ++ rest) < 2 ^ 32 → turn_at (turn t ++ rest) ≡ Some (t, rest)
unfolding turn_at
turn_again a rest may short =
    let inner : (text a.name ++ list_of text a.indexes) ++ rest ≡ text a.name ++ (list_of text a.indexes ++ rest) = append_assoc (text a.name) (list_of text a.indexes) rest in
    let regrouped : turn a ++ rest ≡ text a.peer ++ (text a.name ++ (list_of text a.indexes ++ rest)) =
    append_assoc (text a.peer) (text a.name ++ list_of text a.indexes) rest ∙ ap (λ (s : List ℕ). text a.peer ++ s) inner in
    let whole : length (text a.peer ++ (text a.name ++ (list_of text a.indexes ++ rest))) < 2 ^ 32 = subst (λ (bytes : List ℕ). length bytes < 2 ^ 32) regrouped short in
    let behind : length (text a.name ++ (list_of text a.indexes ++ rest)) < 2 ^ 32 = omega (arith, length-append (text a.peer) (text a.name ++ (list_of text a.indexes ++ rest))) in
    let last : length (list_of text a.indexes ++ rest) < 2 ^ 32 = omega (arith, length-append (text a.name) (list_of text a.indexes ++ rest)) in
    ap turn_at regrouped
    ∙ rw (text_spelled.again a.peer (text a.name ++ (list_of text a.indexes ++ rest)) may.peer whole, text_spelled.again a.name (list_of text a.indexes ++ rest) may.name behind, texts_spelled.again a.indexes rest may.indexes last) refl

turn_spelled : Spelled turn_at turn IsTurn
turn_spelled = record {
  takes = turn_takes;
  again = turn_again;
  long = λ t. omega (arith, text_spelled.long t.peer, length-append (text t.peer) (text t.name ++ list_of text t.indexes));
}

turns_spelled : Spelled (list_at turn_at) (list_of turn) (AllByRecursion IsTurn)
turns_spelled = list_spelled turn_at turn IsTurn turn_spelled

-- ---- fields

abbrev pub form_of : Field → Form
form_of NoNumber = NoNumberForm
form_of (Number n) = NumberForm
form_of (Text bytes) = TextForm
form_of (Optional bytes) = OptionalForm
form_of (Texts items) = TextsForm
form_of (Attributes items) = AttributesForm
form_of (Asker a) = AskerForm
form_of (Turns items) = TurnsForm
form_of (Flag is) = FlagForm
form_of (Key key) = KeyForm

-- what a reader of values takes is a field
taken : {X : Type 0} (at : List ℕ → Option (X × List ℕ)) (spelling : X → List ℕ) (May : X → Type 0) → Spelled at spelling May → (make : X → Field) → ((x : X) → field (make x) ≡ spelling x) → ((x : X) → May x → IsField (make x)) → (bytes : List ℕ) (f : Field) (rest : List ℕ) → IsBytes bytes → (at bytes >>= as_field make) ≡ Some (f, rest) → Takes bytes (field f) rest × IsField f
taken {X} at spelling May law make is may bytes f rest fits e =
    let b = bind_some (at bytes) (as_field make) (f, rest) e in
    let t = law.takes bytes b.0.0 b.0.1 fits b.1 in
    let front : Takes bytes (field (make b.0.0)) b.0.1 = subst (λ (s : List ℕ). Takes bytes s b.0.1) (sym (is b.0.0)) t.0 in
    subst (λ (p : Field × List ℕ). Takes bytes (field p.0) p.1 × IsField p.0) (some_is (make b.0.0, b.0.1) (f, rest) b.2) (front, may b.0.0 t.1)

no_number_takes : (bytes : List ℕ) (f : Field) (rest : List ℕ) → IsBytes bytes → no_number_at bytes ≡ Some (f, rest) → Takes bytes (field f) rest × IsField f
unfolding no_number_at
no_number_takes bytes f rest fits e =
    let b = bind_some (number_at w64 bytes) (λ n. cond (eqb n.0 0) (Some (NoNumber, n.1)) None) (f, rest) e in
    let t = numbers.takes bytes b.0.0 b.0.1 fits b.1 in
    let u = test_some (eqb b.0.0 0) (NoNumber, b.0.1) (f, rest) b.2 in
    let zero_is : b.0.0 ≡ 0 = eqb-true b.0.0 0 u.0 in
    let front : Takes bytes (number 0) b.0.1 = subst (λ (n : ℕ). Takes bytes (number n) b.0.1) zero_is t.0 in
    subst (λ (p : Field × List ℕ). Takes bytes (field p.0) p.1 × IsField p.0) u.1 (front, tt)

field_takes : (form : Form) (bytes : List ℕ) (f : Field) (rest : List ℕ) → IsBytes bytes → field_at form bytes ≡ Some (f, rest) → Takes bytes (field f) rest × IsField f
field_takes NoNumberForm = no_number_takes
field_takes NumberForm = taken (number_at w64) number (λ n. n < 2 ^ 64) numbers Number (λ n. refl) (λ n may. may)
field_takes TextForm = taken text_at text IsUtf8 text_spelled Text (λ t. refl) (λ t may. may)
field_takes OptionalForm = taken (option_at text_at) _ _ optional_spelled Optional (λ t. refl) (λ t may. may)
field_takes TextsForm = taken (list_at text_at) (list_of text) _ texts_spelled Texts (λ t. refl) (λ t may. may)
field_takes AttributesForm = taken (list_at attribute_at) (list_of attribute) _ attributes_spelled Attributes (λ t. refl) (λ t may. may)
field_takes AskerForm = taken (option_at asking_at) (option_of asking) _ asker_spelled Asker (λ t. refl) (λ t may. may)
field_takes TurnsForm = taken (list_at turn_at) (list_of turn) _ turns_spelled Turns (λ t. refl) (λ t may. may)
field_takes FlagForm = taken flag_at _ (λ _. Unit {0}) flag_spelled Flag (λ t. refl) (λ t may. may)
field_takes KeyForm = taken key_at key_bytes (λ _. Unit {0}) key_spelled Key (λ t. refl) (λ t may. may)

given : {X : Type 0} (make : X → Field) (x : X) (rest : List ℕ) (front : Option (X × List ℕ)) → front ≡ Some (x, rest) → (front >>= as_field make) ≡ Some (make x, rest)
given make x rest front e = ap (λ f. f >>= as_field make) e

field_again : (f : Field) (rest : List ℕ) → IsField f → length (field f ++ rest) < 2 ^ 32 → field_at (form_of f) (field f ++ rest) ≡ Some (f, rest)
unfolding no_number_at
field_again NoNumber rest may short = rw (number_again w64 (2 ^ 64) wide64 0 rest (omega arith)) refl
field_again (Number n) rest may short = given Number n rest _ (numbers.again n rest may short)
field_again (Text t) rest may short = given Text t rest _ (text_spelled.again t rest may short)
field_again (Optional t) rest may short = given Optional t rest _ (optional_spelled.again t rest may short)
field_again (Texts t) rest may short = given Texts t rest _ (texts_spelled.again t rest may short)
field_again (Attributes t) rest may short = given Attributes t rest _ (attributes_spelled.again t rest may short)
field_again (Asker t) rest may short = given Asker t rest _ (asker_spelled.again t rest may short)
field_again (Turns t) rest may short = given Turns t rest _ (turns_spelled.again t rest may short)
field_again (Flag t) rest may short = given Flag t rest _ (flag_spelled.again t rest tt short)
field_again (Key t) rest may short = given Key t rest _ (key_spelled.again t rest tt short)

-- ---- all fields

pub fields_takes : (forms : List Form) (bytes : List ℕ) (fs : List Field) → IsBytes bytes → fields_in forms bytes ≡ Some fs → (bytes ≡ bytes_of fs) × AreFields fs
fields_takes [] bytes fs fits e =
    let u = test_some (eqb (length bytes) 0) [] fs e in
    let ends : bytes ≡ [] = nil_from_length bytes (eqb-true (length bytes) 0 u.0) in
    subst (λ (p : List Field). (bytes ≡ bytes_of p) × AreFields p) u.1 (ends, tt)
fields_takes (form ∷ forms) bytes fs fits e =
    let a = bind_some (field_at form bytes) (λ first. fields_in forms first.1 >>= λ others. Some (first.0 ∷ others)) fs e in
    let b = bind_some (fields_in forms a.0.1) (λ others. Some (a.0.0 ∷ others)) fs a.2 in
    let t = field_takes form bytes a.0.0 a.0.1 fits a.1 in
    let u = fields_takes forms a.0.1 b.0 t.0.rest_fits b.1 in
    let whole : bytes ≡ field a.0.0 ++ bytes_of b.0 = t.0.parts ∙ ap (λ (s : List ℕ). field a.0.0 ++ s) u.0 in
    subst (λ (p : List Field). (bytes ≡ bytes_of p) × AreFields p) (some_is (a.0.0 ∷ b.0) fs b.2) (whole, (t.1, u.1))

pub fields_again : (fs : List Field) → AreFields fs → length (bytes_of fs) < 2 ^ 32 → fields_in (map form_of fs) (bytes_of fs) ≡ Some fs
fields_again [] may short = refl
fields_again (f ∷ fs) may short =
    let behind : length (bytes_of fs) < 2 ^ 32 = omega (arith, length-append (field f) (bytes_of fs)) in
    rw (field_again f (bytes_of fs) may.0 short, fields_again fs may.1 behind) refl

-- ---- a payload

pub record_takes : (forms : ℕ → Option (List Form)) (payload : List ℕ) (kind : ℕ) (fs : List Field) → IsBytes payload → record_in forms payload ≡ Some (kind, fs) → (payload ≡ kind ∷ bytes_of fs) × AreFields fs
record_takes forms [] kind fs fits e = absurd cc
record_takes forms (b ∷ rest) kind fs fits e =
    let a = bind_some (forms b) (λ found. fields_in found rest >>= λ fields. Some (b, fields)) (kind, fs) e in
    let d = bind_some (fields_in a.0 rest) (λ fields. Some (b, fields)) (kind, fs) a.2 in
    let u = fields_takes a.0 rest d.0 (IsBytes-rest b rest fits) d.1 in
    subst (λ (p : ℕ × List Field). (b ∷ rest ≡ p.0 ∷ bytes_of p.1) × AreFields p.1) (some_is (b, d.0) (kind, fs) d.2) (ap (λ (s : List ℕ). b ∷ s) u.0, u.1)

pub record_again : (forms : ℕ → Option (List Form)) (payload : List ℕ) (kind : ℕ) (fs : List Field) → forms kind ≡ Some (map form_of fs) → payload ≡ kind ∷ bytes_of fs → length payload < 2 ^ 32 → AreFields fs → record_in forms payload ≡ Some (kind, fs)
record_again forms payload kind fs forms_are spelled short may =
    let lens : length payload ≡ length (bytes_of fs) + 1 = ap length spelled ∙ omega arith in
    let behind : length (bytes_of fs) < 2 ^ 32 = omega arith in
    ap (record_in forms) spelled ∙ rw (forms_are, fields_again fs may behind) refl
