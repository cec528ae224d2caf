-- The pieces of a line are made of visible characters.
use Rattle.std.specs.Prelude.{nat_le, nat_lt, ◌==◌, if◌then◌else◌, Bool, true, false, Option, None, Some, codes, take}
use Rattle.std.specs.List.{flat_map, list_all}
use Rattle.std.specs.Fmt.{digit_glyph, digits, digits_onto, decimal}
use Rattle.std.proofs.Common.{◌≡◌, ℕ, zero, suc, ◌+◌, ◌/◌, ◌%◌, ◌≤◌, List, [], ◌∷◌, ◌++◌, map, refl, sym, ap, ◌∙◌, arith, inl, inr, append_assoc}
use Rattle.std.proofs.lemmas.Bool.{cases_Bool, and_parts, and_from, le-leb}
use Rattle.std.proofs.lemmas.Grind.{flat_map-append}
use Rattle.std.proofs.lemmas.List.Folds.{list_all-append}
use Rattle.owned_values.specs.declared.attributes.Attribute.{Attribute}
use Rattle.logout_turns.specs.declared.part.Asker.{Asker as AskerOf}
use Rattle.logout_turns.specs.declared.turns.Turn.{Turn}
use Rattle.saml_time.specs.declared.TheConstants.{LAST}
use Rattle.saml_time.specs.Instant.{Day, Clock, Instant, digit, two_digits, four_digits, print, print_day, print_clock, print_digits, print_fraction}
use Rattle.ledger_records.specs.declared.sp_record.SpRecord.{SpRecord}
use Rattle.ledger_records.specs.declared.sp_record.SpRecord.TheVariants as sp
use Rattle.ledger_records.specs.declared.idp_record.IdpRecord.{IdpRecord}
use Rattle.ledger_records.specs.declared.idp_record.IdpRecord.TheVariants as idp
use Rattle.ledger_records.specs.declared.hub_record.HubRecord.{HubRecord}
use Rattle.ledger_records.specs.declared.hub_record.HubRecord.TheVariants as hub
use Rattle.record_lines.specs.Escapes.{backslash, is_plain, hex_digit, coded_byte, escaped_byte, escaped, escaped_name_byte, escaped_name}
use Rattle.record_lines.specs.Instants.{instant_at, instant}
use Rattle.record_lines.specs.Laws.{is_visible, IsOneLine}
use Rattle.record_lines.specs.Lines.{Field, Moment, Number, Text, MaybeText, Secret, MaybeSecret, Secrets, Attributes, Asker, Turns, turn_pieces, named, text_piece, secret_piece, attribute_name, value_pieces, pieces, spaced, shown, line, asked, opened, left, ended, confirmed, sp_line, pending, issued, idp_ended, idp_left, idp_confirmed, round, told, spoke, idp_line}
use Rattle.record_lines.specs.HubLines.{routed, backed, hub_spoke, hub_line}

-- ---- texts of visible characters

abbrev AreVisible : List ℕ → Type 0
AreVisible xs = list_all is_visible xs ≡ true

visible : (b : ℕ) → 33 ≤ b → b ≤ 126 → is_visible b ≡ true
visible b h k = and_from _ _ (le-leb _ _ h) (le-leb _ _ k)

cons : (b : ℕ) (xs : List ℕ) → is_visible b ≡ true → AreVisible xs → AreVisible (b ∷ xs)
cons b xs h k = and_from _ _ h k

both : (xs ys : List ℕ) → AreVisible xs → AreVisible ys → AreVisible (xs ++ ys)
both xs ys h k = list_all-append is_visible xs ys ∙ and_from _ _ h k

either : (b : Bool) (xs ys : List ℕ) → AreVisible xs → AreVisible ys → AreVisible (if b then xs else ys)
either true xs ys h k = h
either false xs ys h k = k

either_byte : (b : Bool) (x y : ℕ) → is_visible x ≡ true → is_visible y ≡ true → is_visible (if b then x else y) ≡ true
either_byte true x y h k = h
either_byte false x y h k = k

each : (f : ℕ → List ℕ) → ((b : ℕ) → AreVisible (f b)) → (xs : List ℕ) → AreVisible (flat_map f xs)
each f h [] = refl
each f h (x ∷ xs) = both (f x) (flat_map f xs) (h x) (each f h xs)

-- ---- what is put of a text

hex_visible : (n : ℕ) → is_visible (hex_digit (n % 16)) ≡ true
hex_visible n = either_byte (nat_le 10 (n % 16)) (87 + n % 16) (48 + n % 16) (visible (87 + n % 16) (omega arith) (omega arith)) (visible (48 + n % 16) (omega arith) (omega arith))

coded_visible : (b : ℕ) → AreVisible (coded_byte b)
coded_visible b =
    let high = hex_digit (b / 16 % 16) in
    let low = hex_digit (b % 16) in
    cons backslash (high ∷ low ∷ []) refl (cons high (low ∷ []) (hex_visible (b / 16)) (cons low [] (hex_visible b) refl))

byte_visible : (b : ℕ) → AreVisible (escaped_byte b)
byte_visible b =
    elim (cases_Bool (is_plain b)) [
      | inl plain ↦ rw plain (cons b [] (and_parts _ _ plain).0 refl)
      | inr coded ↦ rw coded (coded_visible b)
    ]

escaped_visible : (text : List ℕ) → AreVisible (escaped text)
escaped_visible text = each escaped_byte byte_visible text

name_visible : (name : List ℕ) → AreVisible (escaped_name name)
name_visible name = each escaped_name_byte (λ b. either _ (coded_byte b) (escaped_byte b) (coded_visible b) (byte_visible b)) name

-- ---- numbers and instants

digits_visible : (k n : ℕ) (acc : List ℕ) → AreVisible acc → AreVisible (digits_onto k 10 false n acc)
digits_visible zero n acc h = h
digits_visible (suc k) n acc h =
    let digit : is_visible (digit_glyph false (n % 10)) ≡ true =
    either_byte (nat_lt (n % 10) 10) (48 + n % 10) (87 + n % 10) (visible (48 + n % 10) (omega arith) (omega arith)) (visible (87 + n % 10) (omega arith) (omega arith)) in
    let more = cons (digit_glyph false (n % 10)) acc digit h in
    either (n / 10 == 0) (digit_glyph false (n % 10) ∷ acc) (digits_onto k 10 false (n / 10) (digit_glyph false (n % 10) ∷ acc)) more (digits_visible k (n / 10) (digit_glyph false (n % 10) ∷ acc) more)

decimal_visible : (n : ℕ) → AreVisible (decimal n)
unfolding digits
decimal_visible n = digits_visible 64 n [] refl

digit_visible : (n : ℕ) → is_visible (48 + n % 10) ≡ true
digit_visible n = visible (48 + n % 10) (omega arith) (omega arith)

two_visible : (n : ℕ) → AreVisible (two_digits n)
two_visible n = cons (digit n 10) (digit n 1 ∷ []) (digit_visible (n / 10)) (cons (digit n 1) [] (digit_visible (n / 1)) refl)

four_visible : (n : ℕ) → AreVisible (four_digits n)
four_visible n =
    cons (digit n 1000) (digit n 100 ∷ digit n 10 ∷ digit n 1 ∷ []) (digit_visible (n / 1000))
    (cons (digit n 100) (digit n 10 ∷ digit n 1 ∷ []) (digit_visible (n / 100)) (two_visible n))

day_visible : (d : Day) → AreVisible (print_day d)
day_visible d =
    both (four_digits d.year ++ codes "-" ++ two_digits d.month ++ codes "-") (two_digits d.day)
    (both (four_digits d.year ++ codes "-" ++ two_digits d.month) (codes "-")
    (both (four_digits d.year ++ codes "-") (two_digits d.month) (both (four_digits d.year) (codes "-") (four_visible d.year) refl) (two_visible d.month)) refl)
    (two_visible d.day)

clock_visible : (c : Clock) → AreVisible (print_clock c)
clock_visible c =
    both (two_digits c.hour ++ codes ":" ++ two_digits c.minute ++ codes ":") (two_digits c.second)
    (both (two_digits c.hour ++ codes ":" ++ two_digits c.minute) (codes ":")
    (both (two_digits c.hour ++ codes ":") (two_digits c.minute) (both (two_digits c.hour) (codes ":") (two_visible c.hour) refl) (two_visible c.minute)) refl)
    (two_visible c.second)

digit_texts_visible : (digits : List ℕ) → AreVisible (print_digits digits)
digit_texts_visible [] = refl
digit_texts_visible (n ∷ digits) = cons (digit n 1) (print_digits digits) (digit_visible (n / 1)) (digit_texts_visible digits)

fraction_visible : (fraction : Option (List ℕ)) → AreVisible (print_fraction fraction)
fraction_visible None = refl
fraction_visible (Some digits) = both (codes ".") (print_digits digits) refl (digit_texts_visible digits)

print_visible : (i : Instant) → AreVisible (print i)
print_visible i =
    both (print_day i.day ++ codes "T" ++ print_clock i.clock ++ print_fraction i.fraction) (codes "Z")
    (both (print_day i.day ++ codes "T" ++ print_clock i.clock) (print_fraction i.fraction)
    (both (print_day i.day ++ codes "T") (print_clock i.clock) (both (print_day i.day) (codes "T") (day_visible i.day) refl) (clock_visible i.clock)) (fraction_visible i.fraction)) refl

instant_visible : (ms : ℕ) → AreVisible (instant ms)
instant_visible ms = either (nat_le ms LAST) (print (instant_at ms)) (decimal ms) (print_visible (instant_at ms)) (decimal_visible ms)

-- ---- pieces

abbrev AllVisible : List (List ℕ) → Type 0
AllVisible pieces = list_all (λ piece. list_all is_visible piece) pieces ≡ true

all_both : (ps qs : List (List ℕ)) → AllVisible ps → AllVisible qs → AllVisible (ps ++ qs)
all_both ps qs h k = list_all-append (λ piece. list_all is_visible piece) ps qs ∙ and_from _ _ h k

all_cons : (p : List ℕ) (ps : List (List ℕ)) → AreVisible p → AllVisible ps → AllVisible (p ∷ ps)
all_cons p ps h k = and_from _ _ h k

each_piece : (f : List ℕ → List ℕ) → ((x : List ℕ) → AreVisible (f x)) → (xs : List (List ℕ)) → AllVisible (map f xs)
each_piece f h [] = refl
each_piece f h (x ∷ xs) = all_cons (f x) (map f xs) (h x) (each_piece f h xs)

named_visible : (name value : List ℕ) → AreVisible name → AreVisible value → AreVisible (named name value)
named_visible name value h k = both (name ++ codes "=") value (both name (codes "=") h refl) k

text_visible : (name : List ℕ) → AreVisible name → (text : List ℕ) → AreVisible (text_piece name text)
text_visible name h text = named_visible name (escaped text) h (escaped_visible text)

secret_visible : (name : List ℕ) → AreVisible name → (text : List ℕ) → AreVisible (secret_piece name text)
secret_visible name h text = named_visible name (escaped (take 17 text)) h (escaped_visible (take 17 text))

values_visible : (name : List ℕ) → AreVisible name → (values : List (List ℕ)) → AllVisible (value_pieces name values)
values_visible name h [] = all_cons name [] h refl
values_visible name h (value ∷ values) = each_piece (text_piece name) (text_visible name h) (value ∷ values)

attributes_visible : (attributes : List Attribute) → AllVisible (pieces (Attributes attributes))
attributes_visible [] = refl
attributes_visible (a ∷ attributes) =
    all_both (value_pieces (attribute_name a) a.values) _
    (values_visible (attribute_name a) (both (codes "attribute.") (escaped_name a.name) refl (name_visible a.name)) a.values)
    (attributes_visible attributes)

asker_visible : (asker : Option AskerOf) → AllVisible (pieces (Asker asker))
asker_visible None = refl
asker_visible (Some asker) =
    all_cons (text_piece (codes "asker.peer") asker.peer) (text_piece (codes "asker.request") asker.request ∷ []) (text_visible (codes "asker.peer") refl asker.peer)
    (all_cons (text_piece (codes "asker.request") asker.request) [] (text_visible (codes "asker.request") refl asker.request) refl)

turn_visible : (turn : Turn) → AllVisible (turn_pieces turn)
unfolding turn_pieces
turn_visible turn =
    let indexes = map (text_piece (codes "turn.index")) turn.indexes in
    all_cons (text_piece (codes "turn") turn.peer) (text_piece (codes "turn.name") turn.name ∷ indexes) (text_visible (codes "turn") refl turn.peer)
    (all_cons (text_piece (codes "turn.name") turn.name) indexes (text_visible (codes "turn.name") refl turn.name)
    (each_piece (text_piece (codes "turn.index")) (text_visible (codes "turn.index") refl) turn.indexes))

turns_visible : (turns : List Turn) → AllVisible (pieces (Turns turns))
turns_visible [] = refl
turns_visible (turn ∷ turns) = all_both (turn_pieces turn) (flat_map turn_pieces turns) (turn_visible turn) (turns_visible turns)

-- the name of a field is visible
abbrev HasVisibleName : Field → Type 0
HasVisibleName (Moment name moment) = AreVisible name
HasVisibleName (Number name n) = AreVisible name
HasVisibleName (Text name text) = AreVisible name
HasVisibleName (MaybeText name text) = AreVisible name
HasVisibleName (Secret name text) = AreVisible name
HasVisibleName (MaybeSecret name text) = AreVisible name
HasVisibleName (Secrets name texts) = AreVisible name
HasVisibleName (Attributes attributes) = Unit {0}
HasVisibleName (Asker asker) = Unit {0}
HasVisibleName (Turns turns) = Unit {0}

pieces_visible : (field : Field) → HasVisibleName field → AllVisible (pieces field)
pieces_visible (Moment name moment) h = all_cons (named name (instant moment)) [] (named_visible name (instant moment) h (instant_visible moment)) refl
pieces_visible (Number name n) h = all_cons (named name (decimal n)) [] (named_visible name (decimal n) h (decimal_visible n)) refl
pieces_visible (Text name text) h = all_cons (text_piece name text) [] (text_visible name h text) refl
pieces_visible (MaybeText name None) h = refl
pieces_visible (MaybeText name (Some text)) h = all_cons (text_piece name text) [] (text_visible name h text) refl
pieces_visible (Secret name text) h = all_cons (secret_piece name text) [] (secret_visible name h text) refl
pieces_visible (MaybeSecret name None) h = refl
pieces_visible (MaybeSecret name (Some text)) h = all_cons (secret_piece name text) [] (secret_visible name h text) refl
pieces_visible (Secrets name texts) h = each_piece (secret_piece name) (secret_visible name h) texts
pieces_visible (Attributes attributes) h = attributes_visible attributes
pieces_visible (Asker asker) h = asker_visible asker
pieces_visible (Turns turns) h = turns_visible turns

-- the names of all fields are visible
abbrev HaveVisibleNames : List Field → Type 0
HaveVisibleNames [] = Unit {0}
HaveVisibleNames (field ∷ fields) = HasVisibleName field × HaveVisibleNames fields

fields_visible : (fields : List Field) → HaveVisibleNames fields → AllVisible (flat_map pieces fields)
fields_visible [] h = refl
fields_visible (field ∷ fields) h = all_both (pieces field) (flat_map pieces fields) (pieces_visible field h.0) (fields_visible fields h.1)

-- ---- lines

spaced-shown : (fields : List Field) → flat_map shown fields ≡ spaced (flat_map pieces fields)
spaced-shown [] = refl
spaced-shown (field ∷ fields) =
    ap (λ xs. shown field ++ xs) (spaced-shown fields) ∙ sym (flat_map-append (λ piece. 32 ∷ piece) (pieces field) (flat_map pieces fields))

grouped : (first kind rest : List ℕ) → first ++ codes " " ++ kind ++ rest ++ codes "\n" ≡ first ++ 32 ∷ (kind ++ rest) ++ codes "\n"
grouped first kind rest = simp append_assoc

one_line : (moment : ℕ) (kind : List ℕ) (fields : List Field) → AreVisible kind → HaveVisibleNames fields → IsOneLine (line moment kind fields)
one_line moment kind fields h names = record {
  first = instant moment;
  others = kind ∷ flat_map pieces fields;
  are = ap (λ (rest : List ℕ). instant moment ++ codes " " ++ kind ++ rest ++ codes "\n") (spaced-shown fields) ∙ grouped (instant moment) kind (spaced (flat_map pieces fields));
  visible = instant_visible moment;
  all_visible = all_cons kind (flat_map pieces fields) h (fields_visible fields names);
}

pub sp_one_line : (r : SpRecord) → IsOneLine (sp_line r)
sp_one_line (sp.Asked r) = one_line r.moment (codes "Asked") (asked r) refl (refl, (refl, (refl, tt)))
sp_one_line (sp.Opened r) = one_line r.moment (codes "Opened") (opened r) refl (refl, (refl, (refl, (refl, (refl, (refl, (refl, (refl, (tt, (refl, tt))))))))))
sp_one_line (sp.Left r) = one_line r.moment (codes "Left") (left r) refl (refl, (refl, (refl, tt)))
sp_one_line (sp.Ended r) = one_line r.moment (codes "Ended") (ended r) refl (refl, (refl, (refl, tt)))
sp_one_line (sp.Confirmed r) = one_line r.moment (codes "Confirmed") (confirmed r) refl (refl, tt)

pub idp_one_line : (r : IdpRecord) → IsOneLine (idp_line r)
idp_one_line (idp.Pending r) = one_line r.moment (codes "Pending") (pending r) refl (refl, (refl, (refl, (refl, (refl, tt)))))
idp_one_line (idp.Issued r) =
    one_line r.moment (codes "Issued") (issued r) refl (refl, (refl, (refl, (refl, (refl, (refl, (refl, (refl, (refl, (refl, (refl, (tt, tt))))))))))))
idp_one_line (idp.Ended r) = one_line r.moment (codes "Ended") (idp_ended r) refl (refl, (refl, (refl, (refl, (refl, tt)))))
idp_one_line (idp.Left r) = one_line r.moment (codes "Left") (idp_left r) refl (refl, (refl, (refl, (refl, tt))))
idp_one_line (idp.Confirmed r) = one_line r.moment (codes "Confirmed") (idp_confirmed r) refl (refl, tt)
idp_one_line (idp.Spoke r) = one_line r.moment (codes "Spoke") (spoke r) refl (refl, (refl, (refl, tt)))
idp_one_line (idp.Round r) = one_line r.moment (codes "Round") (round r) refl (refl, (refl, (refl, (refl, (tt, (tt, (refl, tt)))))))
idp_one_line (idp.Told r) = one_line r.moment (codes "Told") (told r) refl (refl, (refl, (refl, tt)))

pub hub_one_line : (r : HubRecord) → IsOneLine (hub_line r)
hub_one_line (hub.Routed r) = one_line r.moment (codes "Routed") (routed r) refl (refl, (refl, (refl, (refl, (refl, tt)))))
hub_one_line (hub.Backed r) =
    one_line r.moment (codes "Backed") (backed r) refl (refl, (refl, (refl, (refl, (refl, (refl, (refl, (refl, (refl, (refl, (refl, (refl, (refl, (tt, tt))))))))))))))
hub_one_line (hub.Spoke r) = one_line r.moment (codes "Spoke") (hub_spoke r) refl (refl, (refl, (refl, tt)))
