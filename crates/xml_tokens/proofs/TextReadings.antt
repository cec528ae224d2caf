-- What is read of a text is its first item.
use Rattle.std.proofs.Common.{◌≡◌, ℕ, ◌<◌, Bool, true, false, ◌&&◌, ◌==◌, not, List, [], ◌∷◌, ◌++◌, length, codes, refl, sym, ap, ◌∙◌, subst, length-append, arith}
use Rattle.std.specs.List.{flat_map, AllByRecursion}
use Rattle.std.specs.Char.{encode_utf8}
use Rattle.xml_spec.specs.Bytes.{AllPass, begins_with, no_two}
use Rattle.xml_spec.specs.Syntax.{Item, Characters, Refers, Section, CommentItem, ProcessingInstruction, EmptyTag, print_item, is_characters, Token, Alone, print_token}
use Rattle.xml_spec.specs.Meaning.{line_ends}
use Rattle.xml_spec.specs.Laws.{BeginsWith}
use Rattle.xml_spec.proofs.Tests.{both_true}
use Rattle.xml_spec.proofs.Runs.{same_run}
use Rattle.xml_spec.proofs.Tokens.{same_token, section_parts, token_is_not_empty}
use Rattle.xml_chars.specs.Reading.{BeginsWithReference, BeginsWithNone}
use Rattle.xml_tokens.specs.Lexing.{is_character_byte, CutAt}
use Rattle.xml_tokens.specs.Texts.{characters_of, item_text, IsTextItem, IsWrittenText, IsNextPart}
use Rattle.xml_tokens.proofs.Decoding.{printed}
use Rattle.xml_tokens.proofs.TextMeanings.{first_means}
use Rattle.xml_tokens.proofs.TokenReadings.{reference_begins_with}
use Rattle.xml_tokens.proofs.MarkReadings.{no_section_token, section_begins}

-- the first item of a text that is not empty, and the others
record First (bytes : List ℕ) : Type 0 where
  item : Item
  items : List Item
  each : AllByRecursion IsTextItem (item ∷ items)
  apart : no_two is_characters (item ∷ items) ≡ true
  begins : BeginsWith bytes (Alone item) (flat_map print_item items)

no_run : (items : List Item) → AllByRecursion IsTextItem items → begins_with is_characters items ≡ false →
    begins_with is_character_byte (flat_map print_item items) ≡ false
no_run [] each apart = refl
no_run (Characters bytes ∷ items) each apart = absurd (let clash : true ≡ false = apart in cc)
no_run (Refers r ∷ items) each apart = ap (begins_with is_character_byte) (printed r (flat_map print_item items))
no_run (Section bytes ∷ items) each apart = refl
no_run (CommentItem bytes ∷ items) each apart = refl
no_run (ProcessingInstruction target space value ∷ items) each apart = refl
no_run (EmptyTag tag ∷ items) each apart = refl

first_of_items : (bytes : List ℕ) (items : List Item) → AllByRecursion IsTextItem items → no_two is_characters items ≡ true →
    bytes ≡ flat_map print_item items → 0 < length bytes → First bytes
first_of_items bytes [] each apart printed some = absurd (omega (arith, ap length printed))
first_of_items bytes (item ∷ items) each apart printed some = record {
  item = item;
  items = items;
  each = each;
  apart = apart;
  begins = record { valid = each.0.0; whole = whole; printed = printed };
}
  where
    no_more : (s t : Bool) → not (s && t) ≡ true → s ≡ true → t ≡ false
    no_more true true h k = absurd (let clash : false ≡ true = h in cc)
    no_more true false h k = refl
    no_more false t h k = absurd (let clash : false ≡ true = k in cc)

    not_both : (s t : Bool) → (s ≡ true → t ≡ false) → not (s && t) ≡ true
    not_both true true h = absurd (let clash : true ≡ false = h refl in cc)
    not_both true false h = refl
    not_both false t h = refl

    whole : not (is_characters item && begins_with is_character_byte (flat_map print_item items)) ≡ true
    whole =
        not_both (is_characters item) (begins_with is_character_byte (flat_map print_item items))
        (λ e. no_run items each.1 (no_more (is_characters item) (begins_with is_characters items)
        (both_true (not (is_characters item && begins_with is_characters items)) (no_two is_characters items) apart).0 e))

first_in : (bytes : List ℕ) → IsWrittenText bytes → 0 < length bytes → First bytes
first_in bytes w some = first_of_items bytes w.items w.each w.apart w.printed some

others_written : (bytes : List ℕ) → (f : First bytes) → IsWrittenText (flat_map print_item f.items)
others_written bytes f = record {
  items = f.items;
  each = f.each.1;
  apart = (both_true (not (is_characters f.item && begins_with is_characters f.items)) (no_two is_characters f.items) f.apart).1;
  printed = refl;
}

is_shorter : (t : Token) (bytes behind : List ℕ) → BeginsWith bytes t behind → length behind < length bytes
is_shorter t bytes behind b = some (print_token t) refl
  where
    some : (printed : List ℕ) → print_token t ≡ printed → length behind < length bytes
    some [] e = absurd (token_is_not_empty t [] b.valid (ap (λ (x : List ℕ). x ++ []) e))
    some (c ∷ printed) e = omega (arith, ap length (b.printed ∙ ap (λ (x : List ℕ). x ++ behind) e), length-append printed behind)

next_is_first : (bytes : List ℕ) (f : First bytes) → IsNextPart bytes (item_text f.item) (flat_map print_item f.items)
next_is_first bytes f = record {
  shorter = is_shorter (Alone f.item) bytes (flat_map print_item f.items) f.begins;
  written = others_written bytes f;
  means = ap characters_of f.begins.printed ∙ first_means f.item f.items f.each f.apart;
}

next_same : (bytes : List ℕ) (f : First bytes) (meant behind : List ℕ) → item_text f.item ≡ meant → flat_map print_item f.items ≡ behind →
    IsNextPart bytes meant behind
next_same bytes f meant behind e g =
    subst (λ (b : List ℕ). IsNextPart bytes meant b) g (subst (λ (m : List ℕ). IsNextPart bytes m (flat_map print_item f.items)) e (next_is_first bytes f))

token_text : Token → List ℕ
token_text (Alone item) = item_text item
token_text token = []

-- the token that begins a text is its first item
pub next_by_token : (bytes : List ℕ) (item : Item) (behind : List ℕ) → IsWrittenText bytes → 0 < length bytes → BeginsWith bytes (Alone item) behind →
    IsNextPart bytes (item_text item) behind
unfolding token_text
next_by_token bytes item behind w some b =
    let f = first_in bytes w some in
    let same = same_token (Alone f.item) (Alone item) (flat_map print_item f.items) behind f.begins.valid b.valid f.begins.whole b.whole
    (sym f.begins.printed ∙ b.printed) in
    next_same bytes f (item_text item) behind (ap token_text same.whole) same.behind

pub next_by_reference : (bytes : List ℕ) (character : ℕ) (behind : List ℕ) → IsWrittenText bytes → 0 < length bytes →
    BeginsWithReference bytes character behind → IsNextPart bytes (encode_utf8 character) behind
next_by_reference bytes character behind w some at =
    subst (λ c. IsNextPart bytes (encode_utf8 c) behind) at.meant
    (next_by_token bytes (Refers at.reference) behind w some (reference_begins_with bytes character behind at))

pub next_by_section : (bytes inner section behind : List ℕ) → IsWrittenText bytes → bytes ≡ codes "<![CDATA[" ++ inner →
    CutAt (codes "]]>") inner section behind → IsNextPart bytes (line_ends section) behind
next_by_section bytes inner section behind w e cut =
    next_by_token bytes (Section section) behind w (omega (arith, ap length e))
    (subst (λ (x : List ℕ). BeginsWith x (Alone (Section section)) behind) (sym e) (section_begins (codes "[CDATA[" ++ inner) inner section behind refl cut))

-- a section of a text is closed
pub closed : (bytes inner : List ℕ) → IsWrittenText bytes → bytes ≡ codes "<![CDATA[" ++ inner →
    ((front behind : List ℕ) → ¬ (inner ≡ front ++ (codes "]]>" ++ behind))) → ⊥
closed bytes inner w e none =
    let f = first_in bytes w (omega (arith, ap length e)) in
    no_section_token (codes "[CDATA[" ++ inner) inner refl none (Alone f.item) (flat_map print_item f.items)
    (subst (λ (x : List ℕ). BeginsWith x (Alone f.item) (flat_map print_item f.items)) e f.begins)

-- where neither a reference nor a section begins, a run of characters does
pub next_by_run : (bytes text behind : List ℕ) → IsWrittenText bytes → 0 < length bytes → bytes ≡ text ++ behind → AllPass is_character_byte text →
    begins_with is_character_byte behind ≡ false → BeginsWithNone bytes → ((x : List ℕ) → ¬ (bytes ≡ codes "<![CDATA[" ++ x)) →
    IsNextPart bytes (line_ends text) behind
next_by_run bytes text behind w some split passes stops no_reference no_section =
    by_item (first_in bytes w some)
  where
    no_more : (s t : Bool) → not (s && t) ≡ true → s ≡ true → t ≡ false
    no_more true true h k = absurd (let clash : false ≡ true = h in cc)
    no_more true false h k = refl
    no_more false t h k = absurd (let clash : false ≡ true = k in cc)

    by_kind : (f : First bytes) (item : Item) → f.item ≡ item → IsNextPart bytes (line_ends text) behind
    by_kind f (Characters characters) e =
        let valid = subst (λ i. IsTextItem i) e f.each.0 in
        let ends : begins_with is_character_byte (flat_map print_item f.items) ≡ false =
        no_more (is_characters f.item) (begins_with is_character_byte (flat_map print_item f.items)) f.begins.whole (ap is_characters e) in
        let same = same_run is_character_byte characters text (flat_map print_item f.items) behind valid.0.1 passes ends stops
        (sym (f.begins.printed ∙ ap (λ i. print_item i ++ flat_map print_item f.items) e) ∙ split) in
        next_same bytes f (line_ends text) behind (ap item_text e ∙ ap line_ends same.0) same.1
    by_kind f (Refers reference) e =
        let valid = subst (λ i. IsTextItem i) e f.each.0 in
        absurd (no_reference reference (flat_map print_item f.items) valid.0 (f.begins.printed ∙ ap (λ i. print_item i ++ flat_map print_item f.items) e))
    by_kind f (Section section) e =
        absurd (no_section (section ++ (codes "]]>" ++ flat_map print_item f.items))
        (f.begins.printed ∙ ap (λ i. print_item i ++ flat_map print_item f.items) e ∙ section_parts section (flat_map print_item f.items)))
    by_kind f (CommentItem comment) e = let valid = subst (λ i. IsTextItem i) e f.each.0 in absurd (let clash : false ≡ true = valid.1 in cc)
    by_kind f (ProcessingInstruction target space value) e = let valid = subst (λ i. IsTextItem i) e f.each.0 in absurd (let clash : false ≡ true = valid.1 in cc)
    by_kind f (EmptyTag tag) e = let valid = subst (λ i. IsTextItem i) e f.each.0 in absurd (let clash : false ≡ true = valid.1 in cc)

    by_item : (f : First bytes) → IsNextPart bytes (line_ends text) behind
    by_item f = by_kind f f.item refl

pub some_of : (bytes : List ℕ) (empty : Bool) → empty ≡ (length bytes == 0) → empty ≡ false → 0 < length bytes
some_of bytes empty is none = grind arith
