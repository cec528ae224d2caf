-- A text that is read item by item.
use Rattle.std.proofs.Common.{◌≡◌, ℕ, ◌+◌, ◌-◌, ◌<◌, ◌≤◌, Bool, true, false, ◌&&◌, not, List, [], ◌∷◌, ◌++◌, length, take, get_or, refl, sym, ap, ◌∙◌, subst, append_assoc, append-nil, length-append, arith}
use Rattle.std.specs.List.{flat_map, AllByRecursion}
use Rattle.std.specs.Str.{IsUtf8, IsCharBoundary}
use Rattle.std.proofs.lemmas.Str.{IsCharBoundary-start}
use Rattle.std.proofs.lemmas.Grind.{flat_map-append}
use Rattle.std.proofs.Math.Seq.{take-append_seam}
use Rattle.xml_spec.specs.Bytes.{begins_with, no_two}
use Rattle.xml_spec.specs.Syntax.{Item, Characters, Refers, Section, CommentItem, ProcessingInstruction, EmptyTag, print_item, is_characters, Alone, IsItem}
use Rattle.xml_spec.specs.Laws.{BeginsWith}
use Rattle.xml_spec.proofs.Tests.{both_true}
use Rattle.xml_tokens.specs.Lexing.{is_character_byte}
use Rattle.xml_tokens.specs.Texts.{characters_of, is_text, item_text, IsTextItem, ends_with, IsReadText, RunView, run_view}
use Rattle.xml_tokens.proofs.TextMeanings.{text_means}

each_push : (items : List Item) (item : Item) → AllByRecursion IsTextItem items → IsTextItem item → AllByRecursion IsTextItem (items ++ item ∷ [])
each_push [] item h k = (k, tt)
each_push (i ∷ items) item h k = (h.0, each_push items item h.1 k)

no_two_push : (items : List Item) (item : Item) → no_two is_characters items ≡ true → (is_characters item ≡ true → ends_with is_characters items ≡ false) →
    no_two is_characters (items ++ item ∷ []) ≡ true
no_two_push [] item h k = last (is_characters item)
  where
    last : (t : Bool) → (not (t && false) && true) ≡ true
    last true = refl
    last false = refl
no_two_push (i ∷ []) item h k = both (is_characters i) (is_characters item) k
  where
    both : (s t : Bool) → (t ≡ true → s ≡ false) → (not (s && t) && (not (t && false) && true)) ≡ true
    both true true g = absurd (let clash : true ≡ false = g refl in cc)
    both true false g = refl
    both false true g = refl
    both false false g = refl
no_two_push (i ∷ (j ∷ items)) item h k =
    let parts = both_true (not (is_characters i && is_characters j)) (no_two is_characters (j ∷ items)) h in
    and_both (not (is_characters i && is_characters j)) (no_two is_characters (j ∷ (items ++ item ∷ []))) parts.0
    (no_two_push (j ∷ items) item parts.1 k)
  where
    and_both : (s t : Bool) → s ≡ true → t ≡ true → (s && t) ≡ true
    and_both true t p q = q
    and_both false t p q = absurd (let clash : false ≡ true = p in cc)

ends_push : (items : List Item) (item : Item) → ends_with is_characters (items ++ item ∷ []) ≡ is_characters item
ends_push [] item = refl
ends_push (i ∷ []) item = refl
ends_push (i ∷ (j ∷ items)) item = ends_push (j ∷ items) item

begins_run : (item : Item) (behind next : List ℕ) → IsItem item → behind ≡ print_item item ++ next → is_characters item ≡ true →
    begins_with is_character_byte behind ≡ true
begins_run (Characters []) behind next valid e h = absurd (let none : 0 < 0 = valid.0 in omega arith)
begins_run (Characters (b ∷ bytes)) behind next valid e h = ap (begins_with is_character_byte) e ∙ (both_true _ _ valid.1).0
begins_run (Refers r) behind next valid e h = absurd (let clash : false ≡ true = h in cc)
begins_run (Section bytes) behind next valid e h = absurd (let clash : false ≡ true = h in cc)
begins_run (CommentItem bytes) behind next valid e h = absurd (let clash : false ≡ true = h in cc)
begins_run (ProcessingInstruction target space value) behind next valid e h = absurd (let clash : false ≡ true = h in cc)
begins_run (EmptyTag tag) behind next valid e h = absurd (let clash : false ≡ true = h in cc)

printed_push : (from behind next : List ℕ) (items : List Item) (item : Item) → from ≡ flat_map print_item items ++ behind →
    behind ≡ print_item item ++ next → from ≡ flat_map print_item (items ++ item ∷ []) ++ next
printed_push from behind next items item e f =
    e ∙ ap (λ (x : List ℕ). flat_map print_item items ++ x) f ∙ sym (append_assoc (flat_map print_item items) (print_item item) next)
    ∙ ap (λ (x : List ℕ). x ++ next)
    (ap (λ (x : List ℕ). flat_map print_item items ++ x) (sym (append-nil (print_item item))) ∙ sym (flat_map-append print_item items (item ∷ [])))

apart_push : (items : List Item) (item : Item) (behind next : List ℕ) → no_two is_characters items ≡ true →
    not (ends_with is_characters items && begins_with is_character_byte behind) ≡ true → BeginsWith behind (Alone item) next →
    no_two is_characters (items ++ item ∷ []) ≡ true
apart_push items item behind next apart whole b =
    no_two_push items item apart (λ h. no_end (ends_with is_characters items) (begins_with is_character_byte behind) whole
    (begins_run item behind next b.valid b.printed h))
  where
    no_end : (s t : Bool) → not (s && t) ≡ true → t ≡ true → s ≡ false
    no_end true true g k = absurd (let clash : false ≡ true = g in cc)
    no_end true false g k = absurd (let clash : false ≡ true = k in cc)
    no_end false t g k = refl

-- one more item
pub read_more : (from behind next : List ℕ) (item : Item) → IsReadText from behind → is_text item ≡ true → BeginsWith behind (Alone item) next →
    IsReadText from next
read_more from behind next item r text b = record {
  items = r.items ++ item ∷ [];
  each = each_push r.items item r.each (b.valid, text);
  apart = apart_push r.items item behind next r.apart r.whole b;
  whole = ap (λ t. not (t && begins_with is_character_byte next)) (ends_push r.items item) ∙ b.whole;
  printed = printed_push from behind next r.items item r.printed b.printed;
}

cut_is : (from behind written : List ℕ) → from ≡ written ++ behind → take (length from - length behind) from ≡ written
cut_is from behind written e =
    let n : length from - length behind ≡ length written = omega (arith, ap length e, length-append written behind) in
    ap (λ k. take k from) n ∙ ap (take (length written)) e ∙ take-append_seam written behind

read_text : (from behind : List ℕ) (items : List Item) → AllByRecursion IsTextItem items → no_two is_characters items ≡ true →
    from ≡ flat_map print_item items ++ behind → characters_of (take (length from - length behind) from) ≡ flat_map item_text items
read_text from behind items each apart e = ap characters_of (cut_is from behind (flat_map print_item items) e) ∙ text_means items each apart

pub run_adds : (from behind next : List ℕ) (item : Item) → IsReadText from behind → is_text item ≡ true → BeginsWith behind (Alone item) next →
    run_view from next ≡ record { text = (run_view from behind).text ++ item_text item; behind = next }
run_adds from behind next item r text b =
    ap (λ (x : List ℕ). (let v : RunView = record { text = x; behind = next } in v))
    (read_text from next (r.items ++ item ∷ []) (each_push r.items item r.each (b.valid, text)) (apart_push r.items item behind next r.apart r.whole b)
    (printed_push from behind next r.items item r.printed b.printed)
    ∙ flat_map-append item_text r.items (item ∷ []) ∙ ap (λ (x : List ℕ). flat_map item_text r.items ++ x) (append-nil (item_text item))
    ∙ ap (λ (x : List ℕ). x ++ item_text item) (sym (read_text from behind r.items r.each r.apart r.printed)))

at_seam : (front behind : List ℕ) → get_or (front ++ behind) (length front) 0 ≡ get_or behind 0 0
at_seam [] behind = refl
at_seam (b ∷ front) behind = at_seam front behind

-- a text may be cut in front of another
pub read_boundary : (from behind : List ℕ) → IsReadText from behind → IsUtf8 behind → IsCharBoundary from (length from - length behind)
read_boundary from behind r u =
    let front = flat_map print_item r.items in
    let n : length from - length behind ≡ length front = omega (arith, ap length r.printed, length-append front behind) in
    let start = IsCharBoundary-start behind u in
    let same : get_or from (length front) 0 ≡ get_or behind 0 0 = ap (λ (x : List ℕ). get_or x (length front) 0) r.printed ∙ at_seam front behind in
    let longer : length from ≡ length front + length behind = ap length r.printed ∙ length-append front behind in
    subst (IsCharBoundary from) (sym n)
    (omega arith, λ l high. let lead : 192 ≤ get_or behind 0 0 = start.1 (omega arith) (omega arith) in omega arith)
