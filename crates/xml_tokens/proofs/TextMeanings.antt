-- What a text of an element means, item by item.
use Rattle.std.proofs.Common.{◌≡◌, ℕ, Bool, true, false, cond, ◌&&◌, not, ◌==◌, nat_eq, List, [], ◌∷◌, ◌++◌, codes, refl, sym, ap, ◌∙◌, append_assoc, append-nil, arith}
use Rattle.std.specs.List.{list_all, flat_map, AllByRecursion, starts_with}
use Rattle.std.specs.Char.{encode_utf8}
use Rattle.std.proofs.lemmas.Bool.{cond-false}
use Rattle.xml_spec.specs.Ascii.{line_feed, carriage_return, ampersand, semicolon, less_than}
use Rattle.xml_spec.specs.Bytes.{AllPass, has, begins_with, no_two}
use Rattle.xml_spec.specs.Syntax.{Reference, print_reference, character_of, IsReference, Item, Characters, Refers, Section, CommentItem, ProcessingInstruction, EmptyTag, print_item, is_characters}
use Rattle.xml_spec.specs.Meaning.{line_ends_after, line_ends}
use Rattle.xml_spec.proofs.Tests.{both_true}
use Rattle.xml_spec.proofs.Ends.{neither}
use Rattle.xml_tokens.specs.Lexing.{is_character_byte}
use Rattle.xml_tokens.specs.Decoded.{referred_character}
use Rattle.xml_tokens.specs.Texts.{Among, Referring, Within, characters_from, characters_of, item_text, IsTextItem}
use Rattle.xml_tokens.proofs.Decoding.{reference_name, printed, name_has_none, name_means}

is_not : (t : Bool) → not t ≡ true → t ≡ false
is_not true k = absurd (let clash : false ≡ true = k in cc)
is_not false k = refl

-- a reference: up to its semicolon it is a name or a number
referring_run : (name seen rest : List ℕ) → AllPass (λ b. not (b == semicolon)) name →
    characters_from (Referring seen) (name ++ semicolon ∷ rest) ≡ encode_utf8 (referred_character (seen ++ name)) ++ characters_of rest
referring_run [] seen rest h = ap (λ (n : List ℕ). encode_utf8 (referred_character n) ++ characters_of rest) (sym (append-nil seen))
referring_run (b ∷ name) seen rest h =
    let both = both_true (not (b == semicolon)) (list_all (λ c. not (c == semicolon)) name) h in
    cond-false (b == semicolon) _ _ (is_not (b == semicolon) both.0)
    ∙ referring_run name (seen ++ b ∷ []) rest both.1
    ∙ ap (λ (n : List ℕ). encode_utf8 (referred_character n) ++ characters_of rest) (append_assoc seen (b ∷ []) name)

pub reference_text : (return : Bool) (r : Reference) (rest : List ℕ) → IsReference r →
    characters_from (Among return) (print_reference r ++ rest) ≡ encode_utf8 (character_of r) ++ characters_of rest
reference_text return r rest v =
    ap (characters_from (Among return)) (printed r rest)
    ∙ referring_run (reference_name r) [] rest (name_has_none r v)
    ∙ ap (λ c. encode_utf8 c ++ characters_of rest) (name_means r v)

no_sign : (b : ℕ) → is_character_byte b ≡ true → ((b == ampersand) ≡ false) × ((b == less_than) ≡ false)
no_sign b h = (grind arith, grind arith)

-- characters in front of what begins with no line feed
characters_text : (bytes rest : List ℕ) (return : Bool) → AllPass is_character_byte bytes →
    characters_from (Among true) rest ≡ characters_of rest →
    characters_from (Among return) (bytes ++ rest) ≡ line_ends_after return bytes ++ characters_of rest
characters_text [] rest true h same = same
characters_text [] rest false h same = refl
characters_text (b ∷ bytes) rest return h same =
    let both = both_true (is_character_byte b) (list_all is_character_byte bytes) h in
    let signs = no_sign b both.0 in
    cond-false (b == ampersand) _ _ signs.0 ∙ cond-false (b == less_than) _ _ signs.1
    ∙ by_tests (b == carriage_return) (return && b == line_feed)
    (characters_text bytes rest true both.1 same) (characters_text bytes rest false both.1 same)
  where
    by_tests : (s t : Bool) →
        characters_from (Among true) (bytes ++ rest) ≡ line_ends_after true bytes ++ characters_of rest →
        characters_from (Among false) (bytes ++ rest) ≡ line_ends_after false bytes ++ characters_of rest →
        cond s (line_feed ∷ characters_from (Among true) (bytes ++ rest))
        (cond t (characters_from (Among false) (bytes ++ rest)) (b ∷ characters_from (Among false) (bytes ++ rest)))
        ≡ cond s (line_feed ∷ line_ends_after true bytes)
        (cond t (line_ends_after false bytes) (b ∷ line_ends_after false bytes)) ++ characters_of rest
    by_tests true t one other = ap (λ (x : List ℕ). line_feed ∷ x) one
    by_tests false true one other = other
    by_tests false false one other = ap (λ (x : List ℕ). b ∷ x) other

-- the sign of a section's end begins nowhere in what the section holds
no_end : (b : ℕ) (bytes rest : List ℕ) → starts_with nat_eq (b ∷ bytes) (codes "]]>") ≡ false →
    starts_with nat_eq (b ∷ (bytes ++ (codes "]]>" ++ rest))) (codes "]]>") ≡ false
no_end b [] rest h = last_fails (93 == b) (93 == 93)
  where
    last_fails : (s t : Bool) → (s && (t && false)) ≡ false
    last_fails true true = refl
    last_fails true false = refl
    last_fails false t = refl
no_end b (c ∷ []) rest h = last_fails (93 == b) (93 == c)
  where
    last_fails : (s t : Bool) → (s && (t && false)) ≡ false
    last_fails true true = refl
    last_fails true false = refl
    last_fails false t = refl
no_end b (c ∷ d ∷ bytes) rest h = h

within_text : (bytes rest : List ℕ) (return : Bool) → has (codes "]]>") bytes ≡ false →
    characters_from (Within return) (bytes ++ (codes "]]>" ++ rest)) ≡ line_ends_after return bytes ++ characters_of rest
within_text [] rest return h = refl
within_text (b ∷ bytes) rest return h =
    let both = neither (starts_with nat_eq (b ∷ bytes) (codes "]]>")) (has (codes "]]>") bytes) h in
    cond-false (starts_with nat_eq (b ∷ (bytes ++ (codes "]]>" ++ rest))) (codes "]]>")) _ _ (no_end b bytes rest both.0)
    ∙ by_tests (b == carriage_return) (return && b == line_feed)
    (within_text bytes rest true both.1) (within_text bytes rest false both.1)
  where
    by_tests : (s t : Bool) →
        characters_from (Within true) (bytes ++ (codes "]]>" ++ rest)) ≡ line_ends_after true bytes ++ characters_of rest →
        characters_from (Within false) (bytes ++ (codes "]]>" ++ rest)) ≡ line_ends_after false bytes ++ characters_of rest →
        cond s (line_feed ∷ characters_from (Within true) (bytes ++ (codes "]]>" ++ rest)))
        (cond t (characters_from (Within false) (bytes ++ (codes "]]>" ++ rest))) (b ∷ characters_from (Within false) (bytes ++ (codes "]]>" ++ rest))))
        ≡ cond s (line_feed ∷ line_ends_after true bytes)
        (cond t (line_ends_after false bytes) (b ∷ line_ends_after false bytes)) ++ characters_of rest
    by_tests true t one other = ap (λ (x : List ℕ). line_feed ∷ x) one
    by_tests false true one other = other
    by_tests false false one other = ap (λ (x : List ℕ). b ∷ x) other

section_text : (return : Bool) (bytes rest : List ℕ) → has (codes "]]>") bytes ≡ false →
    characters_from (Among return) (print_item (Section bytes) ++ rest) ≡ line_ends bytes ++ characters_of rest
section_text return bytes rest h =
    ap (λ (x : List ℕ). characters_from (Within false) x) (append_assoc bytes (codes "]]>") rest) ∙ within_text bytes rest false h

-- a carriage return in front of items that begin with no run of characters says nothing of them
return_ends : (items : List Item) → AllByRecursion IsTextItem items → begins_with is_characters items ≡ false →
    characters_from (Among true) (flat_map print_item items) ≡ characters_of (flat_map print_item items)
return_ends [] valid apart = refl
return_ends (Characters bytes ∷ items) valid apart = absurd (let clash : true ≡ false = apart in cc)
return_ends (Refers r ∷ items) valid apart =
    reference_text true r (flat_map print_item items) valid.0.0 ∙ sym (reference_text false r (flat_map print_item items) valid.0.0)
return_ends (Section bytes ∷ items) valid apart =
    section_text true bytes (flat_map print_item items) valid.0.0 ∙ sym (section_text false bytes (flat_map print_item items) valid.0.0)
return_ends (CommentItem bytes ∷ items) valid apart = absurd (let clash : false ≡ true = valid.0.1 in cc)
return_ends (ProcessingInstruction target space value ∷ items) valid apart = absurd (let clash : false ≡ true = valid.0.1 in cc)
return_ends (EmptyTag tag ∷ items) valid apart = absurd (let clash : false ≡ true = valid.0.1 in cc)

-- the first item and then the others
pub first_means : (item : Item) (items : List Item) → AllByRecursion IsTextItem (item ∷ items) → no_two is_characters (item ∷ items) ≡ true →
    characters_of (print_item item ++ flat_map print_item items) ≡ item_text item ++ characters_of (flat_map print_item items)
first_means (Characters bytes) items valid runs =
    let both = both_true (not (true && begins_with is_characters items)) (no_two is_characters items) runs in
    characters_text bytes (flat_map print_item items) false valid.0.0.1
    (return_ends items valid.1 (is_not (begins_with is_characters items) both.0))
first_means (Refers r) items valid runs = reference_text false r (flat_map print_item items) valid.0.0
first_means (Section bytes) items valid runs = section_text false bytes (flat_map print_item items) valid.0.0
first_means (CommentItem bytes) items valid runs = absurd (let clash : false ≡ true = valid.0.1 in cc)
first_means (ProcessingInstruction target space value) items valid runs = absurd (let clash : false ≡ true = valid.0.1 in cc)
first_means (EmptyTag tag) items valid runs = absurd (let clash : false ≡ true = valid.0.1 in cc)

-- a text means what its items add to it
pub text_means : (items : List Item) → AllByRecursion IsTextItem items → no_two is_characters items ≡ true →
    characters_of (flat_map print_item items) ≡ flat_map item_text items
text_means [] valid runs = refl
text_means (item ∷ items) valid runs =
    first_means item items valid runs
    ∙ ap (λ (x : List ℕ). item_text item ++ x)
    (text_means items valid.1 (both_true (not (is_characters item && begins_with is_characters items)) (no_two is_characters items) runs).1)
