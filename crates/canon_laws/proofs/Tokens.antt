-- In a text of tokens each value, run of characters, section and instruction is a text.
use Rattle.std.proofs.Common.{◌≡◌, ℕ, ◌<◌, Bool, true, false, ◌&&◌, not, length, List, [], ◌∷◌, ◌++◌, codes, map, refl, ◌∙◌, ap, subst, append_assoc, arith}
use Rattle.std.specs.Bool.{⊤}
use Rattle.std.specs.List.{list_all, flat_map, AllByRecursion}
use Rattle.std.specs.Char.{is_ascii_digit, is_ascii_hexdigit, encode_utf8}
use Rattle.xml_spec.specs.Ascii.{quotation_mark, equals_sign, semicolon, less_than, ampersand, greater_than}
use Rattle.xml_spec.specs.Bytes.{AllPass, begins_with, no_two}
use Rattle.xml_spec.specs.Characters.{IsText}
use Rattle.xml_spec.specs.Syntax.{is_white, is_quote, Reference, LessThan, GreaterThan, Ampersand, Apostrophe, QuotationMark, Decimal, Hexadecimal, print_reference, character_of, IsReference, Piece, Literal, Referred, print_piece, is_literal, IsPiece, Assignment, IsAssignment, Tag, print_tag, IsTag, Characters, Refers, Section, CommentItem, ProcessingInstruction, EmptyTag, IsProcessingInstruction, Token, Alone, StartTag, EndTag, is_run, IsToken, print_token, print_tokens}
use Rattle.xml_spec.specs.Meaning.{line_ends, as_blank, piece_value, attribute_of}
use Rattle.xml_spec.proofs.Tests.{both_true, and_true}
use Rattle.xml_spec.proofs.Values.{reference_begins, closed_value, first_not}
use Rattle.xml_spec.proofs.Tags.{from_right, from_left, from_name, from_before, from_assignments, assignments_go_on, tag_parts}
use Rattle.xml_spec.proofs.Tokens.{from_space, processing_parts}
use Rattle.canon_laws.proofs.Texts.{empty_text, text_append, character_text}
use Rattle.canon_laws.proofs.Cuts.{is_low, begins_low, AreTexts, cut, behind_one, behind_low, low_begins}
use Rattle.canon_laws.proofs.Lines.{lines_text, blanks_text}

each_low : (P : ℕ → Bool) (bytes : List ℕ) → ((b : ℕ) → P b ≡ true → is_low b ≡ true) → AllPass P bytes → AllPass is_low bytes
each_low P [] f h = refl
each_low P (b ∷ bytes) f h =
    let parts = both_true (P b) (list_all P bytes) h in
    and_true _ _ (f b parts.0) (each_low P bytes f parts.1)

white_low : (b : ℕ) → is_white b ≡ true → is_low b ≡ true
white_low b h = grind arith

digit_low : (b : ℕ) → is_ascii_digit b ≡ true → is_low b ≡ true
digit_low b h = grind arith

hexdigit_low : (b : ℕ) → is_ascii_hexdigit b ≡ true → is_low b ≡ true
hexdigit_low b h = grind arith

quote_low : (b : ℕ) → is_quote b ≡ true → is_low b ≡ true
quote_low b h = grind arith

whites_low : (bytes : List ℕ) → AllPass is_white bytes → AllPass is_low bytes
whites_low bytes h = each_low is_white bytes white_low h

-- behind a reference, which stands for a character
behind_reference : (r : Reference) (x : List ℕ) → IsReference r → IsText (print_reference r ++ x) → IsText x
behind_reference LessThan x v t = behind_low (print_reference LessThan) x t refl
behind_reference GreaterThan x v t = behind_low (print_reference GreaterThan) x t refl
behind_reference Ampersand x v t = behind_low (print_reference Ampersand) x t refl
behind_reference Apostrophe x v t = behind_low (print_reference Apostrophe) x t refl
behind_reference QuotationMark x v t = behind_low (print_reference QuotationMark) x t refl
behind_reference (Decimal digits) x v t =
    behind_one semicolon x
    (behind_low digits (semicolon ∷ x) (subst IsText (append_assoc digits (semicolon ∷ []) x) (behind_low (codes "&#") ((digits ++ semicolon ∷ []) ++ x) t refl))
    (each_low is_ascii_digit digits digit_low v.1)) refl
behind_reference (Hexadecimal digits) x v t =
    behind_one semicolon x
    (behind_low digits (semicolon ∷ x) (subst IsText (append_assoc digits (semicolon ∷ []) x) (behind_low (codes "&#x") ((digits ++ semicolon ∷ []) ++ x) t refl))
    (each_low is_ascii_hexdigit digits hexdigit_low v.1)) refl

pub reference_text : (r : Reference) → IsReference r → IsText (encode_utf8 (character_of r))
reference_text LessThan v = character_text less_than refl
reference_text GreaterThan v = character_text greater_than refl
reference_text Ampersand v = character_text ampersand refl
reference_text Apostrophe v = character_text 39 refl
reference_text QuotationMark v = character_text quotation_mark refl
reference_text (Decimal digits) v = character_text (character_of (Decimal digits)) v.2
reference_text (Hexadecimal digits) v = character_text (character_of (Hexadecimal digits)) v.2

value_goes_on : (quote : ℕ) (piece : Piece) (pieces : List Piece) (x : List ℕ) →
    closed_value quote (piece ∷ pieces) x ≡ print_piece piece ++ closed_value quote pieces x
value_goes_on quote piece pieces x = append_assoc (print_piece piece) (flat_map print_piece pieces) (quote ∷ x)

-- behind a literal part comes the quote or an ampersand
value_stops_low : (quote : ℕ) (pieces : List Piece) (x : List ℕ) → is_quote quote ≡ true → begins_with is_literal pieces ≡ false →
    begins_low (closed_value quote pieces x) ≡ true
value_stops_low quote [] x q h = quote_low quote q
value_stops_low quote (Literal bytes ∷ pieces) x q h = absurd (let clash : true ≡ false = h in cc)
value_stops_low quote (Referred r ∷ pieces) x q h =
    ap begins_low (value_goes_on quote (Referred r) pieces x ∙ reference_begins r (closed_value quote pieces x))

value_text : (quote : ℕ) (pieces : List Piece) (x : List ℕ) → is_quote quote ≡ true → AllByRecursion (IsPiece quote) pieces →
    no_two is_literal pieces ≡ true → IsText (closed_value quote pieces x) → AreTexts (flat_map piece_value pieces) x
value_text quote [] x q v n t = record { front = empty_text; back = behind_one quote x t (quote_low quote q) }
value_text quote (Literal bytes ∷ pieces) x q v n t =
    let parts = both_true (not (true && begins_with is_literal pieces)) (no_two is_literal pieces) n in
    let here = cut bytes (closed_value quote pieces x) (subst IsText (value_goes_on quote (Literal bytes) pieces x) t)
    (value_stops_low quote pieces x q (first_not true (begins_with is_literal pieces) parts.0 refl)) in
    let later = value_text quote pieces x q v.1 parts.1 here.back in
    record {
      front = text_append (map as_blank (line_ends bytes)) (flat_map piece_value pieces) (blanks_text (line_ends bytes) (lines_text bytes here.front)) later.front;
      back = later.back;
    }
value_text quote (Referred r ∷ pieces) x q v n t =
    let behind = behind_reference r (closed_value quote pieces x) v.0 (subst IsText (value_goes_on quote (Referred r) pieces x) t) in
    let later = value_text quote pieces x q v.1 n behind in
    record { front = text_append (encode_utf8 (character_of r)) (flat_map piece_value pieces) (reference_text r v.0) later.front; back = later.back }

-- behind the name of an assignment
left_low : (a : Assignment) (x : List ℕ) → IsAssignment a → begins_low (from_left a x) ≡ true
left_low a x v = low_begins a.left (equals_sign ∷ from_right a x) (whites_low a.left v.left) refl

assignment_text : (a : Assignment) (x : List ℕ) → IsAssignment a → IsText (from_before a x) → AreTexts (attribute_of a).value x
assignment_text a x v t =
    let named : IsText (from_name a x) = behind_low a.before (from_name a x) t (whites_low a.before v.before) in
    let left = cut a.name (from_left a x) named (left_low a x v) in
    let sign : IsText (equals_sign ∷ from_right a x) = behind_low a.left (equals_sign ∷ from_right a x) left.back (whites_low a.left v.left) in
    let right : IsText (from_right a x) = behind_one equals_sign (from_right a x) sign refl in
    let quoted : IsText (a.quote ∷ closed_value a.quote a.pieces x) =
    behind_low a.right (a.quote ∷ closed_value a.quote a.pieces x) right (whites_low a.right v.right) in
    value_text a.quote a.pieces x v.quote v.pieces v.whole_runs
    (behind_one a.quote (closed_value a.quote a.pieces x) quoted (quote_low a.quote v.quote))

-- each value of a tag is a text
abbrev pub HasValues : Tag → Type 0
HasValues tag = AllByRecursion (λ a. IsText (attribute_of a).value) tag.assignments

record AreValues (ones : List Assignment) (x : List ℕ) : Type 0 where
  values : AllByRecursion (λ a. IsText (attribute_of a).value) ones
  back : IsText x

assignments_text : (ones : List Assignment) (space x : List ℕ) → AllByRecursion IsAssignment ones → AllPass is_white space →
    IsText (from_assignments ones space x) → AreValues ones x
assignments_text [] space x v w t = record { values = tt; back = behind_low space x t (whites_low space w) }
assignments_text (a ∷ ones) space x v w t =
    let here = assignment_text a (from_assignments ones space x) v.0 (subst IsText (assignments_go_on a ones space x) t) in
    let later = assignments_text ones space x v.1 w here.back in
    record { values = (here.front, later.values); back = later.back }

-- white space, of which there is some, begins with ASCII
pub white_first : (before x : List ℕ) → 0 < length before → AllPass is_white before → begins_low (before ++ x) ≡ true
white_first [] x h w = absurd (omega arith)
white_first (b ∷ before) x h w = white_low b (both_true (is_white b) (list_all is_white before) w).0

-- behind the name of a tag
assignments_low : (ones : List Assignment) (space x : List ℕ) → AllByRecursion IsAssignment ones → AllPass is_white space →
    begins_low x ≡ true → begins_low (from_assignments ones space x) ≡ true
assignments_low [] space x v w l = low_begins space x (whites_low space w) l
assignments_low (a ∷ ones) space x v w l =
    ap begins_low (assignments_go_on a ones space x) ∙ white_first a.before (from_name a (from_assignments ones space x)) v.0.apart v.0.before

-- a tag, what closes it, and what follows
tag_text : (tag : Tag) (x : List ℕ) → IsTag tag → begins_low x ≡ true → IsText (print_tag tag ++ x) → AreValues tag.assignments x
tag_text tag x v l t =
    let named : IsText (tag.name ++ from_assignments tag.assignments tag.space x) = subst IsText (tag_parts tag x) t in
    let behind = cut tag.name (from_assignments tag.assignments tag.space x) named (assignments_low tag.assignments tag.space x v.assignments v.space l) in
    assignments_text tag.assignments tag.space x v.assignments v.space behind.back

-- the parts of a token that are texts
abbrev pub HasText : Token → Type 0
HasText (Alone (Characters bytes)) = IsText bytes
HasText (Alone (Refers r)) = ⊤
HasText (Alone (Section bytes)) = IsText bytes
HasText (Alone (CommentItem bytes)) = ⊤
HasText (Alone (ProcessingInstruction target space value)) = IsText value
HasText (Alone (EmptyTag tag)) = HasValues tag
HasText (StartTag tag) = HasValues tag
HasText (EndTag name space) = ⊤

-- a token and what follows it
record IsTextual (t : Token) (x : List ℕ) : Type 0 where
  here : HasText t
  back : IsText x

from_space_low : (space value x : List ℕ) → AllPass is_white space → (0 < length value → 0 < length space) → begins_low (from_space space value x) ≡ true
from_space_low [] [] x w apart = refl
from_space_low [] (b ∷ value) x w apart = absurd (let none : 0 < length {A = ℕ} [] = apart (omega arith) in omega arith)
from_space_low (b ∷ space) value x w apart = white_low b (both_true (is_white b) (list_all is_white space) w).0

processing_text : (target space value x : List ℕ) → IsProcessingInstruction target space value →
    IsText (print_token (Alone (ProcessingInstruction target space value)) ++ x) → AreTexts value x
processing_text target space value x v t =
    let named = behind_low (codes "<?") (target ++ from_space space value x) (subst IsText (processing_parts target space value x) t) refl in
    let spaced = cut target (from_space space value x) named (from_space_low space value x v.white v.apart) in
    let worth : IsText (value ++ (codes "?>" ++ x)) = behind_low space (value ++ (codes "?>" ++ x)) spaced.back (whites_low space v.white) in
    let closed = cut value (codes "?>" ++ x) worth refl in
    record { front = closed.front; back = behind_low (codes "?>") x closed.back refl }

-- bytes up to a mark
marked_text : (bytes mark x : List ℕ) → begins_low (mark ++ x) ≡ true → AllPass is_low mark → IsText ((bytes ++ mark) ++ x) → AreTexts bytes x
marked_text bytes mark x l h t =
    let parts = cut bytes (mark ++ x) (subst IsText (append_assoc bytes mark x) t) l in
    record { front = parts.front; back = behind_low mark x parts.back h }

token_text : (t : Token) (x : List ℕ) → IsToken t → (is_run t ≡ true → begins_low x ≡ true) → IsText (print_token t ++ x) → IsTextual t x
token_text (Alone (Characters bytes)) x v f t =
    let parts = cut bytes x t (f refl) in
    record { here = parts.front; back = parts.back }
token_text (Alone (Refers r)) x v f t = record { here = tt; back = behind_reference r x v t }
token_text (Alone (Section bytes)) x v f t =
    let parts = marked_text bytes (codes "]]>") x refl refl (behind_low (codes "<![CDATA[") ((bytes ++ codes "]]>") ++ x) t refl) in
    record { here = parts.front; back = parts.back }
token_text (Alone (CommentItem bytes)) x v f t =
    let parts = marked_text bytes (codes "-->") x refl refl (behind_low (codes "<!--") ((bytes ++ codes "-->") ++ x) t refl) in
    record { here = tt; back = parts.back }
token_text (Alone (ProcessingInstruction target space value)) x v f t =
    let parts = processing_text target space value x v t in
    record { here = parts.front; back = parts.back }
token_text (Alone (EmptyTag tag)) x v f t =
    let inside : IsText ((print_tag tag ++ codes "/>") ++ x) = behind_one less_than ((print_tag tag ++ codes "/>") ++ x) t refl in
    let parts = tag_text tag (codes "/>" ++ x) v refl (subst IsText (append_assoc (print_tag tag) (codes "/>") x) inside) in
    record { here = parts.values; back = behind_low (codes "/>") x parts.back refl }
token_text (StartTag tag) x v f t =
    let inside : IsText ((print_tag tag ++ greater_than ∷ []) ++ x) = behind_one less_than ((print_tag tag ++ greater_than ∷ []) ++ x) t refl in
    let parts = tag_text tag (greater_than ∷ x) v refl (subst IsText (append_assoc (print_tag tag) (greater_than ∷ []) x) inside) in
    record { here = parts.values; back = behind_one greater_than x parts.back refl }
token_text (EndTag name space) x v f t =
    let named : IsText (name ++ (space ++ (greater_than ∷ x))) =
    subst IsText (append_assoc (name ++ space) (greater_than ∷ []) x ∙ append_assoc name space (greater_than ∷ x))
    (behind_low (codes "</") ((name ++ space ++ greater_than ∷ []) ++ x) t refl) in
    let spaced = cut name (space ++ (greater_than ∷ x)) named (low_begins space (greater_than ∷ x) (whites_low space v.1) refl) in
    record { here = tt; back = behind_one greater_than x (behind_low space (greater_than ∷ x) spaced.back (whites_low space v.1)) refl }

-- a token that is no run begins with markup
markup_low : (t : Token) (x : List ℕ) → is_run t ≡ false → begins_low (print_token t ++ x) ≡ true
markup_low (Alone (Characters bytes)) x h = absurd (let clash : true ≡ false = h in cc)
markup_low (Alone (Refers r)) x h = ap begins_low (reference_begins r x)
markup_low (Alone (Section bytes)) x h = refl
markup_low (Alone (CommentItem bytes)) x h = refl
markup_low (Alone (ProcessingInstruction target space value)) x h = refl
markup_low (Alone (EmptyTag tag)) x h = refl
markup_low (StartTag tag) x h = refl
markup_low (EndTag name space) x h = refl

pub tokens_low : (ts : List Token) → begins_with is_run ts ≡ false → begins_low (print_tokens ts) ≡ true
tokens_low [] h = refl
tokens_low (t ∷ ts) h = markup_low t (print_tokens ts) h

pub tokens_text : (ts : List Token) → AllByRecursion IsToken ts → no_two is_run ts ≡ true → IsText (print_tokens ts) → AllByRecursion HasText ts
tokens_text [] v n t = tt
tokens_text (u ∷ ts) v n t =
    let parts = both_true (not (is_run u && begins_with is_run ts)) (no_two is_run ts) n in
    let here = token_text u (print_tokens ts) v.0 (λ run. tokens_low ts (first_not (is_run u) (begins_with is_run ts) parts.0 run)) t in
    (here.here, tokens_text ts v.1 parts.1 here.back)
