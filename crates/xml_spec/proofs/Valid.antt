-- A test of documents: what passes it is valid. With it the worked examples compute.
use Rattle.std.proofs.Common.{◌≡◌, ℕ, ◌<◌, Bool, true, false, ◌&&◌, ◌||◌, not, ◌==◌, nat_lt, List, [], ◌∷◌, ◌++◌, length, codes, Option, Some, None, refl, sym, ◌∙◌}
use Rattle.std.specs.Prelude.{IfSome, is_some}
use Rattle.std.specs.List.{list_all, AllByRecursion}
use Rattle.std.specs.Char.{is_ascii_digit, is_ascii_hexdigit}
use Rattle.std.specs.Str.{bytes_eq, chars, encode_utf8_all, str_to_ascii_lowercase}
use Rattle.std.specs.Str.Parse.{digits_value}
use Rattle.std.proofs.lemmas.Bool.{ltb-true, lt-ltb, not-true}
use Rattle.std.proofs.lemmas.Slice.Eq.{bytes_eq-Decides}
use Rattle.xml_spec.specs.Ascii.{ampersand, hyphen, less_than}
use Rattle.xml_spec.specs.Bytes.{has, begins_with, no_two}
use Rattle.xml_spec.specs.Characters.{is_char, is_name_start, is_name_char, IsName, IsText, at_colon}
use Rattle.xml_spec.specs.Syntax.{is_white, Reference, LessThan, GreaterThan, Ampersand, Apostrophe, QuotationMark, Decimal, Hexadecimal, IsReference, Piece, Literal, Referred, is_literal, IsPiece, Assignment, is_quote, IsAssignment, Tag, IsTag, Item, Characters, Refers, Section, CommentItem, ProcessingInstruction, EmptyTag, IsItem, IsProcessingInstruction, Token, Alone, StartTag, EndTag, is_run, IsToken, tokens_of}
use Rattle.xml_spec.specs.Document.{Document, IsDeclaration, is_document, print_document, root_of, Writes, Spells}
use Rattle.xml_spec.proofs.Tests.{both_true}

-- an equation of lists from a test that computes
pub same_bytes : (x y : List ℕ) → bytes_eq x y ≡ true → x ≡ y
same_bytes x y h = (bytes_eq-Decides x y).0 h

pub other_bytes : (x y : List ℕ) → bytes_eq x y ≡ false → x ≡ y → ⊥
other_bytes x y h e = let clash : true ≡ false = sym ((bytes_eq-Decides x y).1 e) ∙ h in cc

-- each element passes the test, so each is what it tests
pub each_shown : {X : Type 0} (test : X → Bool) (P : X → Type 0) → ((x : X) → test x ≡ true → P x) →
    (xs : List X) → list_all test xs ≡ true → AllByRecursion P xs
each_shown test P f [] h = tt
each_shown test P f (x ∷ xs) h =
    let parts = both_true (test x) (list_all test xs) h in
    (f x parts.0, each_shown test P f xs parts.1)

-- the bytes are a name of these characters
abbrev pub is_name_of : List ℕ → List ℕ → Bool
is_name_of [] bytes = false
is_name_of (c ∷ cs) bytes = is_name_start c && (list_all is_name_char cs && bytes_eq bytes (encode_utf8_all (c ∷ cs)))

abbrev pub is_name : List ℕ → Bool
is_name bytes = is_name_of (chars bytes) bytes

pub name_of_shown : (cs bytes : List ℕ) → is_name_of cs bytes ≡ true → IsName bytes
name_of_shown [] bytes h = absurd (let clash : false ≡ true = h in cc)
name_of_shown (c ∷ cs) bytes h =
    let first = both_true (is_name_start c) _ h in
    let others = both_true (list_all is_name_char cs) _ first.1 in
    record {
      first = c;
      others = cs;
      starts = first.0;
      goes_on = others.0;
      spelled = same_bytes bytes (encode_utf8_all (c ∷ cs)) others.1;
    }

pub name_shown : (bytes : List ℕ) → is_name bytes ≡ true → IsName bytes
name_shown bytes h = name_of_shown (chars bytes) bytes h

abbrev pub is_text : List ℕ → Bool
is_text bytes = list_all is_char (chars bytes) && bytes_eq bytes (encode_utf8_all (chars bytes))

pub text_shown : (bytes : List ℕ) → is_text bytes ≡ true → IsText bytes
text_shown bytes h =
    let parts = both_true (list_all is_char (chars bytes)) _ h in
    record { characters = chars bytes; allowed = parts.0; spelled = same_bytes bytes (encode_utf8_all (chars bytes)) parts.1 }

abbrev pub is_reference : Reference → Bool
is_reference (Decimal digits) = nat_lt 0 (length digits) && (list_all is_ascii_digit digits && is_char (digits_value 10 digits))
is_reference (Hexadecimal digits) = nat_lt 0 (length digits) && (list_all is_ascii_hexdigit digits && is_char (digits_value 16 digits))
is_reference _ = true

pub reference_shown : (r : Reference) → is_reference r ≡ true → IsReference r
reference_shown LessThan h = tt
reference_shown GreaterThan h = tt
reference_shown Ampersand h = tt
reference_shown Apostrophe h = tt
reference_shown QuotationMark h = tt
reference_shown (Decimal digits) h =
    let some = both_true (nat_lt 0 (length digits)) _ h in
    let each = both_true (list_all is_ascii_digit digits) _ some.1 in
    (ltb-true 0 (length digits) some.0, each.0, each.1)
reference_shown (Hexadecimal digits) h =
    let some = both_true (nat_lt 0 (length digits)) _ h in
    let each = both_true (list_all is_ascii_hexdigit digits) _ some.1 in
    (ltb-true 0 (length digits) some.0, each.0, each.1)

abbrev pub is_piece : ℕ → Piece → Bool
is_piece quote (Literal bytes) = nat_lt 0 (length bytes) && list_all (λ b. not (b == less_than || b == ampersand || b == quote)) bytes
is_piece quote (Referred reference) = is_reference reference

pub piece_shown : (quote : ℕ) (piece : Piece) → is_piece quote piece ≡ true → IsPiece quote piece
piece_shown quote (Literal bytes) h =
    let parts = both_true (nat_lt 0 (length bytes)) _ h in
    (ltb-true 0 (length bytes) parts.0, parts.1)
piece_shown quote (Referred reference) h = reference_shown reference h

abbrev pub is_assignment : Assignment → Bool
is_assignment a =
    (nat_lt 0 (length a.before) && list_all is_white a.before)
    && (is_name a.name
    && ((list_all is_white a.left && list_all is_white a.right)
    && (is_quote a.quote && (list_all (is_piece a.quote) a.pieces && no_two is_literal a.pieces))))

pub assignment_shown : (a : Assignment) → is_assignment a ≡ true → IsAssignment a
assignment_shown a h =
    let first = both_true (nat_lt 0 (length a.before) && list_all is_white a.before) _ h in
    let before = both_true (nat_lt 0 (length a.before)) (list_all is_white a.before) first.0 in
    let name = both_true (is_name a.name) _ first.1 in
    let white = both_true (list_all is_white a.left && list_all is_white a.right) _ name.1 in
    let sides = both_true (list_all is_white a.left) (list_all is_white a.right) white.0 in
    let quote = both_true (is_quote a.quote) _ white.1 in
    let pieces = both_true (list_all (is_piece a.quote) a.pieces) (no_two is_literal a.pieces) quote.1 in
    record {
      apart = ltb-true 0 (length a.before) before.0;
      before = before.1;
      name = name_shown a.name name.0;
      left = sides.0;
      right = sides.1;
      quote = quote.0;
      pieces = each_shown (is_piece a.quote) (IsPiece a.quote) (piece_shown a.quote) a.pieces pieces.0;
      whole_runs = pieces.1;
    }

abbrev pub is_tag : Tag → Bool
is_tag tag = is_name tag.name && (list_all is_assignment tag.assignments && list_all is_white tag.space)

pub tag_shown : (tag : Tag) → is_tag tag ≡ true → IsTag tag
tag_shown tag h =
    let name = both_true (is_name tag.name) _ h in
    let others = both_true (list_all is_assignment tag.assignments) (list_all is_white tag.space) name.1 in
    record {
      name = name_shown tag.name name.0;
      assignments = each_shown is_assignment IsAssignment assignment_shown tag.assignments others.0;
      space = others.1;
    }

abbrev pub has_no_colon : List ℕ → Bool
has_no_colon name = not (is_some (at_colon name))

pub none_shown : {X : Type 0} (o : Option X) → not (is_some o) ≡ true → o ≡ None
none_shown None h = refl
none_shown (Some x) h = absurd (let clash : false ≡ true = h in cc)

abbrev pub is_processing : List ℕ → List ℕ → List ℕ → Bool
is_processing target space value =
    (is_name target && has_no_colon target)
    && (not (bytes_eq (str_to_ascii_lowercase target) (codes "xml"))
    && (list_all is_white space
    && ((not (nat_lt 0 (length value)) || nat_lt 0 (length space))
    && (not (begins_with is_white value) && not (has (codes "?>") value)))))

pub apart_shown : (space value : List ℕ) → (not (nat_lt 0 (length value)) || nat_lt 0 (length space)) ≡ true → 0 < length value → 0 < length space
apart_shown space value h some = ltb-true 0 (length space) (second (nat_lt 0 (length value)) (lt-ltb 0 (length value) some) h)
  where
    second : (b : Bool) → b ≡ true → (not b || nat_lt 0 (length space)) ≡ true → nat_lt 0 (length space) ≡ true
    second true e k = k
    second false e k = absurd (let clash : false ≡ true = e in cc)

pub processing_shown : (target space value : List ℕ) → is_processing target space value ≡ true → IsProcessingInstruction target space value
processing_shown target space value h =
    let named = both_true (is_name target && has_no_colon target) _ h in
    let name = both_true (is_name target) (has_no_colon target) named.0 in
    let other = both_true (not (bytes_eq (str_to_ascii_lowercase target) (codes "xml"))) _ named.1 in
    let white = both_true (list_all is_white space) _ other.1 in
    let apart = both_true (not (nat_lt 0 (length value)) || nat_lt 0 (length space)) _ white.1 in
    let worth = both_true (not (begins_with is_white value)) (not (has (codes "?>") value)) apart.1 in
    record {
      named = (name_shown target name.0, none_shown (at_colon target) name.1);
      not_xml = other_bytes (str_to_ascii_lowercase target) (codes "xml") (not-true _ other.0);
      white = white.0;
      apart = apart_shown space value apart.0;
      begins = not-true _ worth.0;
      closed = not-true _ worth.1;
    }

abbrev pub is_item : Item → Bool
is_item (Characters bytes) =
    nat_lt 0 (length bytes) && (list_all (λ b. not (b == less_than || b == ampersand)) bytes && not (has (codes "]]>") bytes))
is_item (Refers reference) = is_reference reference
is_item (Section bytes) = not (has (codes "]]>") bytes)
is_item (CommentItem bytes) = not (has (codes "--") (bytes ++ hyphen ∷ []))
is_item (ProcessingInstruction target space value) = is_processing target space value
is_item (EmptyTag tag) = is_tag tag

pub item_shown : (item : Item) → is_item item ≡ true → IsItem item
item_shown (Characters bytes) h =
    let some = both_true (nat_lt 0 (length bytes)) _ h in
    let each = both_true (list_all (λ b. not (b == less_than || b == ampersand)) bytes) _ some.1 in
    (ltb-true 0 (length bytes) some.0, each.0, not-true _ each.1)
item_shown (Refers reference) h = reference_shown reference h
item_shown (Section bytes) h = not-true _ h
item_shown (CommentItem bytes) h = not-true _ h
item_shown (ProcessingInstruction target space value) h = processing_shown target space value h
item_shown (EmptyTag tag) h = tag_shown tag h

abbrev pub is_token : Token → Bool
is_token (Alone item) = is_item item
is_token (StartTag tag) = is_tag tag
is_token (EndTag name space) = is_name name && list_all is_white space

pub token_shown : (token : Token) → is_token token ≡ true → IsToken token
token_shown (Alone item) h = item_shown item h
token_shown (StartTag tag) h = tag_shown tag h
token_shown (EndTag name space) h =
    let parts = both_true (is_name name) (list_all is_white space) h in
    (name_shown name parts.0, parts.1)

-- the bytes are written as this document, whose declaration is valid
abbrev pub is_written : List ℕ → Document → Bool
is_written bytes d =
    (bytes_eq bytes (print_document d) && is_text bytes)
    && (is_document d.content && (list_all is_token (tokens_of d.content) && no_two is_run (tokens_of d.content)))

pub writes_shown : (bytes : List ℕ) (d : Document) → IfSome d.declaration IsDeclaration → is_written bytes d ≡ true → Writes bytes d
writes_shown bytes d declared h =
    let first = both_true (bytes_eq bytes (print_document d) && is_text bytes) _ h in
    let bytes_are = both_true (bytes_eq bytes (print_document d)) (is_text bytes) first.0 in
    let shape = both_true (is_document d.content) _ first.1 in
    let tokens = both_true (list_all is_token (tokens_of d.content)) (no_two is_run (tokens_of d.content)) shape.1 in
    record {
      valid = record {
        declaration = declared;
        tokens = record { each = each_shown is_token IsToken token_shown (tokens_of d.content) tokens.0; whole_runs = tokens.1 };
        shape = shape.0;
      };
      printed = same_bytes bytes (print_document d) bytes_are.0;
      characters = text_shown bytes bytes_are.1;
    }

pub written_shown : (bytes : List ℕ) (d : Document) → IfSome d.declaration IsDeclaration → is_written bytes d ≡ true → Spells bytes (root_of d.content)
written_shown bytes d declared h = record { document = d; writes = writes_shown bytes d declared h; means = refl }
