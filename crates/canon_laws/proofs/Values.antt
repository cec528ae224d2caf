-- The assignments and tags that the canonical form writes.
use Rattle.std.proofs.Common.{◌≡◌, ℕ, Bool, true, false, cond, ◌||◌, not, ◌==◌, List, [], ◌∷◌, ◌++◌, map, Option, Some, None, refl, sym, ◌∙◌, ap, append_assoc, arith}
use Rattle.std.specs.List.{flat_map, AllByRecursion}
use Rattle.std.proofs.lemmas.Grind.{flat_map-append}
use Rattle.std.proofs.lemmas.List.{append-nil}
use Rattle.xml_spec.specs.Ascii.{tab, line_feed, carriage_return, space_character, quotation_mark, ampersand, less_than, equals_sign, greater_than}
use Rattle.xml_spec.specs.Bytes.{no_two}
use Rattle.xml_spec.specs.Characters.{IsName}
use Rattle.xml_spec.specs.Tree.{Attribute}
use Rattle.xml_spec.specs.Syntax.{Reference, Piece, Literal, Referred, print_piece, is_literal, IsPiece, Assignment, print_assignment, IsAssignment, Tag, print_tag, IsTag}
use Rattle.xml_spec.specs.Meaning.{line_ends, as_blank, piece_value, attribute_of, attributes_of}
use Rattle.xml_spec.specs.Names.{Binding}
use Rattle.xml_spec.specs.Canonical.{escape_value_byte, escape_value, print_attribute, print_binding, print_start}
use Rattle.xml_spec.proofs.Tests.{and_true}
use Rattle.canon_laws.specs.Trees.{declaration_of}
use Rattle.canon_laws.specs.Writable.{IsWritableAttribute}
use Rattle.canon_laws.proofs.Escapes.{is_plain_value, IsEscape, value_reference, value_escape}

-- a byte in front of the parts of a value, which stands as it is, or as a reference
abbrev pub with_literal : ℕ → List Piece → List Piece
with_literal b [] = Literal (b ∷ []) ∷ []
with_literal b (Literal bytes ∷ pieces) = Literal (b ∷ bytes) ∷ pieces
with_literal b (Referred r ∷ pieces) = Literal (b ∷ []) ∷ Referred r ∷ pieces

abbrev pub with_value_byte : ℕ → Option Reference → List Piece → List Piece
with_value_byte b None pieces = with_literal b pieces
with_value_byte b (Some r) pieces = Referred r ∷ pieces

-- the parts that write a value
abbrev pub pieces_of : List ℕ → List Piece
pieces_of [] = []
pieces_of (b ∷ bytes) = with_value_byte b (value_reference b) (pieces_of bytes)

literal_printed : (b : ℕ) (pieces : List Piece) → flat_map print_piece (with_literal b pieces) ≡ b ∷ flat_map print_piece pieces
literal_printed b [] = refl
literal_printed b (Literal bytes ∷ pieces) = refl
literal_printed b (Referred r ∷ pieces) = refl

byte_printed : (b : ℕ) (written : List ℕ) (reference : Option Reference) (pieces : List Piece) → IsEscape is_plain_value b written reference →
    flat_map print_piece (with_value_byte b reference pieces) ≡ written ++ flat_map print_piece pieces
byte_printed b written None pieces e = literal_printed b pieces ∙ ap (λ z. z ++ flat_map print_piece pieces) (sym e.0)
byte_printed b written (Some r) pieces e = ap (λ z. z ++ flat_map print_piece pieces) (sym e.printed)

pieces_printed : (bytes : List ℕ) → flat_map print_piece (pieces_of bytes) ≡ escape_value bytes
pieces_printed [] = refl
pieces_printed (b ∷ bytes) =
    byte_printed b (escape_value_byte b) (value_reference b) (pieces_of bytes) (value_escape b)
    ∙ ap (λ z. escape_value_byte b ++ z) (pieces_printed bytes)

-- of a byte that is written as it is
plain_parts : (b : ℕ) → is_plain_value b ≡ true →
    ((b == carriage_return) ≡ false) × (as_blank b ≡ b) × (not (b == less_than || b == ampersand || b == quotation_mark) ≡ true)
plain_parts b h = which (b == ampersand) (b == less_than) (b == quotation_mark) (b == tab) (b == line_feed) (b == carriage_return) h
  where
    which : (one two three four five six : Bool) → not (one || two || three || four || five || six) ≡ true →
        (six ≡ false) × (cond (four || five) space_character b ≡ b) × (not (two || one || three) ≡ true)
    which false false false false false false k = (refl, refl, refl)
    which true two three four five six k = absurd (let clash : false ≡ true = k in cc)
    which false true three four five six k = absurd (let clash : false ≡ true = k in cc)
    which false false true four five six k = absurd (let clash : false ≡ true = k in cc)
    which false false false true five six k = absurd (let clash : false ≡ true = k in cc)
    which false false false false true six k = absurd (let clash : false ≡ true = k in cc)
    which false false false false false true k = absurd (let clash : false ≡ true = k in cc)

-- a byte that ends no line stands in front of the rest
pub line_ends_on : (b : ℕ) (bytes : List ℕ) → (b == carriage_return) ≡ false → line_ends (b ∷ bytes) ≡ b ∷ line_ends bytes
line_ends_on b bytes h = rw h refl

literal_value : (b : ℕ) (bytes : List ℕ) → is_plain_value b ≡ true → piece_value (Literal (b ∷ bytes)) ≡ b ∷ piece_value (Literal bytes)
literal_value b bytes h =
    let parts = plain_parts b h in
    ap (map as_blank) (line_ends_on b bytes parts.0) ∙ ap (λ z. z ∷ map as_blank (line_ends bytes)) parts.1

with_literal_value : (b : ℕ) (pieces : List Piece) → is_plain_value b ≡ true →
    flat_map piece_value (with_literal b pieces) ≡ b ∷ flat_map piece_value pieces
with_literal_value b [] h = ap (λ z. z ++ []) (literal_value b [] h)
with_literal_value b (Literal bytes ∷ pieces) h = ap (λ z. z ++ flat_map piece_value pieces) (literal_value b bytes h)
with_literal_value b (Referred r ∷ pieces) h = ap (λ z. z ++ flat_map piece_value (Referred r ∷ pieces)) (literal_value b [] h)

byte_value : (b : ℕ) (written : List ℕ) (reference : Option Reference) (pieces : List Piece) → IsEscape is_plain_value b written reference →
    flat_map piece_value (with_value_byte b reference pieces) ≡ b ∷ flat_map piece_value pieces
byte_value b written None pieces e = with_literal_value b pieces e.1
byte_value b written (Some r) pieces e = ap (λ z. z ++ flat_map piece_value pieces) e.means

pieces_value : (bytes : List ℕ) → flat_map piece_value (pieces_of bytes) ≡ bytes
pieces_value [] = refl
pieces_value (b ∷ bytes) =
    byte_value b (escape_value_byte b) (value_reference b) (pieces_of bytes) (value_escape b) ∙ ap (λ z. b ∷ z) (pieces_value bytes)

-- parts that are valid, and none cut in two
record ArePieces (pieces : List Piece) : Type 0 where
  each : AllByRecursion (IsPiece quotation_mark) pieces
  whole : no_two is_literal pieces ≡ true

one_literal : (b : ℕ) → is_plain_value b ≡ true → IsPiece quotation_mark (Literal (b ∷ []))
one_literal b h = (omega arith, and_true _ _ (plain_parts b h).2 refl)

literal_valid : (b : ℕ) (pieces : List Piece) → is_plain_value b ≡ true → ArePieces pieces → ArePieces (with_literal b pieces)
literal_valid b [] h v = record { each = (one_literal b h, tt); whole = refl }
literal_valid b (Literal bytes ∷ pieces) h v =
    record { each = ((omega arith, and_true _ _ (plain_parts b h).2 v.each.0.1), v.each.1); whole = v.whole }
literal_valid b (Referred r ∷ pieces) h v = record { each = (one_literal b h, v.each); whole = v.whole }

byte_valid : (b : ℕ) (written : List ℕ) (reference : Option Reference) (pieces : List Piece) → IsEscape is_plain_value b written reference →
    ArePieces pieces → ArePieces (with_value_byte b reference pieces)
byte_valid b written None pieces e v = literal_valid b pieces e.1 v
byte_valid b written (Some r) pieces e v = record { each = (e.valid, v.each); whole = v.whole }

pieces_valid : (bytes : List ℕ) → ArePieces (pieces_of bytes)
pieces_valid [] = record { each = tt; whole = refl }
pieces_valid (b ∷ bytes) =
    byte_valid b (escape_value_byte b) (value_reference b) (pieces_of bytes) (value_escape b) (pieces_valid bytes)

-- an attribute as it is written
abbrev pub assignment_of : Attribute → Assignment
assignment_of a =
    record { before = space_character ∷ []; name = a.name; left = []; right = []; quote = quotation_mark; pieces = pieces_of a.value }

attribute_parts : (name value : List ℕ) →
    print_attribute name value ≡ space_character ∷ (name ++ (equals_sign ∷ quotation_mark ∷ (escape_value value ++ quotation_mark ∷ [])))
attribute_parts name value = simp append_assoc

assignment_printed : (a : Attribute) → print_assignment (assignment_of a) ≡ print_attribute a.name a.value
assignment_printed a =
    (let parts : print_assignment (assignment_of a)
    ≡ space_character ∷ (a.name ++ (equals_sign ∷ quotation_mark ∷ (flat_map print_piece (pieces_of a.value) ++ quotation_mark ∷ []))) =
    simp append_assoc in parts)
    ∙ ap (λ z. space_character ∷ (a.name ++ (equals_sign ∷ quotation_mark ∷ (z ++ quotation_mark ∷ [])))) (pieces_printed a.value)
    ∙ sym (attribute_parts a.name a.value)

assignment_means : (a : Attribute) → attribute_of (assignment_of a) ≡ a
assignment_means a = λ i. record { name = a.name; value = pieces_value a.value i }

assignment_valid : (a : Attribute) → IsWritableAttribute a → IsAssignment (assignment_of a)
assignment_valid a w =
    let pieces = pieces_valid a.value in
    record {
      apart = omega arith;
      before = refl;
      name = w.name;
      left = refl;
      right = refl;
      quote = refl;
      pieces = pieces.each;
      whole_runs = pieces.whole;
    }

-- a tag as it is written
abbrev pub tag_of : List ℕ → List Attribute → Tag
tag_of name attributes = record { name = name; assignments = map assignment_of attributes; space = [] }

assignments_valid : (attributes : List Attribute) → AllByRecursion IsWritableAttribute attributes →
    AllByRecursion IsAssignment (map assignment_of attributes)
assignments_valid [] w = tt
assignments_valid (a ∷ attributes) w = (assignment_valid a w.0, assignments_valid attributes w.1)

pub tag_valid : (name : List ℕ) (attributes : List Attribute) → IsName name → AllByRecursion IsWritableAttribute attributes →
    IsTag (tag_of name attributes)
tag_valid name attributes n w = record { name = n; assignments = assignments_valid attributes w; space = refl }

assignments_mean : (attributes : List Attribute) → map attribute_of (map assignment_of attributes) ≡ attributes
assignments_mean [] = refl
assignments_mean (a ∷ attributes) = λ i. assignment_means a i ∷ assignments_mean attributes i

pub tag_means : (name : List ℕ) (attributes : List Attribute) → attributes_of (tag_of name attributes) ≡ attributes
tag_means name attributes = assignments_mean attributes

assignments_printed : (attributes : List Attribute) →
    flat_map print_assignment (map assignment_of attributes) ≡ flat_map (λ a. print_attribute a.name a.value) attributes
assignments_printed [] = refl
assignments_printed (a ∷ attributes) = λ i. assignment_printed a i ++ assignments_printed attributes i

declarations_printed : (bindings : List Binding) →
    flat_map (λ a. print_attribute a.name a.value) (map declaration_of bindings) ≡ flat_map print_binding bindings
declarations_printed [] = refl
declarations_printed (b ∷ bindings) = ap (λ z. print_binding b ++ z) (declarations_printed bindings)

pub start_printed : (name : List ℕ) (bindings : List Binding) (attributes : List Attribute) →
    less_than ∷ print_tag (tag_of name (map declaration_of bindings ++ attributes)) ++ greater_than ∷ [] ≡ print_start name bindings attributes
start_printed name bindings attributes =
    let assignments : flat_map print_assignment (map assignment_of (map declaration_of bindings ++ attributes))
    ≡ flat_map print_binding bindings ++ flat_map (λ a. print_attribute a.name a.value) attributes =
    assignments_printed (map declaration_of bindings ++ attributes)
    ∙ flat_map-append (λ a. print_attribute a.name a.value) (map declaration_of bindings) attributes
    ∙ ap (λ z. z ++ flat_map (λ a. print_attribute a.name a.value) attributes) (declarations_printed bindings) in
    ap (λ z. less_than ∷ (name ++ z ++ []) ++ greater_than ∷ []) assignments
    ∙ regroup (flat_map print_binding bindings) (flat_map (λ a. print_attribute a.name a.value) attributes)
  where
    regroup : (x y : List ℕ) → less_than ∷ (name ++ (x ++ y) ++ []) ++ greater_than ∷ [] ≡ less_than ∷ name ++ x ++ y ++ greater_than ∷ []
    regroup x y =
        ap (λ z. less_than ∷ z ++ greater_than ∷ []) (append-nil (name ++ (x ++ y)) ∙ sym (append_assoc name x y))
