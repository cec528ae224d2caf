-- How the first part of a text is read: a name, an equals sign, a value, an attribute, a tag, a run of characters, a
-- comment, an instruction. Each word says that the bytes are this part and then what follows it.
use Rattle.std.specs.Prelude.{◌≡◌, ℕ, ◌<◌, ◌⊎◌, Bool, ◌||◌, ◌&&◌, not, ◌==◌, nat_lt, List, [], ◌∷◌, ◌++◌, map, length, codes, Option, IsTrue, IsFalse, ⊤}
use Rattle.std.specs.Option.{MatchOption}
use Rattle.std.specs.List.{list_any, flat_map, AllByRecursion}
use denote.Ref.{Bor}
use Rattle.xml_spec.specs.Ascii.{tab, line_feed, carriage_return, hyphen, ampersand, less_than, equals_sign, greater_than}
use Rattle.xml_spec.specs.Bytes.{AllPass, has, begins_with, no_two}
use Rattle.xml_spec.specs.Characters.{is_name_char, IsName}
use Rattle.xml_spec.specs.Tree as tree
use Rattle.xml_spec.specs.Syntax.{is_white, is_quote, Piece, print_piece, is_literal, IsPiece, Assignment, print_assignment, IsAssignment, Tag, print_tag, IsTag, IsProcessingInstruction, Token}
use Rattle.xml_spec.specs.Meaning.{piece_value, attribute_of, attributes_of}
use Rattle.xml_spec.specs.Laws.{BeginsWith}
use Rattle.xml_tokens.specs.declared.class.Class.{Class}
use Rattle.xml_tokens.specs.declared.class.Class.TheVariants as classes
use Rattle.xml_tokens.specs.declared.token.Markup.{Markup}
use Rattle.xml_tokens.specs.declared.token.TokenFault.{TokenFault}
use Rattle.xml_tokens.specs.declared.token.TokenFault.TheVariants.{Invalid, NoMemory}
use Rattle.xml_tokens.specs.Views.{Shows}

-- the bytes that follow names in markup, and those that never stand in one
abbrev pub delimiters : List ℕ
delimiters = codes " \t\r\n=/>?<&\"'!;#"

-- no delimiter: each byte of a name is such a byte
abbrev pub is_name_byte : ℕ → Bool
is_name_byte b = not (list_any (λ d. d == b) delimiters)

-- a byte of a run of characters
abbrev pub is_character_byte : ℕ → Bool
is_character_byte b = not (b == less_than || b == ampersand)

-- a byte of a value that stands in these quotes
abbrev pub is_value_byte : ℕ → ℕ → Bool
is_value_byte quote b = not (b == less_than || b == ampersand || b == quote)

-- a byte of a value that means itself
abbrev pub is_kept_byte : ℕ → Bool
is_kept_byte b = not (b == tab || b == line_feed || b == carriage_return || b == ampersand)

-- another byte than this one
abbrev pub is_other : ℕ → ℕ → Bool
is_other byte b = not (b == byte)

-- the bytes of a class
abbrev pub is_in : Class → ℕ → Bool
is_in classes.Name b = is_name_byte b
is_in classes.White b = is_white b
is_in classes.Characters b = is_character_byte b
is_in (classes.Value quote) b = is_value_byte quote b
is_in classes.Kept b = is_kept_byte b

-- the bytes that end a run of the class are ASCII, or those of the run are: the text may be cut there
abbrev pub IsCut : Class → Type 0
IsCut (classes.Value quote) = quote < 128
IsCut _ = ⊤

-- a character of ASCII that may stand in a name
abbrev pub is_ascii_name_byte : ℕ → Bool
is_ascii_name_byte b = nat_lt b 128 && is_name_char b

-- the mark stands behind the front, and nowhere before: not even across the end of the front
pub record CutAt (mark bytes front behind : List ℕ) : Type 0 where
  pub split : bytes ≡ front ++ (mark ++ behind)
  pub first : (a rest : List ℕ) → length a < length front → ¬ (bytes ≡ a ++ (mark ++ rest))

-- a line end or a tab, and what follows it: CR LF, CR, LF, tab
abbrev pub BlankAt : List ℕ → List ℕ → Type 0
BlankAt bytes behind =
    (bytes ≡ carriage_return ∷ line_feed ∷ behind)
    ⊎ ((bytes ≡ carriage_return ∷ behind) × ((x : List ℕ) → ¬ (behind ≡ line_feed ∷ x)))
    ⊎ (bytes ≡ line_feed ∷ behind) ⊎ (bytes ≡ tab ∷ behind)

abbrev pub NoBlank : List ℕ → Type 0
NoBlank bytes =
    ((x : List ℕ) → ¬ (bytes ≡ carriage_return ∷ x)) × ((x : List ℕ) → ¬ (bytes ≡ line_feed ∷ x))
    × ((x : List ℕ) → ¬ (bytes ≡ tab ∷ x))

-- a name that ends where it does
pub record NameAt (bytes name behind : List ℕ) : Type 0 where
  pub named : IsName name
  pub split : bytes ≡ name ++ behind
  pub ends : IsFalse (begins_with is_name_byte behind)

-- an equals sign with white space round it
pub record EqualsAt (bytes behind : List ℕ) : Type 0 where
  pub left : List ℕ
  pub right : List ℕ
  pub left_white : AllPass is_white left
  pub right_white : AllPass is_white right
  pub split : bytes ≡ left ++ equals_sign ∷ (right ++ behind)
  pub ends : IsFalse (begins_with is_white behind)

-- a quoted value without references, as it is written
pub record QuotedAt (bytes value behind : List ℕ) : Type 0 where
  pub quote : ℕ
  pub quoted : IsTrue (is_quote quote)
  pub passes : AllPass (is_value_byte quote) value
  pub split : bytes ≡ quote ∷ (value ++ quote ∷ behind)

-- the parts of a value up to the quote, and what they mean
pub record PiecesAt (quote : ℕ) (bytes value behind : List ℕ) : Type 0 where
  pub pieces : List Piece
  pub valid : AllByRecursion (IsPiece quote) pieces
  pub whole_runs : IsTrue (no_two is_literal pieces)
  pub means : value ≡ flat_map piece_value pieces
  pub split : bytes ≡ flat_map print_piece pieces ++ quote ∷ behind

-- a quoted value and what it means
pub record ValueAt (bytes value behind : List ℕ) : Type 0 where
  pub quote : ℕ
  pub inner : List ℕ
  pub quoted : IsTrue (is_quote quote)
  pub split : bytes ≡ quote ∷ inner
  pub pieces : PiecesAt quote inner value behind

-- a name, an equals sign and a quoted value
pub record AssignedAt (bytes : List ℕ) (attribute : tree.Attribute) (behind : List ℕ) : Type 0 where
  pub sign : List ℕ
  pub quote : List ℕ
  pub named : NameAt bytes attribute.name sign
  pub equated : EqualsAt sign quote
  pub valued : ValueAt quote attribute.value behind

-- an assignment that means this attribute
pub record AssignmentAt (bytes : List ℕ) (attribute : tree.Attribute) (behind : List ℕ) : Type 0 where
  pub assignment : Assignment
  pub valid : IsAssignment assignment
  pub means : attribute ≡ attribute_of assignment
  pub split : bytes ≡ print_assignment assignment ++ behind

-- a tag's attributes and the white space behind them, up to what is neither white space nor of a name
pub record AttributesAt (bytes : List ℕ) (attributes : List tree.Attribute) (behind : List ℕ) : Type 0 where
  pub assignments : List Assignment
  pub space : List ℕ
  pub valid : AllByRecursion IsAssignment assignments
  pub white : AllPass is_white space
  pub mean : attributes ≡ map attribute_of assignments
  pub split : bytes ≡ flat_map print_assignment assignments ++ (space ++ behind)
  pub not_white : IsFalse (begins_with is_white behind)
  pub not_name : IsFalse (begins_with is_name_byte behind)

-- attributes that were read, and what is left behind them
pub record AreSoFar (bytes : List ℕ) (attributes : List tree.Attribute) (rest : List ℕ) : Type 0 where
  pub assignments : List Assignment
  pub valid : AllByRecursion IsAssignment assignments
  pub mean : attributes ≡ map attribute_of assignments
  pub split : bytes ≡ flat_map print_assignment assignments ++ rest

-- what follows '<' is no end tag, no instruction, no comment and no section
pub record BeginsTag (bytes : List ℕ) : Type 0 where
  pub no_end : (x : List ℕ) → ¬ (bytes ≡ codes "/" ++ x)
  pub no_instruction : (x : List ℕ) → ¬ (bytes ≡ codes "?" ++ x)
  pub no_declaration : (x : List ℕ) → ¬ (bytes ≡ codes "!" ++ x)

-- what stands between the signs of a tag, up to what is neither white space nor of a name
pub record TagAt (bytes name : List ℕ) (attributes : List tree.Attribute) (behind : List ℕ) : Type 0 where
  pub tag : Tag
  pub valid : IsTag tag
  pub named : name ≡ tag.name
  pub mean : attributes ≡ attributes_of tag
  pub split : bytes ≡ print_tag tag ++ behind
  pub not_white : IsFalse (begins_with is_white behind)
  pub not_name : IsFalse (begins_with is_name_byte behind)

-- the name and the white space of an end tag, and the sign that closes it
pub record EndAt (bytes name behind : List ℕ) : Type 0 where
  pub space : List ℕ
  pub named : IsName name
  pub white : AllPass is_white space
  pub split : bytes ≡ name ++ (space ++ greater_than ∷ behind)

-- a run of characters that is as long as it can be
pub record CharactersAt (bytes text behind : List ℕ) : Type 0 where
  pub some : 0 < length text
  pub passes : AllPass is_character_byte text
  pub not_closed : IsFalse (has (codes "]]>") text)
  pub split : bytes ≡ text ++ behind
  pub ends : IsFalse (begins_with is_character_byte behind)

-- the text of a comment and the mark that closes it
pub record CommentAt (bytes text behind : List ℕ) : Type 0 where
  pub apart : IsFalse (has (codes "--") (text ++ hyphen ∷ []))
  pub split : bytes ≡ text ++ (codes "-->" ++ behind)

-- an instruction behind its sign
pub record ProcessingInstructionAt (bytes target value behind : List ℕ) : Type 0 where
  pub space : List ℕ
  pub valid : IsProcessingInstruction target space value
  pub split : bytes ≡ target ++ (space ++ (value ++ (codes "?>" ++ behind)))

-- no name begins the bytes, and so on
abbrev pub NoName : List ℕ → Type 0
NoName bytes = (name behind : List ℕ) → ¬ (NameAt bytes name behind)

abbrev pub NoEquals : List ℕ → Type 0
NoEquals bytes = (behind : List ℕ) → ¬ (EqualsAt bytes behind)

abbrev pub NoQuote : List ℕ → Type 0
NoQuote bytes = (quote : ℕ) (behind : List ℕ) → IsTrue (is_quote quote) → ¬ (bytes ≡ quote ∷ behind)

abbrev pub NoQuoted : List ℕ → Type 0
NoQuoted bytes = (value behind : List ℕ) → ¬ (QuotedAt bytes value behind)

abbrev pub NoPieces : ℕ → List ℕ → Type 0
NoPieces quote bytes = (value behind : List ℕ) → ¬ (PiecesAt quote bytes value behind)

abbrev pub NoValue : List ℕ → Type 0
NoValue bytes = (value behind : List ℕ) → ¬ (ValueAt bytes value behind)

abbrev pub NoAssigned : List ℕ → Type 0
NoAssigned bytes = (attribute : tree.Attribute) (behind : List ℕ) → ¬ (AssignedAt bytes attribute behind)

abbrev pub NoAssignment : List ℕ → Type 0
NoAssignment bytes = (attribute : tree.Attribute) (behind : List ℕ) → ¬ (AssignmentAt bytes attribute behind)

abbrev pub NoAttributes : List ℕ → Type 0
NoAttributes bytes = (attributes : List tree.Attribute) (behind : List ℕ) → ¬ (AttributesAt bytes attributes behind)

abbrev pub NoTag : List ℕ → Type 0
NoTag bytes = (name : List ℕ) (attributes : List tree.Attribute) (behind : List ℕ) → ¬ (TagAt bytes name attributes behind)

abbrev pub NoEnd : List ℕ → Type 0
NoEnd bytes = (name behind : List ℕ) → ¬ (EndAt bytes name behind)

abbrev pub NoCharacters : List ℕ → Type 0
NoCharacters bytes = (text behind : List ℕ) → ¬ (CharactersAt bytes text behind)

abbrev pub NoComment : List ℕ → Type 0
NoComment bytes = (text behind : List ℕ) → ¬ (CommentAt bytes text behind)

abbrev pub NoProcessingInstruction : List ℕ → Type 0
NoProcessingInstruction bytes = (target value behind : List ℕ) → ¬ (ProcessingInstructionAt bytes target value behind)

-- no valid token begins the bytes
abbrev pub NoToken : List ℕ → Type 0
NoToken bytes = (token : Token) (behind : List ℕ) → ¬ (BeginsWith bytes token behind)

-- the answer is the token that begins the bytes with what follows it, which is no tag with attributes, and none where no
-- valid token begins them
abbrev pub ReadsToken : List ℕ → Option (Markup × Bor (List ℕ)) → Type 0
ReadsToken bytes answer = MatchOption answer (NoToken bytes)
    (λ found. (token : Token) × ((attributes : List tree.Attribute) → Shows token found.0 attributes) × BeginsWith bytes token found.1.now)

-- memory ran out, or the bytes are not XML, which says this
abbrev pub IsFaultFor : Type 0 → TokenFault → Type 0
IsFaultFor unread e = (e ≡ NoMemory) ⊎ ((e ≡ Invalid) × unread)
