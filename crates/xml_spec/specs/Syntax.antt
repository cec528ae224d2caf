-- How a document is spelled: a tree with a constructor for each production of XML 1.0 (fifth edition) and each
-- choice that a writer has, the bytes that it prints, and what makes it valid.
-- Runs of characters are as long as they can be, so that each document has one such tree.
use Rattle.std.specs.Prelude.{◌≢◌, ℕ, ◌<◌, Bool, true, false, ◌||◌, not, ◌==◌, List, [], ◌∷◌, ◌++◌, length, codes, IsTrue, IsFalse, ⊤}
use Rattle.std.specs.List.{flat_map, AllByRecursion}
use Rattle.std.specs.Char.{is_ascii_digit, is_ascii_hexdigit}
use Rattle.std.specs.Str.{str_to_ascii_lowercase}
use Rattle.std.specs.Str.Parse.{digits_value}
use Rattle.xml_spec.specs.Ascii.{tab, line_feed, carriage_return, space_character, quotation_mark, ampersand, apostrophe, hyphen, semicolon, less_than, equals_sign, greater_than}
use Rattle.xml_spec.specs.Bytes.{AllPass, has, begins_with, no_two}
use Rattle.xml_spec.specs.Characters.{is_char, IsName, IsNoColonName}

-- [3] S ::= (#x20 | #x9 | #xD | #xA)+
abbrev pub is_white : ℕ → Bool
is_white b = b == space_character || b == tab || b == carriage_return || b == line_feed

-- [67] Reference ::= EntityRef | CharRef, with the five entities of 4.6;
-- [66] CharRef ::= '&#' [0-9]+ ';' | '&#x' [0-9a-fA-F]+ ';'
pub data Reference : Type 0 where
  LessThan GreaterThan Ampersand Apostrophe QuotationMark : Reference
  Decimal : (digits : List ℕ) → Reference
  Hexadecimal : (digits : List ℕ) → Reference

abbrev pub print_reference : Reference → List ℕ
print_reference LessThan = codes "&lt;"
print_reference GreaterThan = codes "&gt;"
print_reference Ampersand = codes "&amp;"
print_reference Apostrophe = codes "&apos;"
print_reference QuotationMark = codes "&quot;"
print_reference (Decimal digits) = codes "&#" ++ digits ++ semicolon ∷ []
print_reference (Hexadecimal digits) = codes "&#x" ++ digits ++ semicolon ∷ []

-- the character that a reference stands for
abbrev pub character_of : Reference → ℕ
character_of LessThan = less_than
character_of GreaterThan = greater_than
character_of Ampersand = ampersand
character_of Apostrophe = apostrophe
character_of QuotationMark = quotation_mark
character_of (Decimal digits) = digits_value 10 digits
character_of (Hexadecimal digits) = digits_value 16 digits

-- at least one digit, and "characters referred to using character references MUST match the production for Char" (4.1)
abbrev pub IsReference : Reference → Type 0
IsReference (Decimal digits) = (0 < length digits) × AllPass is_ascii_digit digits × IsTrue (is_char (digits_value 10 digits))
IsReference (Hexadecimal digits) = (0 < length digits) × AllPass is_ascii_hexdigit digits × IsTrue (is_char (digits_value 16 digits))
IsReference _ = ⊤

-- a part of an attribute's value
pub data Piece : Type 0 where
  Literal : (bytes : List ℕ) → Piece
  Referred : (reference : Reference) → Piece

abbrev pub print_piece : Piece → List ℕ
print_piece (Literal bytes) = bytes
print_piece (Referred reference) = print_reference reference

abbrev pub is_literal : Piece → Bool
is_literal (Literal bytes) = true
is_literal (Referred reference) = false

-- [10] AttValue ::= '"' ([^<&"] | Reference)* '"' | "'" ([^<&'] | Reference)* "'"
abbrev pub IsPiece : ℕ → Piece → Type 0
IsPiece quote (Literal bytes) =
    (0 < length bytes) × AllPass (λ b. not (b == less_than || b == ampersand || b == quote)) bytes
IsPiece quote (Referred reference) = IsReference reference

-- S Attribute, with [41] Attribute ::= Name Eq AttValue and [25] Eq ::= S? '=' S?
pub record Assignment : Type 0 where
  pub before : List ℕ
  pub name : List ℕ
  pub left : List ℕ
  pub right : List ℕ
  pub quote : ℕ
  pub pieces : List Piece

abbrev pub print_assignment : Assignment → List ℕ
print_assignment a =
    a.before ++ a.name ++ a.left ++ equals_sign ∷ a.right
    ++ a.quote ∷ flat_map print_piece a.pieces ++ a.quote ∷ []

abbrev pub is_quote : ℕ → Bool
is_quote b = b == quotation_mark || b == apostrophe

pub record IsAssignment (a : Assignment) : Type 0 where
  pub apart : 0 < length a.before
  pub before : AllPass is_white a.before
  pub name : IsName a.name
  pub left : AllPass is_white a.left
  pub right : AllPass is_white a.right
  pub quote : IsTrue (is_quote a.quote)
  pub pieces : AllByRecursion (IsPiece a.quote) a.pieces
  pub whole_runs : IsTrue (no_two is_literal a.pieces)

-- what stands between '<' and '>' or '/>': Name (S Attribute)* S?
pub record Tag : Type 0 where
  pub name : List ℕ
  pub assignments : List Assignment
  pub space : List ℕ

abbrev pub print_tag : Tag → List ℕ
print_tag tag = tag.name ++ flat_map print_assignment tag.assignments ++ tag.space

-- That a name stands once (WFC: Unique Att Spec) is left to the rules on names.
pub record IsTag (tag : Tag) : Type 0 where
  pub name : IsName tag.name
  pub assignments : AllByRecursion IsAssignment tag.assignments
  pub space : AllPass is_white tag.space

-- what stands in content and needs no partner: a run of characters, a reference, a CDATA section, a comment,
-- a processing instruction, a tag of an empty element
pub data Item : Type 0 where
  Characters : (bytes : List ℕ) → Item
  Refers : (reference : Reference) → Item
  Section : (bytes : List ℕ) → Item
  CommentItem : (bytes : List ℕ) → Item
  ProcessingInstruction : (target space value : List ℕ) → Item
  EmptyTag : (tag : Tag) → Item

-- [18] CDSect, [15] Comment, [16] PI, [44] EmptyElemTag
abbrev pub print_item : Item → List ℕ
print_item (Characters bytes) = bytes
print_item (Refers reference) = print_reference reference
print_item (Section bytes) = codes "<![CDATA[" ++ bytes ++ codes "]]>"
print_item (CommentItem bytes) = codes "<!--" ++ bytes ++ codes "-->"
print_item (ProcessingInstruction target space value) = codes "<?" ++ target ++ space ++ value ++ codes "?>"
print_item (EmptyTag tag) = less_than ∷ print_tag tag ++ codes "/>"

abbrev pub is_characters : Item → Bool
is_characters (Characters bytes) = true
is_characters _ = false

-- [17] PITarget ::= Name - (('X' | 'x') ('M' | 'm') ('L' | 'l')), without a colon (Namespaces, 7). The value begins
-- behind the white space.
pub record IsProcessingInstruction (target space value : List ℕ) : Type 0 where
  pub named : IsNoColonName target
  pub not_xml : str_to_ascii_lowercase target ≢ codes "xml"
  pub white : AllPass is_white space
  pub apart : 0 < length value → 0 < length space
  pub begins : IsFalse (begins_with is_white value)
  pub closed : IsFalse (has (codes "?>") value)

-- [14] CharData ::= [^<&]* - ([^<&]* ']]>' [^<&]*); [20] CData ::= (Char* - (Char* ']]>' Char*));
-- [15] the text of a comment has no '--' and does not end in '-'
abbrev pub IsItem : Item → Type 0
IsItem (Characters bytes) =
    (0 < length bytes) × AllPass (λ b. not (b == less_than || b == ampersand)) bytes × IsFalse (has (codes "]]>") bytes)
IsItem (Refers reference) = IsReference reference
IsItem (Section bytes) = IsFalse (has (codes "]]>") bytes)
IsItem (CommentItem bytes) = IsFalse (has (codes "--") (bytes ++ hyphen ∷ []))
IsItem (ProcessingInstruction target space value) = IsProcessingInstruction target space value
IsItem (EmptyTag tag) = IsTag tag

-- a document is written as tokens, one after the other
pub data Token : Type 0 where
  Alone : (item : Item) → Token
  StartTag : (tag : Tag) → Token
  EndTag : (name space : List ℕ) → Token

-- [40] STag ::= '<' Name (S Attribute)* S? '>'; [42] ETag ::= '</' Name S? '>'
abbrev pub print_token : Token → List ℕ
print_token (Alone item) = print_item item
print_token (StartTag tag) = less_than ∷ print_tag tag ++ greater_than ∷ []
print_token (EndTag name space) = codes "</" ++ name ++ space ++ greater_than ∷ []

abbrev pub is_run : Token → Bool
is_run (Alone item) = is_characters item
is_run _ = false

abbrev pub IsToken : Token → Type 0
IsToken (Alone item) = IsItem item
IsToken (StartTag tag) = IsTag tag
IsToken (EndTag name space) = IsName name × AllPass is_white space

-- the bytes of tokens in a row
abbrev pub print_tokens : List Token → List ℕ
print_tokens tokens = flat_map print_token tokens

-- each token is valid, and no run of characters is cut in two
pub record AreTokens (tokens : List Token) : Type 0 where
  pub each : AllByRecursion IsToken tokens
  pub whole_runs : IsTrue (no_two is_run tokens)

-- [43] content: items, and elements with a start tag, their content and an end tag of the same name
-- ([39] element ::= EmptyElemTag | STag content ETag; WFC: Element Type Match)
pub data Content : Type 0 where
  NoContent : Content
  Then : (item : Item) (rest : Content) → Content
  Pair : (tag : Tag) (inner : Content) (space : List ℕ) (rest : Content) → Content

-- the tokens that write a content
abbrev pub tokens_of : Content → List Token
tokens_of NoContent = []
tokens_of (Then item rest) = Alone item ∷ tokens_of rest
tokens_of (Pair tag inner space rest) =
    StartTag tag ∷ tokens_of inner ++ EndTag tag.name space ∷ tokens_of rest
