-- Documents: which bytes spell which tree, and where each element stands in them. XML 1.0 (fifth edition), 2.1
-- and 2.8, without document type declarations.
use Rattle.std.specs.Prelude.{◌≡◌, ℕ, ◌+◌, ◌<◌, ◌⊎◌, Bool, true, false, ◌&&◌, List, [], ◌∷◌, ◌++◌, length, codes, Option, Some, None, if◌then◌else◌, IsTrue, IfSome, slice_get, unwrap_or}
use Rattle.std.specs.List.{list_all}
use Rattle.std.specs.Option.{option_map}
use Rattle.std.specs.Str.{str_to_ascii_lowercase}
use Rattle.xml_spec.specs.Ascii.{equals_sign}
use Rattle.xml_spec.specs.Bytes.{AllPass}
use Rattle.xml_spec.specs.Characters.{IsText}
use Rattle.xml_spec.specs.Tree.{Nodes, NoNodes, Element}
use Rattle.xml_spec.specs.Syntax.{is_white, is_quote, Item, Characters, CommentItem, ProcessingInstruction, EmptyTag, print_item, print_token, StartTag, EndTag, print_tokens, AreTokens, Content, NoContent, Then, Pair, tokens_of}
use Rattle.xml_spec.specs.Meaning.{attributes_of, nodes_of}

-- a part of the XML declaration behind its name: S, and then Eq and a quoted value behind the name
pub record Setting : Type 0 where
  pub before : List ℕ
  pub left : List ℕ
  pub right : List ℕ
  pub quote : ℕ
  pub value : List ℕ

abbrev pub print_setting : List ℕ → Setting → List ℕ
print_setting name s =
    s.before ++ name ++ s.left ++ equals_sign ∷ s.right ++ s.quote ∷ s.value ++ s.quote ∷ []

pub record IsSetting (s : Setting) : Type 0 where
  pub apart : 0 < length s.before
  pub before : AllPass is_white s.before
  pub left : AllPass is_white s.left
  pub right : AllPass is_white s.right
  pub quote : IsTrue (is_quote s.quote)

-- [23] XMLDecl ::= '<?xml' VersionInfo EncodingDecl? SDDecl? S? '?>'
pub record Declaration : Type 0 where
  pub version : Setting
  pub encoding : Option Setting
  pub standalone : Option Setting
  pub space : List ℕ

abbrev pub print_optional : List ℕ → Option Setting → List ℕ
print_optional name None = []
print_optional name (Some setting) = print_setting name setting

abbrev pub print_declaration : Declaration → List ℕ
print_declaration d =
    codes "<?xml" ++ print_setting (codes "version") d.version ++ print_optional (codes "encoding") d.encoding
    ++ print_optional (codes "standalone") d.standalone ++ d.space ++ codes "?>"

-- the version is 1.0, the encoding UTF-8 in any case of its letters, standalone is yes or no
pub record IsDeclaration (d : Declaration) : Type 0 where
  pub version : IsSetting d.version × (d.version.value ≡ codes "1.0")
  pub encoding : IfSome d.encoding (λ s. IsSetting s × (str_to_ascii_lowercase s.value ≡ codes "utf-8"))
  pub standalone : IfSome d.standalone (λ s. IsSetting s × ((s.value ≡ codes "yes") ⊎ (s.value ≡ codes "no")))
  pub space : AllPass is_white d.space

-- [27] Misc ::= Comment | PI | S
abbrev pub is_misc : Item → Bool
is_misc (Characters bytes) = list_all is_white bytes
is_misc (CommentItem bytes) = true
is_misc (ProcessingInstruction target space value) = true
is_misc _ = false

-- Misc*
abbrev pub is_epilog : Content → Bool
is_epilog NoContent = true
is_epilog (Then item rest) = is_misc item && is_epilog rest
is_epilog (Pair tag inner space rest) = false

-- [1] document ::= prolog element Misc*; [22] prolog ::= XMLDecl? Misc*
abbrev pub is_document : Content → Bool
is_document NoContent = false
is_document (Then (EmptyTag tag) rest) = is_epilog rest
is_document (Then item rest) = is_misc item && is_document rest
is_document (Pair tag inner space rest) = is_epilog rest

-- the one element of a document
abbrev pub root_of : Content → Nodes
root_of NoContent = NoNodes
root_of (Then (EmptyTag tag) rest) = Element tag.name (attributes_of tag) NoNodes NoNodes
root_of (Then item rest) = root_of rest
root_of (Pair tag inner space rest) = Element tag.name (attributes_of tag) (nodes_of inner) NoNodes

-- a byte order mark or none, the XML declaration or none, and the rest
pub record Document : Type 0 where
  pub mark : Bool
  pub declaration : Option Declaration
  pub content : Content

-- U+FEFF in UTF-8
abbrev pub print_mark : Bool → List ℕ
print_mark mark = if mark then 0xEF ∷ 0xBB ∷ 0xBF ∷ [] else []

-- what stands before the content
abbrev pub print_head : Document → List ℕ
print_head d = print_mark d.mark ++ unwrap_or (option_map print_declaration d.declaration) []

abbrev pub print_document : Document → List ℕ
print_document d = print_head d ++ print_tokens (tokens_of d.content)

pub record IsDocument (d : Document) : Type 0 where
  pub declaration : IfSome d.declaration IsDeclaration
  pub tokens : AreTokens (tokens_of d.content)
  pub shape : IsTrue (is_document d.content)

-- the bytes are these characters, written so
pub record Writes (bytes : List ℕ) (d : Document) : Type 0 where
  pub valid : IsDocument d
  pub printed : bytes ≡ print_document d
  pub characters : IsText bytes

-- the bytes spell this tree: some valid document is written so and means it
pub record Spells (bytes : List ℕ) (tree : Nodes) : Type 0 where
  pub document : Document
  pub writes : Writes bytes document
  pub means : tree ≡ root_of document.content

-- a range of bytes, from the first to behind the last
pub record Span : Type 0 where
  pub start : ℕ
  pub end : ℕ

abbrev pub span_of : ℕ → List ℕ → Span
span_of at bytes = record { start = at; end = at + length bytes }

-- where the elements of a content stand, in document order, from their first '<' to behind their last '>'; the
-- content begins at this place
abbrev pub spans_of : ℕ → Content → List Span
spans_of at NoContent = []
spans_of at (Then (EmptyTag tag) rest) =
    span_of at (print_item (EmptyTag tag)) ∷ spans_of (at + length (print_item (EmptyTag tag))) rest
spans_of at (Then item rest) = spans_of (at + length (print_item item)) rest
spans_of at (Pair tag inner space rest) =
    let begin = at + length (print_token (StartTag tag)) in
    let behind = begin + length (print_tokens (tokens_of inner)) + length (print_token (EndTag tag.name space)) in
    record { start = at; end = behind } ∷ spans_of begin inner ++ spans_of behind rest

-- element n, counted from 0 in document order, stands there in the bytes
pub record IsRange (bytes : List ℕ) (n : ℕ) (span : Span) : Type 0 where
  pub document : Document
  pub writes : Writes bytes document
  pub place : slice_get (spans_of (length (print_head document)) document.content) n ≡ Some span
