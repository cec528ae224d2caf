-- What stands before the content of a document: XML 1.0 (fifth edition), 2.8, and a byte order mark.
use Rattle.std.specs.Prelude.{◌≡◌, ℕ, ◌<◌, ◌⊎◌, Bool, not, List, ◌++◌, length, codes, Option, IfSome}
use Rattle.std.specs.Str.{str_to_ascii_lowercase}
use Rattle.xml_spec.specs.Bytes.{AllPass}
use Rattle.xml_spec.specs.Syntax.{is_white, NoContent, print_tokens, tokens_of}
use Rattle.xml_spec.specs.Document.{Declaration, print_declaration, IsDeclaration, Document, print_head, print_document, IsDocument}
use Rattle.xml_tokens.specs.Lexing.{EqualsAt, QuotedAt}

-- The text is a byte order mark or none, a valid XML declaration or none, and the rest; and the content of each
-- document that is written so is the rest.
pub record HasHead (text rest : List ℕ) : Type 0 where
  pub mark : Bool
  pub declaration : Option Declaration
  pub valid : IfSome declaration IsDeclaration
  pub printed : text ≡ print_head (record { mark = mark; declaration = declaration; content = NoContent }) ++ rest
  pub others : (d : Document) → IsDocument d → text ≡ print_document d → print_tokens (tokens_of d.content) ≡ rest

abbrev pub is_no_white : ℕ → Bool
is_no_white b = not (is_white b)

-- what the values of the parts of a declaration may be
abbrev pub IsVersion : List ℕ → Type 0
IsVersion value = value ≡ codes "1.0"

abbrev pub IsEncoding : List ℕ → Type 0
IsEncoding value = str_to_ascii_lowercase value ≡ codes "utf-8"

abbrev pub IsStandalone : List ℕ → Type 0
IsStandalone value = (value ≡ codes "yes") ⊎ (value ≡ codes "no")

-- a part of a declaration under this name, with a value without '<', '&' and its quote
pub record SettingAt (name bytes value behind : List ℕ) : Type 0 where
  pub space : List ℕ
  pub sign : List ℕ
  pub quote : List ℕ
  pub apart : 0 < length space
  pub white : AllPass is_white space
  pub split : bytes ≡ space ++ (name ++ sign)
  pub equated : EqualsAt sign quote
  pub quoted : QuotedAt quote value behind

abbrev pub NoSetting : List ℕ → List ℕ → Type 0
NoSetting name bytes = (value behind : List ℕ) → ¬ (SettingAt name bytes value behind)

-- the version
pub record VersionAt (bytes behind : List ℕ) : Type 0 where
  pub value : List ℕ
  pub set : SettingAt (codes "version") bytes value behind
  pub allowed : IsVersion value

abbrev pub NoVersion : List ℕ → Type 0
NoVersion bytes = (behind : List ℕ) → ¬ (VersionAt bytes behind)

-- a part of a declaration that may be left out: it is set to an allowed value, or it is not set
abbrev pub OptionalAt : List ℕ → (List ℕ → Type 0) → List ℕ → List ℕ → Type 0
OptionalAt name Allows bytes behind =
    ((value : List ℕ) × SettingAt name bytes value behind × Allows value)
    ⊎ (NoSetting name bytes × (bytes ≡ behind))

-- it is set, and to no allowed value
abbrev pub NoOptional : List ℕ → (List ℕ → Type 0) → List ℕ → Type 0
NoOptional name Allows bytes = (value : List ℕ) × (behind : List ℕ) × SettingAt name bytes value behind × ¬ (Allows value)

-- a valid declaration behind its '<?xml'
pub record DeclaredAt (bytes behind : List ℕ) : Type 0 where
  pub declaration : Declaration
  pub valid : IsDeclaration declaration
  pub printed : codes "<?xml" ++ bytes ≡ print_declaration declaration ++ behind

abbrev pub NoDeclared : List ℕ → Type 0
NoDeclared bytes = (behind : List ℕ) → ¬ (DeclaredAt bytes behind)
