-- What the reader says of the text where it reads no token, and of a start tag of a name alone.
use Rattle.std.specs.Prelude.{◌≡◌, ℕ, List, []}
use Rattle.xml_spec.specs.Syntax.{Token, StartTag, AreTokens, print_tokens}
use Rattle.xml_spec.specs.Laws.{BeginsWith}

-- the bytes are those of no valid tokens
abbrev pub NoTokens : List ℕ → Type 0
NoTokens bytes = (tokens : List Token) → AreTokens tokens → ¬ (bytes ≡ print_tokens tokens)

-- a start tag without attributes and white space
abbrev pub bare_tag : List ℕ → Token
bare_tag name = StartTag (record { name = name; assignments = []; space = [] })

-- no such tag begins the bytes
abbrev pub NoBareStart : List ℕ → Type 0
NoBareStart bytes = (name behind : List ℕ) → ¬ (BeginsWith bytes (bare_tag name) behind)
