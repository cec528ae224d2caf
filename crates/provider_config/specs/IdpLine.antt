-- One line of an identity provider's config: a key and its words.
use Rattle.std.specs.Prelude.{ℕ, List, [], ◌∷◌, codes, Option, None, Some, option_and_then, if◌then◌else◌}
use Rattle.std.specs.List.{find}
use Rattle.std.specs.Option.{option_map}
use Rattle.std.specs.Str.{bytes_eq}
use Rattle.text_lines.specs.Words.{words_of}
use Rattle.provider_config.specs.declared.idp_config.SignMode.{SignMode}
use Rattle.provider_config.specs.declared.idp_config.SignMode.TheVariants as modes
use Rattle.provider_config.specs.declared.idp_line.IdpLine.{IdpLine}
use Rattle.provider_config.specs.declared.idp_line.IdpLine.TheVariants.{Entity, Base, Listen, Users, IdKey, Skew, Sign, Fanout, Peer}
use Rattle.provider_config.specs.Line.{skew_of}

-- the key that a line begins with
abbrev pub key_of : IdpLine → List ℕ
key_of (Entity name) = codes "entity"
key_of (Base address) = codes "base"
key_of (Listen place) = codes "listen"
key_of (Users name) = codes "users"
key_of (IdKey name) = codes "id_key"
key_of (Skew milliseconds) = codes "skew"
key_of (Sign mode) = codes "sign"
key_of Fanout = codes "fanout"
key_of (Peer names) = codes "peer"

-- `assertion`, `response` or `both`
abbrev pub sign_of : List ℕ → Option SignMode
sign_of word =
    if bytes_eq word (codes "assertion") then Some modes.Assertion
    else if bytes_eq word (codes "response") then Some modes.Response
    else if bytes_eq word (codes "both") then Some modes.Both
    else None

-- the lines of a key and one word: `entity NAME`, `base ADDRESS`, `listen PLACE`, `users FILE`, `id_key FILE`,
-- `skew SECONDS`, `sign WHAT`
abbrev pub valued : List ℕ → List ℕ → Option IdpLine
valued key word =
    if bytes_eq key (codes "skew") then option_map Skew (skew_of word)
    else if bytes_eq key (codes "sign") then option_map Sign (sign_of word)
    else find (λ l. bytes_eq key (key_of l)) (Entity word ∷ Base word ∷ Listen word ∷ Users word ∷ IdKey word ∷ [])

-- the line of these words, which has this number: `fanout`, with no word behind it, `peer METADATA KEYIN KEYOUT`, or one
-- of a key and one word
abbrev pub spelled : ℕ → List (List ℕ) → Option IdpLine
spelled number (key ∷ []) = if bytes_eq key (codes "fanout") then Some Fanout else None
spelled number (key ∷ value ∷ []) = valued key value
spelled number (key ∷ metadata ∷ key_in ∷ key_out ∷ []) =
    if bytes_eq key (codes "peer")
    then Some (Peer (record { line = number; metadata = metadata; key_in = key_in; key_out = key_out })) else None
spelled number words = None

-- the line that a text spells, which has this number
abbrev pub line_of : ℕ → List ℕ → Option IdpLine
line_of number text = option_and_then (spelled number) (words_of text)
