-- One line of a config: a key and its words.
use Rattle.std.specs.Prelude.{ℕ, ◌*◌, ◌^◌, ◌-◌, Bool, true, false, ◌&&◌, List, [], ◌∷◌, codes, Option, None, Some, nat_le, option_and_then, if◌then◌else◌}
use Rattle.std.specs.List.{find}
use Rattle.std.specs.Option.{option_map}
use Rattle.std.specs.Str.{bytes_eq}
use Rattle.saml_time.specs.declared.TheConstants.{LAST}
use Rattle.text_lines.specs.Words.{words_of}
use Rattle.text_lines.specs.Numbers.{number_of}
use Rattle.provider_config.specs.declared.config.Times.{Times}
use Rattle.provider_config.specs.declared.line.TheConstants.{MOST_SKEW, MILLIS}
use Rattle.provider_config.specs.declared.line.Purpose.{Purpose}
use Rattle.provider_config.specs.declared.line.Purpose.TheVariants.{Check, Serve}
use Rattle.provider_config.specs.declared.line.SpLine.{SpLine}
use Rattle.provider_config.specs.declared.line.SpLine.TheVariants.{Entity, Base, Listen, Idp, KeyIn, KeyOut, IdKey, Skew, NextIn, Policy, Registry, Guard, Asked, Opened}
use Rattle.owned_values.specs.Options.{◌>>=◌}

-- the key of a line, with which it begins; but `registry` stands in place of `idp`, so that a config has one of both
abbrev pub key_of : SpLine → List ℕ
key_of (Entity name) = codes "entity"
key_of (Base address) = codes "base"
key_of (Listen place) = codes "listen"
key_of (Idp name) = codes "idp"
key_of (KeyIn name) = codes "key_in"
key_of (KeyOut name) = codes "key_out"
key_of (IdKey name) = codes "id_key"
key_of (Skew milliseconds) = codes "skew"
key_of (NextIn name times) = codes "next_in"
key_of (Policy name) = codes "policy"
key_of (Registry line) = codes "idp"
key_of Guard = codes "guard"
key_of (Asked line) = codes "asked"
key_of (Opened line) = codes "opened"

-- milliseconds, which a line says in seconds, of which there are few
abbrev pub skew_of : List ℕ → Option ℕ
skew_of word = option_map (λ seconds. MILLIS * seconds) (number_of MOST_SKEW word)

-- the lines of a key and one word: `entity NAME`, `base ADDRESS`, `listen PLACE`, `idp FILE`, `key_in FILE`,
-- `key_out FILE`, `id_key FILE`, `skew SECONDS`, `policy FILE`
abbrev pub valued : List ℕ → List ℕ → Option SpLine
valued key word =
    if bytes_eq key (codes "skew") then option_map Skew (skew_of word)
    else find (λ line. bytes_eq key (key_of line))
    (Entity word ∷ Base word ∷ Listen word ∷ Idp word ∷ KeyIn word ∷ KeyOut word ∷ IdKey word ∷ Policy word ∷ [])

-- two moments in order
abbrev pub in_order : ℕ → ℕ → Option Times
in_order from until = if nat_le from until then Some (record { from = from; until = until }) else None

abbrev pub times_of : List ℕ → List ℕ → Option Times
times_of from until = do
  f ← number_of LAST from
  u ← number_of LAST until
  in_order f u

-- the lines of a key and three words: `next_in FILE FROM UNTIL`, moments that have a written form, and
-- `registry FILE KEYFILE ENTITY`, where the entity is the word as it stands
abbrev pub of_three : List ℕ → List ℕ → List ℕ → List ℕ → Option SpLine
of_three key first second third =
    if bytes_eq key (codes "next_in") then option_map (λ times. NextIn first times) (times_of second third)
    else if bytes_eq key (codes "registry") then Some (Registry (record { file = first; key = second; entity = third }))
    else None

-- `asked REQUEST RELAY TARGET UNTIL`: any moment
abbrev pub asked : List ℕ → List ℕ → List ℕ → List ℕ → Option SpLine
asked request relay target until =
    option_map (λ moment. Asked (record { request = request; relay = relay; target = target; until = moment })) (number_of (2 ^ 64 - 1) until)

-- `opened REQUEST ISSUER ASSERTION UNTIL`: any moment
abbrev pub opened : List ℕ → List ℕ → List ℕ → List ℕ → Option SpLine
opened request issuer assertion until =
    option_map (λ moment. Opened (record { request = request; issuer = issuer; assertion = assertion; until = moment })) (number_of (2 ^ 64 - 1) until)

-- What was asked and opened is said only where one form is checked. All other lines are said for either purpose: also a policy,
-- which decides nothing there.
abbrev pub takes_rows : Purpose → Bool
takes_rows Check = true
takes_rows Serve = false

-- the line of these words; `guard` has no word behind it
abbrev pub spelled : Purpose → List (List ℕ) → Option SpLine
spelled purpose (key ∷ []) = if bytes_eq key (codes "guard") then Some Guard else None
spelled purpose (key ∷ value ∷ []) = valued key value
spelled purpose (key ∷ first ∷ second ∷ third ∷ []) = of_three key first second third
spelled purpose (key ∷ first ∷ second ∷ third ∷ until ∷ []) =
    if takes_rows purpose && bytes_eq key (codes "asked") then asked first second third until
    else if takes_rows purpose && bytes_eq key (codes "opened") then opened first second third until
    else None
spelled purpose words = None

-- the line that a text spells
abbrev pub line_of : Purpose → List ℕ → Option SpLine
line_of purpose text = option_and_then (spelled purpose) (words_of text)
