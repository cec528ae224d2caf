-- One line of a policy: `RULE allow PATH` or `RULE deny PATH`, and conditions.
use Rattle.std.specs.Prelude.{ℕ, ◌-◌, Bool, true, false, ◌&&◌, ◌||◌, not, ◌==◌, nat_eq, nat_le, List, ◌∷◌, length, take, codes, Option, None, Some, option_and_then, if◌then◌else◌}
use Rattle.std.specs.Char.{is_ascii_alphanumeric}
use Rattle.std.specs.List.{list_all, list_any, starts_with, ends_with}
use Rattle.std.specs.Option.{option_map}
use Rattle.std.specs.Str.{bytes_eq}
use Rattle.xml_spec.specs.Bytes.{is_empty}
use Rattle.text_lines.specs.Words.{words_of}
use Rattle.access_policy.specs.declared.rule.Pattern.{Pattern}
use Rattle.access_policy.specs.declared.rule.Rule.{Rule}
use Rattle.access_policy.specs.declared.rule.TheConstants.{MAX_CONDITIONS, MAX_NAME_LENGTH}
use Rattle.access_policy.specs.Conditions.{conditions_of}
use Rattle.owned_values.specs.Options.{◌>>=◌}

-- a letter, a digit or '-'
abbrev pub is_name_byte : ℕ → Bool
is_name_byte byte = is_ascii_alphanumeric byte || byte == 45

-- `default` names what decides where no rule does
abbrev pub is_rule_name : List ℕ → Bool
is_rule_name name =
    not (is_empty name) && nat_le (length name) MAX_NAME_LENGTH && list_all is_name_byte name && not (bytes_eq name (codes "default"))

-- a letter, a digit, '.', '_', '~', '/' or '-'
abbrev pub is_path_byte : ℕ → Bool
is_path_byte byte = is_ascii_alphanumeric byte || list_any (λ other. byte == other) (codes "._~/-")

-- `/app`, and each path below it
abbrev pub is_app : List ℕ → Bool
is_app path = bytes_eq path (codes "/app") || starts_with nat_eq path (codes "/app/")

-- the paths that a rule may be for
abbrev pub is_path : List ℕ → Bool
is_path path = is_app path && list_all is_path_byte path

-- what the paths begin with that a path ended by `/*` is for: all in front of the `*`
abbrev pub prefix_of : List ℕ → Option (List ℕ)
prefix_of word =
    if ends_with nat_eq word (codes "/*") && is_path (take (length word - 2) word) then Some (take (length word - 1) word)
    else None

-- the paths that a word says
abbrev pub pattern_of : List ℕ → Option Pattern
pattern_of word =
    if is_path word then Some (record { path = word; is_prefix = false })
    else option_map (λ prefix. record { path = prefix; is_prefix = true }) (prefix_of word)

-- whether a rule allows
abbrev pub verb_of : List ℕ → Option Bool
verb_of word =
    if bytes_eq word (codes "allow") then Some true
    else if bytes_eq word (codes "deny") then Some false
    else None

-- the rule of these words
abbrev pub spelled : List (List ℕ) → Option Rule
spelled (name ∷ verb ∷ path ∷ words) = if is_rule_name name then (do
  allows ← verb_of verb
  pattern ← pattern_of path
  conditions ← conditions_of words
  if nat_le (length conditions) MAX_CONDITIONS then Some (record { name = name; allows = allows; pattern = pattern; conditions = conditions }) else None) else None
spelled words = None

-- the rule that a text spells
abbrev pub rule_of : List ℕ → Option Rule
rule_of text = option_and_then spelled (words_of text)
