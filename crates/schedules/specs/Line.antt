-- One line of a schedule: a key, and words behind it.
use Rattle.std.specs.Prelude.{ℕ, ◌==◌, ◌&&◌, List, [], ◌∷◌, length, slice_index, codes, Option, None, Some, option_and_then, if◌then◌else◌}
use Rattle.std.specs.Char.{is_ascii_lowercase}
use Rattle.std.specs.Map.{lookup}
use Rattle.std.specs.Option.{option_map, option_zip}
use Rattle.std.specs.Str.{bytes_eq}
use Rattle.text_lines.specs.Numbers.{number_of}
pub use Rattle.text_lines.specs.Numbers.{positive}
use Rattle.text_lines.specs.Words.{words_of}
use Rattle.post_agent.specs.declared.site.Site.{Site}
use Rattle.post_agent.specs.declared.site.Site.TheVariants.{Sp, Idp}
use Rattle.schedules.specs.declared.step.Pick.{Pick}
use Rattle.schedules.specs.declared.step.Pick.TheVariants.{Synced, Pending, Marked}
use Rattle.schedules.specs.declared.step.Step.{Step}
use Rattle.schedules.specs.declared.step.Step.TheVariants.{Now, Visit, Submit, Lose, Login, Follow, Leave, Pair, Fresh, Restart, Crash, Fail, Compact}
use Rattle.schedules.specs.declared.step.TheConstants.{LAST_MOMENT, MOST_CALLS, MOST_PIECE}

-- an agent is named by one lower-case letter
abbrev pub agent_of : List ℕ → Option ℕ
agent_of word = if length word == 1 && is_ascii_lowercase (slice_index word 0) then Some (slice_index word 0) else None

abbrev pub site_of : List ℕ → Option Site
site_of word = lookup (bytes_eq word) ((codes "sp", Sp) ∷ (codes "idp", Idp) ∷ [])

abbrev pub pick_of : List ℕ → Option Pick
pick_of word = lookup (bytes_eq word) ((codes "0", Synced) ∷ (codes "1", Pending) ∷ (codes "2", Marked) ∷ [])

-- `now MOMENT`; `submit AGENT`, `lose AGENT`, `follow AGENT` and `fresh AGENT`; `restart NODE` and `compact NODE`
abbrev pub two_words : List ℕ → List ℕ → Option Step
two_words key word =
    if bytes_eq key (codes "now") then option_map (λ moment. Now moment) (number_of LAST_MOMENT word)
    else if bytes_eq key (codes "submit") then option_map (λ agent. Submit agent) (agent_of word)
    else if bytes_eq key (codes "lose") then option_map (λ agent. Lose agent) (agent_of word)
    else if bytes_eq key (codes "follow") then option_map (λ agent. Follow agent) (agent_of word)
    else if bytes_eq key (codes "fresh") then option_map (λ agent. Fresh agent) (agent_of word)
    else if bytes_eq key (codes "restart") then option_map (λ site. Restart site) (site_of word)
    else if bytes_eq key (codes "compact") then option_map (λ site. Compact site) (site_of word)
    else None

-- `visit AGENT PATH`, `leave AGENT NODE` and `fail NODE CALL`
abbrev pub three_words : List ℕ → List ℕ → List ℕ → Option Step
three_words key first second =
    if bytes_eq key (codes "visit") then option_map (λ agent. Visit agent second) (agent_of first)
    else if bytes_eq key (codes "leave")
    then option_map (λ said. Leave said.0 said.1) (option_zip (agent_of first) (site_of second))
    else if bytes_eq key (codes "fail")
    then option_map (λ said. Fail said.0 said.1) (option_zip (site_of first) (positive MOST_CALLS second))
    else None

-- `login AGENT USER PASSWORD`, `pair AGENT AGENT PIECE` and `crash NODE CALL PICK`
abbrev pub four_words : List ℕ → List ℕ → List ℕ → List ℕ → Option Step
four_words key first second third =
    if bytes_eq key (codes "login") then option_map (λ agent. Login agent second third) (agent_of first)
    else if bytes_eq key (codes "pair") then option_map (λ said. Pair said.0 said.1.0 said.1.1)
    (option_zip (agent_of first) (option_zip (agent_of second) (positive MOST_PIECE third)))
    else if bytes_eq key (codes "crash") then option_map (λ said. Crash said.0 said.1.0 said.1.1)
    (option_zip (site_of first) (option_zip (positive MOST_CALLS second) (pick_of third)))
    else None

-- the step of these words
abbrev pub step_by : List (List ℕ) → Option Step
step_by (key ∷ word ∷ []) = two_words key word
step_by (key ∷ first ∷ second ∷ []) = three_words key first second
step_by (key ∷ first ∷ second ∷ third ∷ []) = four_words key first second third
step_by words = None

-- the step that a text spells, in words that one space separates
abbrev pub step_of : List ℕ → Option Step
step_of text = option_and_then step_by (words_of text)
