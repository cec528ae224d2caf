-- The schedule of a text.
use Rattle.std.specs.Prelude.{ℕ, Bool, ◌==◌, ◌&&◌, nat_le, List, [], ◌∷◌, ◌++◌, length, fold, Option, None, Some, Result, Err, option_and_then, ok_or, if◌then◌else◌}
use Rattle.std.specs.List.{flat_map, list_any}
use Rattle.std.specs.Option.{option_to_list}
use Rattle.text_lines.specs.Lines.{Said, Says, NoText, said, with_lines}
use Rattle.schedules.specs.declared.fault.ScheduleFault.{ScheduleFault}
use Rattle.schedules.specs.declared.fault.ScheduleFault.TheVariants as faults
use Rattle.schedules.specs.declared.schedule.TheConstants.{MAX_STEPS, MAX_AGENTS}
use Rattle.schedules.specs.declared.step.Step.{Step}
use Rattle.schedules.specs.declared.step.Step.TheVariants.{Visit, Submit, Lose, Login, Follow, Leave, Pair, Fresh}
use Rattle.schedules.specs.Line.{step_of}

-- ---- the agents of a schedule

-- the agents that a step names
abbrev pub agents_of : Step → List ℕ
agents_of (Visit agent path) = agent ∷ []
agents_of (Submit agent) = agent ∷ []
agents_of (Lose agent) = agent ∷ []
agents_of (Login agent user password) = agent ∷ []
agents_of (Follow agent) = agent ∷ []
agents_of (Leave agent site) = agent ∷ []
agents_of (Pair first second piece) = first ∷ second ∷ []
agents_of (Fresh agent) = agent ∷ []
agents_of step = []

-- one more name, where it is not among them
abbrev pub with_agent : List ℕ → ℕ → List ℕ
with_agent names agent = if list_any (λ name. name == agent) names then names else names ++ agent ∷ []

-- the agents that steps name, each once
abbrev pub agents : List Step → List ℕ
agents steps = fold with_agent [] (flat_map agents_of steps)

-- ---- the steps of a text

-- so many steps, of so many agents
abbrev pub is_small : List Step → Bool
is_small steps = nat_le (length steps) MAX_STEPS && nat_le (length (agents steps)) MAX_AGENTS

-- the steps with one more; none where it is one too many, or names an agent too many
abbrev pub with_step : List Step → Step → Option (List Step)
with_step before step = if is_small (before ++ step ∷ []) then Some (before ++ step ∷ []) else None

-- the steps with the one that a line spells
abbrev pub with_text : ℕ → List ℕ → List Step → Option (List Step)
with_text number text before = option_and_then (with_step before) (step_of text)

-- the steps of a text, or the number of the first line that is bad
abbrev pub schedule : List ℕ → Result (List Step) ℕ
schedule text = with_lines with_text [] (said text)

-- the number that a fault gives, none for want of memory
abbrev pub fault_of : ScheduleFault → Option ℕ
fault_of (faults.Line number) = Some number
fault_of faults.NoMemory = None

-- ---- words by which the code reads

-- the steps with what is said next, or the number of a bad line
abbrev pub with_said : List Step → Said → Result (List Step) ℕ
with_said before (Says number text) = ok_or (with_text number text before) number
with_said before (NoText number) = Err number

-- ---- words by which it keeps the agents

-- one name, two or none
abbrev pub names_of : Option ℕ × Option ℕ → List ℕ
names_of names = option_to_list names.0 ++ option_to_list names.1

abbrev pub with_name : List ℕ → Option ℕ → List ℕ
with_name names agent = fold with_agent names (option_to_list agent)
