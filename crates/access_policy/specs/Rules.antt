-- The rules of a policy.
use Rattle.std.specs.Prelude.{ℕ, Bool, ◌||◌, nat_le, List, [], ◌∷◌, ◌++◌, length, Option, None, Some, Result, if◌then◌else◌}
use Rattle.std.specs.List.{list_any}
use Rattle.std.specs.Str.{bytes_eq}
use Rattle.text_lines.specs.Lines.{said, with_lines}
use Rattle.access_policy.specs.declared.fault.PolicyFault.{PolicyFault}
use Rattle.access_policy.specs.declared.fault.PolicyFault.TheVariants as faults
use Rattle.access_policy.specs.declared.rule.Rule.{Rule}
use Rattle.access_policy.specs.declared.rule.TheConstants.{MAX_RULES}
use Rattle.access_policy.specs.Line.{rule_of}
use Rattle.owned_values.specs.Options.{◌>>=◌}

-- one of the rules has this name
abbrev pub has_rule : List Rule → List ℕ → Bool
has_rule rules name = list_any (λ rule. bytes_eq rule.name name) rules

-- the rules with the one that a line spells; none where it spells none, one too many, or one of the name of a rule before it
abbrev pub with_rule : (number : ℕ) → (line : List ℕ) → List Rule → Option (List Rule)
with_rule number line before = do
  rule ← rule_of line
  if nat_le MAX_RULES (length before) || has_rule before rule.name then None else Some (before ++ rule ∷ [])

-- the rules that a text spells, or the number of the first line that is bad
abbrev pub policy : List ℕ → Result (List Rule) ℕ
policy text = with_lines with_rule [] (said text)

-- the number that a fault gives, none for want of memory
abbrev pub fault_of : PolicyFault → Option ℕ
fault_of (faults.Line number) = Some number
fault_of faults.NoMemory = None
