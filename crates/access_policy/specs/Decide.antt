-- What a policy decides.
use Rattle.std.specs.Prelude.{ℕ, Bool, false, ◌&&◌, not, List, codes, find, nat_eq, Option, None, Some, if◌then◌else◌}
use Rattle.std.specs.List.{list_all, list_any, starts_with}
use Rattle.std.specs.Str.{bytes_eq}
use Rattle.owned_values.specs.declared.attributes.Attribute.{Attribute}
use Rattle.access_policy.specs.declared.rule.Condition.{Condition}
use Rattle.access_policy.specs.declared.rule.Condition.TheVariants.{Has, Lacks, User}
use Rattle.access_policy.specs.declared.rule.Pattern.{Pattern}
use Rattle.access_policy.specs.declared.rule.Rule.{Rule}
use Rattle.access_policy.specs.declared.policy.Decision.{Decision}

-- the attribute has this name and this value
abbrev pub states : List ℕ → List ℕ → Attribute → Bool
states name value attribute = bytes_eq attribute.name name && list_any (λ other. bytes_eq other value) attribute.values

-- a condition holds for a user of this name with these attributes
abbrev pub holds : List ℕ → List Attribute → Condition → Bool
holds name attributes (Has attribute value) = list_any (states attribute value) attributes
holds name attributes (Lacks attribute value) = not (list_any (states attribute value) attributes)
holds name attributes (User user) = bytes_eq user name

-- a rule is for one path, or for each that begins with its own
abbrev pub matches : List ℕ → Pattern → Bool
matches path pattern = if pattern.is_prefix then starts_with nat_eq path pattern.path else bytes_eq pattern.path path

-- the answer, and the name of the rule that gives it
pub record Answer : Type 0 where
  pub allowed : Bool
  pub rule : List ℕ

abbrev pub decision_view : Decision → Answer
decision_view decision = record { allowed = decision.allowed; rule = decision.rule.now }

-- a rule decides where it is for the path and all its conditions hold
abbrev pub decides : List ℕ → List ℕ → List Attribute → Rule → Bool
decides path name attributes rule = matches path rule.pattern && list_all (holds name attributes) rule.conditions

-- what a rule answers; without one, `default` denies
abbrev pub answer_of : Option Rule → Answer
answer_of None = record { allowed = false; rule = codes "default" }
answer_of (Some rule) = record { allowed = rule.allows; rule = rule.name }

-- the first rule that decides
abbrev pub decide : List Rule → List ℕ → List ℕ → List Attribute → Answer
decide rules path name attributes = answer_of (find (decides path name attributes) rules)
