use Rattle.std.proofs.Common.{◌≡◌, true, take}
use Rattle.std.specs.List.{list_all}
use Rattle.sp_rules.specs.Meant.{names_provider}
use Rattle.sp_rules.proofs.login.is_for.Given as goal

abbrev pub invariant-loop-audiences : goal.invariant-loop-audiences
invariant-loop-audiences l = (list_all (names_provider l.config) (take l.audiences-index l.login.audiences) ≡ true)
