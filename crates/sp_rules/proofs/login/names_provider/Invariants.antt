use Rattle.std.proofs.Common.{◌≡◌, false, take}
use Rattle.std.specs.List.{list_any}
use Rattle.std.specs.Str.{bytes_eq}
use Rattle.sp_rules.proofs.login.names_provider.Given as goal

abbrev pub invariant-loop-audience : goal.invariant-loop-audience
invariant-loop-audience l = (list_any (λ audience. bytes_eq audience l.config.entity) (take l.audience-index l.audiences) ≡ false)
