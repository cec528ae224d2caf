use Rattle.std.proofs.Common.{◌≡◌, ◌++◌, List, subst, sym}
use Rattle.std.specs.Option.{option_map}
use Rattle.access_policy.specs.declared.rule.Condition.{Condition}
use Rattle.access_policy.specs.Conditions.{conditions_of}
use Rattle.access_policy.proofs.Spelling.{one_found}
use Rattle.access_policy.proofs.conditions.conditions_of.Goals as goal

pub loop-rest-preserved : goal.loop-rest-preserved
loop-rest-preserved c =
    let rest = conditions_of c.in-Some.behind.now in
    let first = rw c.in-Some.is at c.in_ok-condition.ensures in
    subst (λ (found : List Condition). conditions_of c.args.words.now ≡ option_map (λ others. found ++ others) rest) (sym c.in_ok-push.ensures)
    (one_found c.loop-rest.found c.in-Some.condition (conditions_of c.args.words.now) rest (conditions_of c.loop-rest.rest.now) c.loop-rest.invariant first.0)
