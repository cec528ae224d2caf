use Rattle.std.proofs.Common.{◌≡◌, ◌++◌, List, ℕ, subst, sym}
use Rattle.std.specs.Option.{option_map}
use Rattle.access_policy.specs.Conditions.{unescaped}
use Rattle.access_policy.proofs.Spelling.{one_found}
use Rattle.access_policy.proofs.conditions.unescaped.Goals as goal

pub loop-rest-preserved : goal.loop-rest-preserved
loop-rest-preserved c =
    let rest = unescaped c.in-Some.behind.now in
    subst (λ (found : List ℕ). unescaped c.args.word.now ≡ option_map (λ bytes. found ++ bytes) rest) (sym c.in_ok-push.ensures.ok)
    (one_found c.loop-rest.found c.in-Some.byte (unescaped c.args.word.now) rest (unescaped c.loop-rest.rest.now) c.loop-rest.invariant c.in-Some.ensures.0)
