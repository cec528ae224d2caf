use Rattle.std.proofs.Common.{◌≡◌, ◌++◌, List, ℕ, subst, sym}
use Rattle.std.specs.Option.{option_map}
use Rattle.post_binding.specs.Html.{read_text}
use Rattle.post_agent.proofs.Texts.{one_found}
use Rattle.post_agent.proofs.escaped.unescaped.Goals as goal

pub loop-rest-preserved : goal.loop-rest-preserved
loop-rest-preserved c =
    let rest = read_text c.in-Some.behind.now in
    subst (λ (found : List ℕ). read_text c.args.text.now ≡ option_map (λ bytes. found ++ bytes) rest)
    (sym c.in_ok-push.ensures.ok)
    (one_found c.loop-rest.found c.in-Some.byte (read_text c.args.text.now) rest
    (read_text c.loop-rest.rest.now) c.loop-rest.invariant c.in-Some.ensures.0)
