use Rattle.std.proofs.Common.{◌≡◌, ℕ, List, ◌∷◌, ◌++◌, [], codes, ◌∙◌}
use Rattle.std.specs.Fmt.{decimal}
use Rattle.saml_commands.specs.Serving.{served_line}
use Rattle.saml_commands.proofs.Answering.{if_ok_map, served_line_is}
use Rattle.saml_commands.proofs.serve.served_line.Goals as goal

pub returns : goal.returns
returns c =
    let events = c.args.served.events in
    let line = λ (why : List ℕ). codes "served " ++ (decimal events ++ (32 ∷ (why ++ 10 ∷ []))) in
    if_ok_map c.of.result (λ bytes. bytes ≡ c.as_bytes.result.now) (λ bytes. bytes ≡ served_line c.args.served)
    (λ bytes e. e ∙ c.as_bytes.ensures.value ∙ c.in_ok-line.ensures.ok ∙ (λ i. line (c.why_ended-why.ensures i))
    ∙ served_line_is (decimal events) c.args.served.stopped)
    c.of.ensures
