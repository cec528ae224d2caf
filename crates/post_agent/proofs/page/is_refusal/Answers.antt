use Rattle.std.proofs.Common.{◌∙◌, ap, codes, ◌++◌, [], ◌≡◌}
use Rattle.std.specs.Prelude.{decimal}
use Rattle.std.specs.Str.{bytes_eq}
use Rattle.verdict_codes.specs.Codes.{number_of, name_of}
use Rattle.post_agent.proofs.Joining.{refusal_pieces}
use Rattle.post_agent.proofs.page.is_refusal.Goals as goal

pub returns : goal.returns
returns c =
    let digits : c.format.result.now ≡ decimal (number_of c.args.verdict) =
    c.format.ensures.text ∙ ap decimal c.number.ensures in
    c.is_made_of.ensures
    ∙ (λ i. bytes_eq c.args.page.now
    (codes "<!DOCTYPE html><html><body><p>Refused: " ++
    (digits i ++ (codes " " ++ (c.name.ensures i ++ (codes "</p></body></html>" ++ []))))))
    ∙ ap (bytes_eq c.args.page.now) (refusal_pieces (decimal (number_of c.args.verdict)) (name_of c.args.verdict))
