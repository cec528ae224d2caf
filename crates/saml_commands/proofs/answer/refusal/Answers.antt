use Rattle.std.proofs.Common.{◌≡◌, ℕ, List, ◌∷◌, ◌++◌, [], codes, ◌∙◌}
use Rattle.std.specs.Fmt.{decimal}
use Rattle.verdict_codes.specs.Codes.{number_of, name_of}
use Rattle.saml_commands.specs.Answers.{Refused, text_of}
use Rattle.saml_commands.proofs.Answering.{if_ok_map, line_is}
use Rattle.saml_commands.proofs.answer.refusal.Goals as goal

pub returns : goal.returns
returns c =
    let line = λ (number : ℕ) (name : List ℕ). codes "refused " ++ (decimal number ++ (32 ∷ (name ++ 10 ∷ []))) in
    if_ok_map c.of.result (λ bytes. bytes ≡ c.as_bytes.result.now) (λ bytes. bytes ≡ text_of (Refused c.args.verdict))
    (λ bytes e. e ∙ c.as_bytes.ensures.value ∙ c.in_ok-line.ensures.ok ∙ (λ i. line (c.number-number.ensures i) (c.name-name.ensures i))
    ∙ line_is (decimal (number_of c.args.verdict)) (name_of c.args.verdict))
    c.of.ensures
