use Rattle.std.proofs.Common.{◌≡◌, ℕ, ◌∷◌, ◌++◌, [], codes, ◌∙◌}
use Rattle.std.specs.Fmt.{decimal}
use Rattle.saml_commands.specs.Answers.{Foreign, file_number, text_of}
use Rattle.saml_commands.proofs.Answering.{if_ok_map, foreign_line_is}
use Rattle.saml_commands.proofs.answer.foreign.Goals as goal

pub returns : goal.returns
returns c =
    let line = λ (number : ℕ). codes "foreign " ++ (decimal number ++ (32 ∷ (decimal c.args.place ++ 10 ∷ []))) in
    if_ok_map c.of.result (λ bytes. bytes ≡ c.as_bytes.result.now) (λ bytes. bytes ≡ text_of (Foreign c.args.file c.args.place))
    (λ bytes e. e ∙ c.as_bytes.ensures.value ∙ c.in_ok-text.ensures.ok ∙ (λ i. line (c.file_number-number.ensures i))
    ∙ foreign_line_is (decimal (file_number c.args.file)) (decimal c.args.place))
    c.of.ensures
