use Rattle.std.proofs.Common.{◌≡◌, ◌∙◌}
use Rattle.std.specs.Fmt.{decimal}
use Rattle.saml_commands.specs.Answers.{BadFile, text_of}
use Rattle.saml_commands.proofs.Answering.{if_ok_map, bad_line_is}
use Rattle.saml_commands.proofs.answer.bad_file.Goals as goal

pub returns : goal.returns
returns c =
    if_ok_map c.of.result (λ bytes. bytes ≡ c.as_bytes.result.now) (λ bytes. bytes ≡ text_of (BadFile c.args.file.now c.args.line))
    (λ bytes e. e ∙ c.as_bytes.ensures.value ∙ c.in_ok-text.ensures.ok ∙ bad_line_is c.args.file.now (decimal c.args.line))
    c.of.ensures
