use Rattle.std.proofs.Common.{refl}
use Rattle.xml_spec.specs.Syntax.{ProcessingInstruction, Alone}
use Rattle.xml_tokens.proofs.MarkReadings.{no_processing_token, processing_begins}
use Rattle.xml_tokens.proofs.lex.instruction_token.Goals as goal

pub returns-in_err-target : goal.returns-in_err-target
returns-in_err-target c = rw c.from_residual.ensures (no_processing_token c.args.rest.now c.in_err-target.ensures)

pub returns : goal.returns
returns c =
    let at = c.in_ok-target.ensures in (
      Alone (ProcessingInstruction c.in_ok-target.target.now at.space c.in_ok-target.value.now),
      λ attributes. (refl, refl),
      processing_begins c.args.rest.now c.in_ok-target.target.now c.in_ok-target.value.now c.in_ok-target.behind.now at,
    )
