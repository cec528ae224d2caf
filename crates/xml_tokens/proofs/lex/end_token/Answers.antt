use Rattle.std.proofs.Common.{refl}
use Rattle.xml_spec.specs.Syntax.{EndTag}
use Rattle.xml_tokens.proofs.TokenReadings.{no_end_token, end_begins}
use Rattle.xml_tokens.proofs.lex.end_token.Goals as goal

pub returns-in_err-name : goal.returns-in_err-name
returns-in_err-name c = rw c.from_residual.ensures (no_end_token c.args.rest.now c.in_err-name.ensures)

pub returns : goal.returns
returns c =
    let at = c.in_ok-name.ensures in (
      EndTag c.in_ok-name.name.now at.space,
      λ attributes. refl,
      end_begins c.args.rest.now c.in_ok-name.name.now c.in_ok-name.behind.now at,
    )
