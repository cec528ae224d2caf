use Rattle.std.proofs.Common.{inr, refl}
use Rattle.saml_commands.proofs.check.verdict_on.Goals as goal

pub returns-in-Err-Code : goal.returns-in-Err-Code
returns-in-Err-Code c =
    rw c.in-Err-Code.field-0-is (inr (c.in-Err-Code.verdict, rw c.in-Err-Code.field-0-is at c.in-Err-Code.ensures.refused, refl))
