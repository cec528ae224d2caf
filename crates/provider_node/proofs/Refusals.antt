-- The verdict on what is posted is none of the codes that a provider answers for itself.
use Rattle.std.proofs.Common.{◌≡◌, ◌<◌, ℕ, inl, arith}
use Rattle.http_wire.specs.declared.answer.Answer.{Answer}
use Rattle.http_wire.specs.declared.answer.Answer.TheVariants.{Fixed}
use Rattle.fault_verdicts.proofs.Codes.{EndsAt}
use Rattle.verdict_codes.specs.Codes.{number_of}
use Rattle.verdict_codes.specs.declared.codes.Verdict.{Verdict}
use Rattle.provider_node.specs.Causes.{IsNoOwnCode}
use Rattle.provider_node.proofs.Causes.{of_code}

pub of_verdict : (answer : Answer) (last : ℕ) (verdict : Verdict) → EndsAt last verdict → last < 50
    → answer ≡ Fixed (number_of verdict) → IsNoOwnCode answer
of_verdict answer last verdict few less is = of_code answer (number_of verdict) (inl (omega (arith, few, less))) is
