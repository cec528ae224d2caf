use Rattle.std.proofs.Common.{◌≡◌, ◌==◌, drop, find}
use Rattle.verdict_codes.specs.Codes.{number_of}
use Rattle.http_wire.proofs.fixed.verdict_in.Given as goal

abbrev pub invariant-loop-verdict : goal.invariant-loop-verdict
invariant-loop-verdict l =
    find (λ v. number_of v == l.code) l.verdicts ≡ find (λ v. number_of v == l.code) (drop l.verdict-index l.verdicts)
