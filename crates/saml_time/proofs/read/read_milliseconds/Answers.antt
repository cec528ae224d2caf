use Rattle.std.proofs.Common.{◌≤◌, ◌∙◌, length, refl, sym, eqb-true, arith}
use Rattle.std.proofs.lemmas.Bool.{false≢true}
use Rattle.std.proofs.lemmas.Bool.Decides.{nat_tests}
use Rattle.saml_time.proofs.FractionLemmas.{each_shows, shows_digits}
use Rattle.saml_time.proofs.read.read_milliseconds.Goals as goal
use Rattle.saml_time.proofs.read.read_milliseconds.Goals.{then-is_empty-via-then-is_empty, then-is_empty-via-else-is_empty+then-digits-gt9, then-is_empty-via-else-is_empty+else-digits-gt9+then-not-are_digits}

pub returns-then-is_empty-clause-each : goal.returns-then-is_empty-clause-each
returns-then-is_empty-clause-each c shown valid e =
    let parts = each_shows c.args.digits.now shown valid e in
    elim c.then-is_empty.branch [
      | then-is_empty-via-then-is_empty w ↦ absurd (omega (arith, eqb-true _ _ (sym w.if-is_empty.ensures), parts.2, valid.0))
      | then-is_empty-via-else-is_empty+then-digits-gt9 w ↦ absurd (omega (arith, parts.2, valid.1))
      | then-is_empty-via-else-is_empty+else-digits-gt9+then-not-are_digits w ↦ absurd (false≢true (w.if-not-are_digits.ensures.1 parts.1))
    ]

pub returns-clause-found : goal.returns-clause-found
returns-clause-found c =
    let digits = c.if-not-are_digits.ensures.0 refl in
    let some : 1 ≤ length c.args.digits.now = grind (arith, nat_tests, c.if-is_empty.ensures) in
    let shown = shows_digits c.args.digits.now digits some c.if-digits-gt9.false in
    (shown.0, shown.1, shown.2, shown.3 ∙ omega (arith, c.digit_or_zero.ensures.value, c.digit_or_zero-2.ensures.value, c.digit_or_zero-3.ensures.value))
