use Rattle.std.proofs.Common.{◌≡◌, ℕ, ◌++◌, ◌∷◌, List, Option, Some, None, ◌-◌, length, get_or, [], ap, ◌∙◌, arith, rules}
use Rattle.saml_time.specs.Instant.{IsFraction, milliseconds_of, print_digits, print_fraction}
use Rattle.saml_time.proofs.FractionLemmas.{around, between_is}
use Rattle.saml_time.proofs.PieceLemmas.{some_weaker}
use Rattle.saml_time.proofs.read.read_fraction.Goals as goal

pub returns-in-46-clause-found : goal.returns-in-46-clause-found
returns-in-46-clause-found c =
    let first : get_or c.args.text.now 0 0 ≡ 46 = search rules in
    let last : get_or c.args.text.now (length c.args.text.now - 1) 0 ≡ 90 = search rules in
    let whole = around c.args.text.now c.in-46.len_at_least first last in
    some_weaker c.read_milliseconds.result _ _ (λ ms shown. (Some shown.0, shown.1, whole ∙ ap (λ xs. 46 ∷ (xs ++ 90 ∷ [])) shown.2, shown.3)) c.read_milliseconds.ensures.found

-- whatever fraction the text shows stands between its point and its `Z`
each : (c : goal.After-read_milliseconds) (f : Option (List ℕ)) → IsFraction f → c.args.text.now ≡ print_fraction f ++ 90 ∷ [] → c.read_milliseconds.result ≡ Some (milliseconds_of f)
each c None valid e = absurd (omega (arith, ap length e, c.in-46.len_at_least))
each c (Some digits) valid e = c.read_milliseconds.ensures.each digits valid (between_is c.args.text.now (print_digits digits) e)

pub returns-in-46-clause-each : goal.returns-in-46-clause-each
returns-in-46-clause-each c = each c
