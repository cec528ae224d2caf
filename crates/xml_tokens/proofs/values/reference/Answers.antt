use Rattle.std.proofs.Common.{◌≡◌, ◌≤◌, ◌++◌, length, drop, subst}
use Rattle.xml_spec.specs.Syntax.{print_reference}
use Rattle.xml_tokens.proofs.Boundaries.{reference_boundary}
use Rattle.xml_tokens.proofs.values.reference.Goals as goal

pub range_from-requires : goal.range_from-requires
range_from-requires c _ =
    let end = c.in_ok-character.end in
    let same = c.as_bytes.ensures.value in
    let at = c.in_ok-character.ensures.some in
    reference_boundary c.args.rest.now end at.reference c.utf8.rest
    (subst (λ bs. end ≤ length bs) same c.in_ok-character.ensures.within.1)
    (subst (λ bs. bs ≡ print_reference at.reference ++ drop end bs) same at.printed)
