use Rattle.std.proofs.Common.{sym, subst}
use Rattle.saml_tree.specs.Elements.{IsElement}
use Rattle.sig_reference.specs.Vouching.{VouchedView, IsIn}
use Rattle.sig_reference.proofs.Standing.{vouched_inside}
use Rattle.sig_reference.proofs.vouched.within.Goals as goal

pub invariant_of-result : goal.invariant_of-result
invariant_of-result c =
    let n = c.args.node.0 in (
      subst (λ (v : VouchedView). IsElement v.document.tree n) (sym c.v.view_is) c.requires.element,
      vouched_inside _ n c.v.invariant.1
          (subst (λ (v : VouchedView). IsIn v.document.tree v.node n) (sym c.v.view_is) c.requires.inside)
          (subst (λ (v : VouchedView). ¬ (IsIn v.document.tree v.signature n)) (sym c.v.view_is) c.requires.outside),
    )
