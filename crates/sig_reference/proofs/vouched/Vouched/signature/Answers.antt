use Rattle.std.proofs.Common.{subst}
use Rattle.saml_tree.specs.Elements.{IsElement}
use Rattle.sig_reference.specs.Vouching.{VouchedView}
use Rattle.sig_reference.proofs.Standing.{vouched_element}
use Rattle.sig_reference.proofs.vouched.Vouched.signature.Goals as goal

pub returns-clause-element : goal.returns-clause-element
returns-clause-element c =
    subst (λ (v : VouchedView). IsElement v.document.tree v.signature) c.self.view_is (vouched_element _ c.self.invariant.1)
