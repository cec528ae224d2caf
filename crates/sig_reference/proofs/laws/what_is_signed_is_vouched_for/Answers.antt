use Rattle.std.proofs.Common.{◌≡◌, [], Some, None, refl, sym, subst}
use Rattle.xml_spec.specs.Tree.{Nodes}
use Rattle.xml_spec.specs.Names.{HasNames}
use Rattle.xml_spec.proofs.Documents.{one_tree}
use Rattle.element_make.specs.Made.{tree_of, written}
use Rattle.sig_reference.specs.Signing.{signed}
use Rattle.sig_reference.proofs.PutInside.{IsPut, put_alone, put_is_element}
use Rattle.sig_reference.proofs.SignatureMade.{signed_made}
use Rattle.sig_reference.proofs.SignedVouched.{signed_as_made, vouches_as_made}
use Rattle.sig_reference.proofs.Standing.{signature_below}
use Rattle.sig_reference.proofs.laws.what_is_signed_is_vouched_for.Goals as goal

pub returns : goal.returns
returns c key made tree is can short spells single =
    let spelled = c.a_made_element_spells_its_tree.ensures in
    let whole = signed_made key made is in
    let one : tree ≡ tree_of (signed key made) =
    one_tree (written (signed key made)) tree (tree_of (signed key made)) spells (spelled.spells (signed key made) whole) in
    let put : IsPut tree 0 (signed key made) = subst (λ (t : Nodes). IsPut t 0 (signed key made)) (sym one) (put_alone (signed key made) whole) in
    let read = signed_as_made key made tree 0 put can in (
      read.parts,
      vouches_as_made key made tree 0 read short single,
      c.equal_forms_have_equal_contents.ensures (written (signed key made)) (written made) tree (tree_of made) 0 0 (Some read.parts.signature) None [] []
          spells (subst HasNames (sym one) (spelled.names (signed key made) whole)) (spelled.spells made is) (spelled.names made is)
          (put_is_element put) refl (signature_below tree 0 read.parts read.form) tt read.element,
    )
