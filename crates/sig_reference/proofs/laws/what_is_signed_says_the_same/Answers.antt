use Rattle.std.proofs.Common.{◌≡◌, [], Some, None, refl, sym, subst}
use Rattle.xml_spec.specs.Tree.{Nodes}
use Rattle.xml_spec.specs.Names.{HasNames}
use Rattle.xml_spec.proofs.Documents.{one_tree}
use Rattle.element_make.specs.Made.{tree_of, written}
use Rattle.sig_reference.specs.Placing.{place_in}
use Rattle.sig_reference.specs.Signing.{signed}
use Rattle.sig_reference.proofs.PutInside.{IsPut, put_alone, put_in, put_is_element}
use Rattle.sig_reference.proofs.SignatureMade.{signed_made, unsigned_made}
use Rattle.sig_reference.proofs.SignedVouched.{signed_as_made}
use Rattle.sig_reference.proofs.Standing.{signature_below}
use Rattle.sig_reference.proofs.laws.what_is_signed_says_the_same.Goals as goal

pub returns-clause-alone : goal.returns-clause-alone
returns-clause-alone c key made tree is can spells =
    let spelled = c.a_made_element_spells_its_tree.ensures in
    let whole = signed_made key made is in
    let one : tree ≡ tree_of (signed key made) =
    one_tree (written (signed key made)) tree (tree_of (signed key made)) spells (spelled.spells (signed key made) whole) in
    let put : IsPut tree 0 (signed key made) = subst (λ (t : Nodes). IsPut t 0 (signed key made)) (sym one) (put_alone (signed key made) whole) in
    let read = signed_as_made key made tree 0 put can in (
      read.parts,
      read.form,
      c.equal_forms_have_equal_contents.ensures (written (signed key made)) (written made) tree (tree_of made) 0 0 (Some read.parts.signature) None [] []
          spells (subst HasNames (sym one) (spelled.names (signed key made) whole)) (spelled.spells made is) (spelled.names made is)
          (put_is_element put) refl (signature_below tree 0 read.parts read.form) tt read.element,
    )

pub returns-clause-inside : goal.returns-clause-inside
returns-clause-inside c key around outer made tree holds is can spells =
    let spelled = c.a_made_element_spells_its_tree.ensures in
    let one : tree ≡ tree_of outer = one_tree (written outer) tree (tree_of outer) spells (spelled.spells outer is) in
    let e = place_in outer around in
    let put : IsPut tree e (signed key made) = subst (λ (t : Nodes). IsPut t e (signed key made)) (sym one) (put_in around outer (signed key made) holds is) in
    let inner = unsigned_made key made put.is in
    let read = signed_as_made key made tree e put can in (
      read.parts,
      read.form,
      c.equal_forms_have_equal_contents.ensures (written outer) (written made) tree (tree_of made) e 0 (Some read.parts.signature) None [] []
          spells (subst HasNames (sym one) (spelled.names outer is)) (spelled.spells made inner) (spelled.names made inner)
          (put_is_element put) refl (signature_below tree e read.parts read.form) tt read.element,
    )
