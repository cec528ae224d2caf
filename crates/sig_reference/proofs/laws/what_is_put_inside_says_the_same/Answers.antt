use Rattle.std.proofs.Common.{◌≡◌, [], None, refl, sym, subst}
use Rattle.xml_spec.specs.Tree.{Nodes}
use Rattle.xml_spec.specs.Names.{HasNames}
use Rattle.xml_spec.proofs.Documents.{one_tree}
use Rattle.element_make.specs.Made.{tree_of, written}
use Rattle.sig_reference.specs.Placing.{place_in}
use Rattle.sig_reference.proofs.PutInside.{IsPut, put_in, put_is_element, put_form, put_unsigned}
use Rattle.sig_reference.proofs.laws.what_is_put_inside_says_the_same.Goals as goal

pub returns-clause-content : goal.returns-clause-content
returns-clause-content c around outer made tree holds is spells =
    let spelled = c.a_made_element_spells_its_tree.ensures in
    let one : tree ≡ tree_of outer = one_tree (written outer) tree (tree_of outer) spells (spelled.spells outer is) in
    let e = place_in outer around in
    let put : IsPut tree e made = subst (λ (t : Nodes). IsPut t e made) (sym one) (put_in around outer made holds is) in
    c.equal_forms_have_equal_contents.ensures (written outer) (written made) tree (tree_of made) e 0 None None [] []
    spells (subst HasNames (sym one) (spelled.names outer is)) (spelled.spells made put.is) (spelled.names made put.is)
    (put_is_element put) refl tt tt (put_form put)

pub returns-clause-unsigned : goal.returns-clause-unsigned
returns-clause-unsigned c around outer made tree holds is spells unsigned =
    let one = one_tree (written outer) tree (tree_of outer) spells (c.a_made_element_spells_its_tree.ensures.spells outer is) in
    let e = place_in outer around in
    put_unsigned (subst (λ (t : Nodes). IsPut t e made) (sym one) (put_in around outer made holds is)) unsigned
