-- The login of an element of a document, by what was read of it.
use Rattle.std.proofs.Common.{◌≡◌, ℕ, Bool, true, false, None, sym, ap, ◌∙◌}
use Rattle.std.specs.Prelude.{codes}
use Rattle.saml_names.specs.Names.{saml}
use Rattle.saml_tree.specs.Documents.{DocumentView}
use Rattle.saml_tree.specs.Elements.{IsElement}
use Rattle.tree_read.specs.Children.{is_name}
use Rattle.tree_read.specs.Faults.{IsShapeFault}
use Rattle.tree_read.specs.Views.{tree_of}
use Rattle.tree_read.specs.Walk.{name_of_node}
use Rattle.tree_read.specs.declared.at.At.{At}
use Rattle.tree_read.specs.declared.fault.ShapeFault.{ShapeFault}
use Rattle.tree_read.specs.declared.fault.ShapeFault.TheVariants as shapes
use Rattle.assertion_model.specs.Faults.{of_shape, IsLoginFault}
use Rattle.assertion_model.specs.Login.{where_holds, login_of}
use Rattle.assertion_model.specs.Parts.{part_of, login_at}
use Rattle.assertion_model.proofs.SkipLemmas.{login_is}

-- the login at a place in the document
login_there : (at : At) (d : DocumentView) (k : ℕ) (named : Bool) → at.doc.now ≡ d → at.node.0 ≡ k → IsElement (tree_of at) at.node.0 →
    named ≡ is_name (saml (codes "Assertion")) (name_of_node (tree_of at) at.node.0) → login_at d.tree k ≡ where_holds named (login_of (part_of at))
login_there at d k named e f element n =
    (λ i. login_at (sym e i).tree (sym f i)) ∙ login_is (tree_of at) at.node.0 element ∙ ap (λ b. where_holds b (login_of (part_of at))) (sym n)

pub no_assertion : (at : At) (d : DocumentView) (k : ℕ) (named : Bool) → at.doc.now ≡ d → at.node.0 ≡ k → IsElement (tree_of at) at.node.0 →
    named ≡ is_name (saml (codes "Assertion")) (name_of_node (tree_of at) at.node.0) → named ≡ false → login_at d.tree k ≡ None
no_assertion at d k named e f element n h = login_there at d k named e f element n ∙ ap (λ b. where_holds b (login_of (part_of at))) h

pub an_assertion : (at : At) (d : DocumentView) (k : ℕ) (named : Bool) → at.doc.now ≡ d → at.node.0 ≡ k → IsElement (tree_of at) at.node.0 →
    named ≡ is_name (saml (codes "Assertion")) (name_of_node (tree_of at) at.node.0) → named ≡ true → login_at d.tree k ≡ login_of (part_of at)
an_assertion at d k named e f element n h = login_there at d k named e f element n ∙ ap (λ b. where_holds b (login_of (part_of at))) h

pub login_fault_on : (fault : ShapeFault) (P Q : Type 0) → IsShapeFault fault P → (P → Q) → IsLoginFault (of_shape fault) Q
login_fault_on shapes.WrongShape P Q says on = on says
login_fault_on shapes.NoMemory P Q says on = tt
