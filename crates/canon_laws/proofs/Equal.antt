-- Equal canonical forms spell one tree, so the elements have one content.
use Rattle.std.proofs.Common.{◌≡◌, ℕ, ◌<◌, List, Option, None, IsTrue, sym, ◌∙◌, ap, subst}
use Rattle.std.specs.Prelude.{IfSome}
use Rattle.xml_spec.specs.Tree.{Nodes}
use Rattle.xml_spec.specs.Numbering.{from_node}
use Rattle.xml_spec.specs.Names.{HasNames}
use Rattle.xml_spec.specs.Document.{Spells}
use Rattle.xml_spec.specs.Canonical.{canonical}
use Rattle.xml_spec.specs.Content.{content}
use Rattle.xml_spec.proofs.Documents.{one_tree}
use Rattle.xml_spec.proofs.Trees.{spelled_joined}
use Rattle.canon_laws.specs.Trees.{begins_with_element, canonical_tree}
use Rattle.canon_laws.proofs.Spelled.{spelled_writable}
use Rattle.canon_laws.proofs.Spelling.{canonical_spelled}
use Rattle.canon_laws.proofs.Keeping.{canonical_keeps}

-- the canonical form of an element of a document spells its tree
form_spelled : (bytes : List ℕ) (tree : Nodes) (k : ℕ) (skip : Option ℕ) (listed : List (List ℕ)) → Spells bytes tree →
    IsTrue (begins_with_element (from_node tree k)) → IfSome skip (λ s. k < s) →
    Spells (canonical tree k skip listed) (canonical_tree tree k skip listed)
form_spelled bytes tree k skip listed spelled begins below =
    canonical_spelled tree k skip listed begins below (spelled_writable bytes tree spelled)

form_keeps : (bytes : List ℕ) (tree : Nodes) (k : ℕ) (skip : Option ℕ) (listed : List (List ℕ)) → Spells bytes tree → HasNames tree →
    IsTrue (begins_with_element (from_node tree k)) → IfSome skip (λ s. k < s) →
    content (canonical_tree tree k skip listed) 0 None ≡ content tree k skip
form_keeps bytes tree k skip listed spelled named begins below =
    canonical_keeps tree k skip listed named (spelled_joined bytes tree spelled) begins below

pub equal_forms : (bytes others : List ℕ) (one other : Nodes) (k l : ℕ) (skip leave : Option ℕ) (listed wanted : List (List ℕ)) →
    Spells bytes one → HasNames one → Spells others other → HasNames other →
    IsTrue (begins_with_element (from_node one k)) → IsTrue (begins_with_element (from_node other l)) →
    IfSome skip (λ s. k < s) → IfSome leave (λ s. l < s) →
    canonical one k skip listed ≡ canonical other l leave wanted → content one k skip ≡ content other l leave
equal_forms bytes others one other k l skip leave listed wanted spelled named spelled_too named_too begins begins_too below below_too same =
    let one_form = canonical_tree one k skip listed in
    let other_form = canonical_tree other l leave wanted in
    let one_spelled = form_spelled bytes one k skip listed spelled begins below in
    let other_spelled = form_spelled others other l leave wanted spelled_too begins_too below_too in
    let one_tree_spelled : one_form ≡ other_form =
    one_tree (canonical one k skip listed) one_form other_form one_spelled (subst (λ b. Spells b other_form) (sym same) other_spelled)
    in
    sym (form_keeps bytes one k skip listed spelled named begins below)
    ∙ ap (λ tree. content tree 0 None) one_tree_spelled
    ∙ form_keeps others other l leave wanted spelled_too named_too begins_too below_too
