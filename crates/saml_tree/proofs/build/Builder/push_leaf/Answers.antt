use Rattle.std.proofs.Common.{sym, subst}
use Rattle.tree_rows.specs.Views.{RowsView}
use Rattle.saml_tree.specs.Links.{depths_of, AreLinkedSoFar}
use Rattle.saml_tree.proofs.LinkedRows.{row_added}
use Rattle.saml_tree.proofs.build.Builder.push_leaf.Goals as goal

pub returns-clause-linked : goal.returns-clause-linked
returns-clause-linked c =
    let before = c.end_text.new.self in
    let place = c.place_to-place.result in
    λ h. c.move_to.ensures.linked
    (subst (λ (v : RowsView). AreLinkedSoFar (depths_of v.rows) v.links before.open_elements.items) (sym c.in_ok-push_leaf.ensures.ok)
    (row_added before.rows.rows before.rows.links _ place.link before.open_elements.items c.place_to-place.ensures.depth
    c.place_to-place.ensures.parent c.place_to-place.ensures.behind (c.in_ok-end_text.ensures.linked h)))
