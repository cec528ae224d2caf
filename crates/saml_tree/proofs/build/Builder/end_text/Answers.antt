use Rattle.std.proofs.Common.{sym, subst}
use Rattle.tree_rows.specs.Views.{RowsView}
use Rattle.saml_tree.specs.Links.{depths_of, AreLinkedSoFar}
use Rattle.saml_tree.proofs.LinkedRows.{row_added}
use Rattle.saml_tree.proofs.build.Builder.end_text.Goals as goal

pub returns-clause-linked : goal.returns-clause-linked
returns-clause-linked c =
    let self = c.args.self.now in
    let place = c.place_to-place.result in
    λ h. subst (λ (v : RowsView). AreLinkedSoFar (depths_of v.rows) v.links self.open_elements.items) (sym c.in_ok-push_leaf.ensures.ok)
    (row_added self.rows.rows self.rows.links _ place.link self.open_elements.items c.place_to-place.ensures.depth
    c.place_to-place.ensures.parent c.place_to-place.ensures.behind h)
