use Rattle.std.proofs.Common.{List, subst, ◌∙◌, ap}
use Rattle.xml_tokens.specs.Views.{Grows}
use Rattle.xml_tokens.specs.declared.token.Attribute.{Attribute}
use Rattle.tree_rows.specs.Views.{RowsView}
use Rattle.tree_rows.proofs.Growing.{rows_stay}
use Rattle.tree_rows.proofs.rows.Rows.next_token.Goals as goal

pub returns-clause-rows : goal.returns-clause-rows
returns-clause-rows c =
    let after = c.next_token.new.attributes.items in
    rows_stay c.self.inside.rows.items c.self.inside.attributes.items after c.self.inside.used c.self.invariant.within c.self.invariant.inside
    (subst (λ (front : List Attribute). Grows front after) c.truncate.ensures.items c.next_token.ensures.grows)
    ∙ ap (λ (v : RowsView). v.rows) c.self.view_is
