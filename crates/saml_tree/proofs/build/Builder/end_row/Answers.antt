use Rattle.std.proofs.Common.{◌≤◌, List, length, sym, ap, subst, arith}
use Rattle.tree_rows.specs.Rows.{Row, end_at}
use Rattle.tree_rows.specs.declared.node.Link.{Link}
use Rattle.saml_tree.specs.Links.{depths_of, AreLinkedSoFar}
use Rattle.saml_tree.specs.Views.{builder_view}
use Rattle.saml_tree.proofs.Building.{end_at_none, with_rows}
use Rattle.saml_tree.proofs.LinkedRows.{row_ended, row_open}
use Rattle.saml_tree.proofs.build.Builder.end_row.Goals as goal

pub returns-then-number-len-clause-linked : goal.returns-then-number-len-clause-linked
returns-then-number-len-clause-linked c =
    let self = c.args.self.now in
    let numbers = self.open_elements.items in
    let none : Link = record { parent = 0; end = 0 } in
    λ h. subst (λ (rows : List Row). AreLinkedSoFar (depths_of rows) c.end_row.new.self.links numbers) (sym c.end_row.ensures.rows)
    (subst (λ (links : List Link). AreLinkedSoFar (depths_of (end_at self.place c.args.number self.rows.rows)) links numbers) (sym (c.end_row.ensures.links none))
    (row_ended self.rows.rows self.rows.links self.place c.args.number none numbers (omega (arith, c.len.ensures.rows, c.if-number-len.true)) h))

pub returns-else-number-len-clause-linked : goal.returns-else-number-len-clause-linked
returns-else-number-len-clause-linked c =
    let self = c.args.self.now in
    λ h. absurd (omega (arith, row_open self.rows.rows self.rows.links c.args.number self.open_elements.items h, c.len.ensures.rows, c.if-number-len.false))

pub returns-else-number-len-clause-rows : goal.returns-else-number-len-clause-rows
returns-else-number-len-clause-rows c =
    let self = c.args.self.now in
    let past : length self.rows.rows ≤ c.args.number = omega (arith, c.len.ensures.rows, c.if-number-len.false) in
    ap (with_rows (builder_view self)) (sym (end_at_none self.place c.args.number self.rows.rows past))
