use Rattle.std.proofs.Common.{ap, sym, arith}
use Rattle.saml_tree.specs.Documents.{DocumentView}
use Rattle.saml_tree.proofs.Rows.{depths_length}
use Rattle.saml_tree.proofs.Seen.{rows_are, parent_read, no_parent_read, parent_is_read}
use Rattle.saml_tree.proofs.ElementsFound.{parent_element}
use Rattle.saml_tree.proofs.doc.Doc.parent.Goals as goal

pub link-requires : goal.link-requires
link-requires c =
    let same = ap (λ (d : DocumentView). d.tree) c.self.view_is in
    let views = c.self.inside.rows.rows in
    let tree = c.args.self.now.tree in
    let shaped = c.self.invariant.shaped in
    let all = rows_are views tree shaped same in
    let count = depths_length views in
    let linked = c.self.invariant.linked in
    omega arith

pub returns-else-n-eq0-clause-number : goal.returns-else-n-eq0-clause-number
returns-else-n-eq0-clause-number c =
    let same = ap (λ (d : DocumentView). d.tree) c.self.view_is in
    let views = c.self.inside.rows.rows in
    let tree = c.args.self.now.tree in
    let shaped = c.self.invariant.shaped in
    let all = rows_are views tree shaped same in
    let count = depths_length views in
    let linked = c.self.invariant.linked in
    let is_parent = parent_read _ _ c.args.n.0 c.link.result linked (omega arith) (omega arith) (c.link.ensures c.link.result) in
    sym (parent_is_read views tree shaped same c.args.n.0 c.link.result.parent (omega arith) is_parent)

pub returns-then-n-eq0-clause-number : goal.returns-then-n-eq0-clause-number
returns-then-n-eq0-clause-number c =
    let same = ap (λ (d : DocumentView). d.tree) c.self.view_is in
    let views = c.self.inside.rows.rows in
    let tree = c.args.self.now.tree in
    let shaped = c.self.invariant.shaped in
    let all = rows_are views tree shaped same in
    let count = depths_length views in
    let linked = c.self.invariant.linked in
    sym (no_parent_read views tree shaped same c.args.n.0 (omega arith))

pub returns-else-n-eq0-clause-element : goal.returns-else-n-eq0-clause-element
returns-else-n-eq0-clause-element c =
    let same = ap (λ (d : DocumentView). d.tree) c.self.view_is in
    let views = c.self.inside.rows.rows in
    let tree = c.args.self.now.tree in
    let shaped = c.self.invariant.shaped in
    let all = rows_are views tree shaped same in
    let count = depths_length views in
    let linked = c.self.invariant.linked in
    let is_parent = parent_read _ _ c.args.n.0 c.link.result linked (omega arith) (omega arith) (c.link.ensures c.link.result) in
    parent_element tree c.args.n.0 c.link.result.parent
    (parent_is_read views tree shaped same c.args.n.0 c.link.result.parent (omega arith) is_parent)

pub overflow_cast-result : goal.overflow_cast-result
overflow_cast-result c =
    let same = ap (λ (d : DocumentView). d.tree) c.self.view_is in
    let views = c.self.inside.rows.rows in
    let tree = c.args.self.now.tree in
    let shaped = c.self.invariant.shaped in
    let all = rows_are views tree shaped same in
    let count = depths_length views in
    let linked = c.self.invariant.linked in
    let few = c.self.invariant.count in
    let is_parent = parent_read _ _ c.args.n.0 c.link.result linked (omega arith) (omega arith) (c.link.ensures c.link.result) in
    omega (arith, is_parent.before)
