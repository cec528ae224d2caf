use Rattle.std.proofs.Common.{ap, sym, arith, is_some}
use Rattle.saml_tree.specs.Documents.{DocumentView}
use Rattle.saml_tree.proofs.Rows.{depths_length}
use Rattle.saml_tree.proofs.Seen.{rows_are, is_row, end_read, first_kid_read, no_kid_read}
use Rattle.saml_tree.proofs.doc.Doc.first_kid.Goals as goal

pub link-end-requires : goal.link-end-requires
link-end-requires c =
    let same = ap (λ (d : DocumentView). d.tree) c.self.view_is in
    is_row c.self.inside.rows.rows c.args.self.now.tree c.self.invariant.shaped same c.args.n.0 (ap (λ o. is_some o) c.requires)

pub overflow_add-behind : goal.overflow_add-behind
overflow_add-behind c = omega (arith, c.self.invariant.count)

pub returns-then-behind-end-clause-number : goal.returns-then-behind-end-clause-number
returns-then-behind-end-clause-number c =
    let same = ap (λ (d : DocumentView). d.tree) c.self.view_is in
    let views = c.self.inside.rows.rows in
    let tree = c.args.self.now.tree in
    let shaped = c.self.invariant.shaped in
    let all = rows_are views tree shaped same in
    let count = depths_length views in
    let linked = c.self.invariant.linked in
    let there = is_row views tree shaped same c.args.n.0 (ap (λ o. is_some o) c.requires) in
    let end = end_read _ _ c.args.n.0 c.link-end.result linked (omega arith) (c.link-end.ensures c.link-end.result) in
    sym (first_kid_read views tree shaped same c.args.n.0 c.link-end.result.end there end (omega arith))

pub returns-else-behind-end-clause-number : goal.returns-else-behind-end-clause-number
returns-else-behind-end-clause-number c =
    let same = ap (λ (d : DocumentView). d.tree) c.self.view_is in
    let views = c.self.inside.rows.rows in
    let tree = c.args.self.now.tree in
    let shaped = c.self.invariant.shaped in
    let all = rows_are views tree shaped same in
    let count = depths_length views in
    let linked = c.self.invariant.linked in
    let there = is_row views tree shaped same c.args.n.0 (ap (λ o. is_some o) c.requires) in
    let end = end_read _ _ c.args.n.0 c.link-end.result linked (omega arith) (c.link-end.ensures c.link-end.result) in
    sym (no_kid_read views tree shaped same c.args.n.0 c.link-end.result.end there end (omega arith))

pub returns-then-behind-end-clause-inside : goal.returns-then-behind-end-clause-inside
returns-then-behind-end-clause-inside c =
    let same = ap (λ (d : DocumentView). d.tree) c.self.view_is in
    let views = c.self.inside.rows.rows in
    let tree = c.args.self.now.tree in
    let shaped = c.self.invariant.shaped in
    let all = rows_are views tree shaped same in
    let count = depths_length views in
    let linked = c.self.invariant.linked in
    let there = is_row views tree shaped same c.args.n.0 (ap (λ o. is_some o) c.requires) in
    let end = end_read _ _ c.args.n.0 c.link-end.result linked (omega arith) (c.link-end.ensures c.link-end.result) in
    omega (arith, end.in_range)

pub overflow_cast-result : goal.overflow_cast-result
overflow_cast-result c =
    let same = ap (λ (d : DocumentView). d.tree) c.self.view_is in
    let views = c.self.inside.rows.rows in
    let tree = c.args.self.now.tree in
    let shaped = c.self.invariant.shaped in
    let all = rows_are views tree shaped same in
    let count = depths_length views in
    let linked = c.self.invariant.linked in
    let few = c.self.invariant.count in
    let there = is_row views tree shaped same c.args.n.0 (ap (λ o. is_some o) c.requires) in
    let end = end_read _ _ c.args.n.0 c.link-end.result linked (omega arith) (c.link-end.ensures c.link-end.result) in
    omega (arith, end.in_range)
