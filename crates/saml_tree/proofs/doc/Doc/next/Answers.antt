use Rattle.std.proofs.Common.{◌<◌, ap, sym, arith, length, ◌∙◌}
use Rattle.saml_tree.specs.Documents.{DocumentView}
use Rattle.saml_tree.proofs.Rows.{depths_length}
use Rattle.saml_tree.proofs.Seen.{rows_are, depth_read, end_read, next_read, no_next_read}
use Rattle.saml_tree.proofs.doc.Doc.next.Goals as goal
use Rattle.saml_tree.proofs.doc.Doc.next.Goals.{else-end-len-via-then-end-len+else-depth, else-end-len-via-else-end-len}

pub link-end-requires : goal.link-end-requires
link-end-requires c =
    let same = ap (λ (d : DocumentView). d.tree) c.self.view_is in
    let views = c.self.inside.rows.rows in
    let tree = c.args.self.now.tree in
    let shaped = c.self.invariant.shaped in
    let all = rows_are views tree shaped same in
    let count = depths_length views in
    let linked = c.self.invariant.linked in
    omega arith

pub depth-requires : goal.depth-requires
depth-requires c =
    let same = ap (λ (d : DocumentView). d.tree) c.self.view_is in
    let views = c.self.inside.rows.rows in
    let tree = c.args.self.now.tree in
    let shaped = c.self.invariant.shaped in
    let all = rows_are views tree shaped same in
    let count = depths_length views in
    let linked = c.self.invariant.linked in
    omega (arith, c.len.ensures.rows)

pub depth-requires-then-end-len : goal.depth-requires-then-end-len
depth-requires-then-end-len c =
    let same = ap (λ (d : DocumentView). d.tree) c.self.view_is in
    let views = c.self.inside.rows.rows in
    let tree = c.args.self.now.tree in
    let shaped = c.self.invariant.shaped in
    let all = rows_are views tree shaped same in
    let count = depths_length views in
    let linked = c.self.invariant.linked in
    omega arith

pub returns-then-depth-clause-number : goal.returns-then-depth-clause-number
returns-then-depth-clause-number c =
    let same = ap (λ (d : DocumentView). d.tree) c.self.view_is in
    let views = c.self.inside.rows.rows in
    let tree = c.args.self.now.tree in
    let shaped = c.self.invariant.shaped in
    let all = rows_are views tree shaped same in
    let count = depths_length views in
    let linked = c.self.invariant.linked in
    let end = end_read _ _ c.args.n.0 c.link-end.result linked (omega arith) (c.link-end.ensures c.link-end.result) in
    let in_rows : c.link-end.result.end < length views = omega (arith, c.len.ensures.rows) in
    let level = sym (depth_read views c.link-end.result.end _ c.depth.ensures)
    ∙ c.if-depth.true ∙ depth_read views c.args.n.0 _ c.depth-then-end-len.ensures in
    sym (next_read views tree shaped same c.args.n.0 c.link-end.result.end (omega arith) end in_rows level)

pub returns-else-end-len-clause-number : goal.returns-else-end-len-clause-number
returns-else-end-len-clause-number c =
    let same = ap (λ (d : DocumentView). d.tree) c.self.view_is in
    let views = c.self.inside.rows.rows in
    let tree = c.args.self.now.tree in
    let shaped = c.self.invariant.shaped in
    let all = rows_are views tree shaped same in
    let count = depths_length views in
    let linked = c.self.invariant.linked in
    let end = end_read _ _ c.args.n.0 c.link-end.result linked (omega arith) (c.link-end.ensures c.link-end.result) in
    sym (no_next_read views tree shaped same c.args.n.0 c.link-end.result.end (omega arith) end (λ in_rows level.
    elim c.else-end-len.branch [
      | else-end-len-via-then-end-len+else-depth w ↦
          let here = depth_read views c.link-end.result.end _ w.depth.ensures in
          let there = depth_read views c.args.n.0 _ w.depth-then-end-len.ensures in
          w.if-depth.false (here ∙ level ∙ sym there)
      | else-end-len-via-else-end-len w ↦ omega (arith, c.len.ensures.rows)
    ]))

pub returns-then-depth-clause-inside : goal.returns-then-depth-clause-inside
returns-then-depth-clause-inside c =
    let same = ap (λ (d : DocumentView). d.tree) c.self.view_is in
    let views = c.self.inside.rows.rows in
    let tree = c.args.self.now.tree in
    let shaped = c.self.invariant.shaped in
    let all = rows_are views tree shaped same in
    let count = depths_length views in
    let linked = c.self.invariant.linked in
    omega (arith, c.len.ensures.rows)
