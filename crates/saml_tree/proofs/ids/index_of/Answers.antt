use Rattle.std.proofs.Common.{◌<◌, ◌≤◌, ◌+◌, length, inl, inr, subst, arith}
use Rattle.std.proofs.lemmas.Result.{err_from_is_err_and}
use Rattle.xml_spec.specs.Identifiers.{identifiers}
use Rattle.tree_rows.specs.Rows.{nodes_at}
use Rattle.saml_tree.specs.Index.{AreOnce, AreIndexed}
use Rattle.saml_tree.proofs.RowIds.{ids_before, element_more, other_more, once_rows, all_rows}
use Rattle.saml_tree.proofs.ids.index_of.Goals as goal
use Rattle.saml_tree.proofs.ids.index_of.Goals.{in-Element+in_ok-add_all, in_default}

pub returns-in_err-add_all-clause-err : goal.returns-in_err-add_all-clause-err
returns-in_err-add_all-clause-err c =
    let k = c.loop-k.k in
    let rows = c.args.rows.now.rows in
    let fits : k < length rows = omega (arith, c.len-k-end.ensures.rows) in
    let p = err_from_is_err_and c.from_residual.result c.from_residual.ensures.1 in
    let same = element_more rows k c.shape.result c.in-Element.name c.in-Element.attributes fits c.shape.ensures c.in-Element.is in
    rw (p.1, p.2) (elim c.in_err-add_all.ensures.err [
      | inl memory ↦ inl memory
      | inr bad ↦ inr (bad.0, λ single. bad.1 (ids_before rows k) c.loop-k.invariant (subst AreOnce same (once_rows rows (k + 1) c.requires.shaped single)))
    ])

pub loop-k-preserved : goal.loop-k-preserved
loop-k-preserved c =
    let k = c.loop-k.k in
    let rows = c.args.rows.now.rows in
    let fits : k < length rows = omega (arith, c.len-k-end.ensures.rows) in
    elim c.match-shape.branch [
      | in-Element+in_ok-add_all w ↦
          let same = element_more rows k c.shape.result w.in-Element.name w.in-Element.attributes fits c.shape.ensures w.in-Element.is in
          rw (w.ids-is, same) (w.in_ok-add_all.ensures.ok (ids_before rows k) c.loop-k.invariant)
      | in_default w ↦
          let same = other_more rows k c.shape.result fits c.shape.ensures w.in_default.not-Element in
          rw (w.ids-is, same) c.loop-k.invariant
    ]

pub returns-clause-ok : goal.returns-clause-ok
returns-clause-ok c =
    let rows = c.args.rows.now.rows in
    let ended : length rows ≤ c.loop-k.k = omega (arith, c.len-k-end.ensures.rows) in
    let same = all_rows rows c.loop-k.k ended c.requires.shaped in
    let all : AreIndexed (identifiers (nodes_at 0 rows)) c.loop-k.ids = subst (λ ids. AreIndexed ids c.loop-k.ids) same c.loop-k.invariant in
    (record { once = all.once }, all.index)
