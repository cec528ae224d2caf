use Rattle.std.proofs.Common.{List, ℕ, ap, ◌≡◌, ◌<◌, ◌+◌, true, false, ◌++◌, codes, length, take, string_bytes, inl, inr, sym, ◌∙◌, subst, arith}
use Rattle.std.specs.Str.{bytes_eq}
use Rattle.std.proofs.lemmas.Result.{err_from_is_err_and}
use Rattle.saml_tree.specs.Index.{AreOnce}
use Rattle.saml_tree.proofs.OwnIds.{ids_of, one_id, taken_other, once_taken}
use Rattle.saml_tree.proofs.ids.Ids.add_all.Goals as goal
use Rattle.saml_tree.proofs.ids.Ids.add_all.Goals.{then-eq+in_ok-value+in_ok-add, else-eq}

pub returns-in_err-add-clause-err : goal.returns-in_err-add-clause-err
returns-in_err-add-clause-err c =
    let i = c.loop-attribute.attribute-index in
    let items = c.args.attributes.now in
    let fits : i < length items = omega arith in
    let named : bytes_eq c.attribute-item.result.name (codes "ID") ≡ true = ap (λ (x : List ℕ). bytes_eq x (codes "ID")) (sym c.as_str.ensures) ∙ sym c.eq.ensures ∙ c.if-eq.true in
    let p = err_from_is_err_and c.from_residual-in_err-add.result c.from_residual-in_err-add.ensures.1 in
    rw (p.1, p.2) (elim c.in_err-add.ensures.err [
      | inl memory ↦ inl memory
      | inr bad ↦ inr (
        bad.0,
        λ before indexed once.
            bad.1 (before ++ ids_of c.args.node (take i items)) (c.loop-attribute.invariant before indexed)
            (subst AreOnce
            (one_id before c.args.node items i c.attribute-item.result (string_bytes c.in_ok-value.value) fits c.attribute-item.is named c.in_ok-value.ensures)
            (once_taken before c.args.node items (i + 1) once)),
      )
    ])

pub loop-attribute-preserved : goal.loop-attribute-preserved
loop-attribute-preserved c = λ before indexed.
    let i = c.loop-attribute.attribute-index in
    let items = c.args.attributes.now in
    let fits : i < length items = omega arith in
    let so_far = c.loop-attribute.invariant before indexed in
    elim c.if-eq.branch [
      | then-eq+in_ok-value+in_ok-add w ↦
          let named : bytes_eq c.attribute-item.result.name (codes "ID") ≡ true = ap (λ (x : List ℕ). bytes_eq x (codes "ID")) (sym c.as_str.ensures) ∙ sym c.eq.ensures ∙ w.if-eq.true in
          let same = one_id before c.args.node items i c.attribute-item.result (string_bytes w.in_ok-value.value) fits c.attribute-item.is named w.in_ok-value.ensures in
          rw (w.self-is, same) (w.in_ok-add.ensures.ok (before ++ ids_of c.args.node (take i items)) so_far)
      | else-eq w ↦
          let named : bytes_eq c.attribute-item.result.name (codes "ID") ≡ false = ap (λ (x : List ℕ). bytes_eq x (codes "ID")) (sym c.as_str.ensures) ∙ sym c.eq.ensures ∙ w.if-eq.false in
          let same = taken_other c.args.node items i c.attribute-item.result fits c.attribute-item.is named in
          rw (w.self-is, same) so_far
    ]
