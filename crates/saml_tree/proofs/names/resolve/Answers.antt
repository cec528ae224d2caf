use Rattle.std.proofs.Common.{◌≡◌, suc, ◌+◌, length, inl, inr, refl, sym, subst, arith}
use Rattle.std.proofs.lemmas.Result.{err_from_is_err_and}
use Rattle.tree_rows.specs.Rows.{Shape, row_at}
use Rattle.saml_tree.specs.Resolved.{IsNamedShape, IsResolvedShape, Moves}
use Rattle.element_names.specs.Spaces.{scope_of}
use Rattle.saml_tree.proofs.Walks.{Walk, Leaves, walk_first, walk_deep, walk_refused, walk_on, walked_names, walked}
use Rattle.saml_tree.proofs.names.resolve.Goals as goal

pub loop-k-init : goal.loop-k-init
loop-k-init c =
    subst (Walk c.args.rows.now.rows 0 c.in_ok-spaces.spaces c.new-numbers.result.items) (sym c.new-named.ensures.items)
    (walk_first c.args.rows.now.rows c.in_ok-spaces.spaces c.new-numbers.result.items c.requires c.in_ok-spaces.ensures.ready c.in_ok-spaces.ensures.one c.in_ok-spaces.ensures.scope)

pub depth-requires : goal.depth-requires
depth-requires c = omega (arith, c.len-k-end.ensures.rows)

pub shape-requires : goal.shape-requires
shape-requires c = omega (arith, c.len-k-end.ensures.rows)

pub leave-requires-clause-ready : goal.leave-requires-clause-ready
leave-requires-clause-ready c = c.loop-k.invariant.ready

pub leave-requires-clause-deep : goal.leave-requires-clause-deep
leave-requires-clause-deep c =
    let rows = c.args.rows.now.rows in
    omega (
      arith,
      c.depth.ensures,
      walk_deep rows c.loop-k.k c.loop-k.spaces c.loop-k.numbers.items c.loop-k.named.items (row_at rows c.loop-k.k) c.loop-k.invariant (omega (arith, c.len-k-end.ensures.rows)) refl,
    )

pub returns-in_err-names-clause-err : goal.returns-in_err-names-clause-err
returns-in_err-names-clause-err c =
    let rows = c.args.rows.now.rows in
    let k = c.loop-k.k in
    let p = err_from_is_err_and c.from_residual-in_err-names.result c.from_residual-in_err-names.ensures.1 in
    let left : Leaves c.loop-k.spaces c.leave.new.self (row_at rows k).depth =
    subst (Leaves c.loop-k.spaces c.leave.new.self) c.depth.ensures
    (record { ready = c.leave.ensures.ready; scope = c.leave.ensures.scope; count = c.leave.ensures.count; table = c.leave.ensures.table }) in
    rw (p.1, p.2) (elim c.in_err-names.ensures.err [
      | inl e ↦ inl e
      | inr bad ↦ inr (
        bad.0,
        λ names. bad.1
            (subst (IsNamedShape (scope_of c.leave.new.self)) (sym c.shape.ensures)
            (walk_refused rows k c.loop-k.spaces c.leave.new.self c.loop-k.numbers.items c.loop-k.named.items (row_at rows k) c.loop-k.invariant
            (omega (arith, c.len-k-end.ensures.rows)) refl c.requires left names)),
      )
    ])

pub loop-k-preserved : goal.loop-k-preserved
loop-k-preserved c =
    let rows = c.args.rows.now.rows in
    let k = c.loop-k.k in
    let names = c.in_ok-names.names in
    let before = c.leave.new.self in
    let after = c.row_names.new.spaces in
    let left : Leaves c.loop-k.spaces before (row_at rows k).depth =
    subst (Leaves c.loop-k.spaces before) c.depth.ensures
    (record { ready = c.leave.ensures.ready; scope = c.leave.ensures.scope; count = c.leave.ensures.count; table = c.leave.ensures.table }) in
    let next : suc k ≡ k + 1 = omega arith in
    let later = c.row_names.new.numbers.items in
    subst (λ n. Walk rows n after later c.push.new.self.items) next
    (subst (Walk rows (suc k) after later) (sym c.in_ok-push.ensures.items)
    (walk_on rows k c.loop-k.spaces before after c.loop-k.numbers.items later c.loop-k.named.items names (row_at rows k)
    c.loop-k.invariant c.in_ok-names.ensures.grows (omega (arith, c.len-k-end.ensures.rows)) refl left
    (subst (IsNamedShape (scope_of before)) c.shape.ensures c.in_ok-names.ensures.named)
    (subst (λ (s : Shape). IsResolvedShape after.table later (scope_of before) s names) c.shape.ensures c.in_ok-names.ensures.resolved)
    (subst (Moves before after) c.shape.ensures c.in_ok-names.ensures.moves)))

pub returns-clause-named : goal.returns-clause-named
returns-clause-named c =
    let rows = c.args.rows.now.rows in
    walked_names rows c.loop-k.k c.loop-k.spaces c.loop-k.numbers.items c.loop-k.named.items c.loop-k.invariant (omega (arith, c.len-k-end.ensures.rows))

pub returns-clause-resolved : goal.returns-clause-resolved
returns-clause-resolved c =
    let rows = c.args.rows.now.rows in
    let count : c.loop-k.k ≡ length rows = omega (arith, c.len-k-end.ensures.rows) in
    walked rows c.loop-k.spaces (record { table = c.in_ok-table.table; attributes = c.loop-k.numbers; rows = c.loop-k.named }) c.requires
    (subst (λ n. Walk rows n c.loop-k.spaces c.loop-k.numbers.items c.loop-k.named.items) count c.loop-k.invariant) c.in_ok-table.ensures
