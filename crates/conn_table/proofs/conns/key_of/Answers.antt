use Rattle.std.proofs.Common.{ap, inl, inr, ◌∙◌, refl, arith}
use Rattle.slab.proofs.SlabLemmas.{Contains-cons, Contains-cons_cases, Contains-entries}
use Rattle.conn_table.proofs.conns.key_of.Goals as goal

pub loop-key-init : goal.loop-key-init
loop-key-init c =
    let left = c.into_iter-key-iterator.ensures.into_iter_gives ∙ c.iter-key-items.ensures.rest in (
      tt,
      tt,
      λ key kept found same. rw left ((Contains-entries c.args.connections.now key kept).1 found),
      λ key kept there. (Contains-entries c.args.connections.now key kept).0 (rw left at there),
    )

pub returns-then-is-clause-found : goal.returns-then-is-clause-found
returns-then-is-clause-found c =
    let at = c.in-Some.ensures.steps in
    let held = c.loop-key.invariant.3 c.in-Some.key c.in-Some.connection.now (rw at (0, omega arith, refl)) in
    rw held (c.if-is.ensures.0 refl)

pub loop-key-preserved : goal.loop-key-preserved
loop-key-preserved c =
    let at = c.in-Some.ensures.steps in (
      tt,
      tt,
      λ key kept found same. elim (Contains-cons_cases _ _ _ (rw at at (c.loop-key.invariant.2 key kept found same))) [
        | inl here ↦ absurd (let told = c.if-is.ensures.1 (ap (λ e. e.1.conn) here ∙ same) in cc)
        | inr rest ↦ rest
      ],
      λ key kept there. c.loop-key.invariant.3 key kept (rw at (Contains-cons _ _ _ there)),
    )
