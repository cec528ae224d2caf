use Rattle.std.proofs.Common.{◌+◌, [], take, sym, subst, arith}
use Rattle.std.specs.List.{AllByRecursion}
use Rattle.saml_tree.specs.Elements.{IsElement}
use Rattle.sp_rules.specs.Shown.{AreWrittenAt}
use Rattle.sp_rules.proofs.Showing.{numbers_of, at_one, written_at, next_written, all_written}
use Rattle.sp_rules.proofs.shown.spans_of.Goals as goal

pub span-requires : goal.span-requires
span-requires c =
    at_one (λ n. IsElement c.args.doc.now.tree n) c.as_slice-node-items.result.now c.loop-node.node-index (record { 0 = 0 }) c.loop-node-test.true
    (subst (AllByRecursion (λ n. IsElement c.args.doc.now.tree n)) (sym c.as_slice-node-items.ensures) c.requires)

pub loop-node-init : goal.loop-node-init
loop-node-init c = subst (λ found. AreWrittenAt c.args.doc.now.text c.args.doc.now.tree [] found) (sym c.new-spans.ensures) tt

pub loop-node-preserved : goal.loop-node-preserved
loop-node-preserved c =
    let items = c.as_slice-node-items.result.now in
    let element = at_one (λ n. IsElement c.args.doc.now.tree n) items c.loop-node.node-index (record { 0 = 0 }) c.loop-node-test.true
    (subst (AllByRecursion (λ n. IsElement c.args.doc.now.tree n)) (sym c.as_slice-node-items.ensures) c.requires) in
    subst (λ found. AreWrittenAt c.args.doc.now.text c.args.doc.now.tree (numbers_of (take (c.loop-node.node-index + 1) items)) found) (sym c.in_ok-push.ensures.ok)
    (next_written c.args.doc.now.text c.args.doc.now.tree items c.loop-node.node-index (record { 0 = 0 }) c.loop-node.spans c.span.result
    c.loop-node-test.true c.loop-node.invariant (written_at c.args.doc.now.text c.args.doc.now.tree _ c.span.result element c.span.ensures))

pub returns : goal.returns
returns c =
    all_written c.args.doc.now.text c.args.doc.now.tree c.as_slice-node-items.result.now c.loop-node.node-index c.args.nodes.now c.loop-node.spans
    (omega arith) c.as_slice-node-items.ensures c.loop-node.invariant
