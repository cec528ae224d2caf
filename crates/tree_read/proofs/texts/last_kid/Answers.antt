use Rattle.std.proofs.Common.{arith}
use Rattle.tree_read.proofs.LastNodes.{first_is, next_is, next_is_behind, last_is}
use Rattle.tree_read.proofs.texts.last_kid.Goals as goal

pub loop-next-init : goal.loop-next-init
loop-next-init c = record {
  there = c.in_ok-last.ensures.inside;
  among = first_is c.args.doc.now.tree c.args.node.0 c.in_ok-last.last.0 c.in_ok-last.ensures.number;
}

pub loop-next-preserved : goal.loop-next-preserved
loop-next-preserved c = record {
  there = c.in-Some.ensures.inside;
  among =
      next_is c.args.doc.now.tree c.args.node.0 c.loop-next.last.0 c.in-Some.next.0 c.loop-next.invariant.there c.in-Some.ensures.number
      c.loop-next.invariant.among;
}

pub loop-next-smaller : goal.loop-next-smaller
loop-next-smaller c =
    omega (
      arith,
      next_is_behind c.args.doc.now.tree c.loop-next.last.0 c.in-Some.next.0 c.in-Some.ensures.number,
      c.in-Some.ensures.inside,
      c.loop-next.invariant.there,
    )

pub returns : goal.returns
returns c = record {
  behind = c.loop-next.invariant.among.behind;
  there = c.loop-next.invariant.there;
  last =
      last_is c.args.doc.now.tree c.args.node.0 c.loop-next.last.0 c.loop-next.invariant.there c.in_default.ensures.number c.loop-next.invariant.among;
}
