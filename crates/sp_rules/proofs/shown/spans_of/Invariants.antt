use Rattle.std.proofs.Common.{take}
use Rattle.sp_rules.specs.Shown.{AreWrittenAt}
use Rattle.sp_rules.proofs.Showing.{numbers_of}
use Rattle.sp_rules.proofs.shown.spans_of.Given as goal

abbrev pub invariant-loop-node : goal.invariant-loop-node
invariant-loop-node l = AreWrittenAt l.doc.text l.doc.tree (numbers_of (take l.node-index l.node-items)) l.spans
