use Rattle.ledger_rules.proofs.Ends.{AreFollowed}
use Rattle.ledger_rules.proofs.kept.ends_of.Given as goal

abbrev pub invariant-loop-place : goal.invariant-loop-place
invariant-loop-place l = AreFollowed l.links l.place 0 l.ends.items

abbrev pub invariant-loop-place-2 : goal.invariant-loop-place-2
invariant-loop-place-2 l = AreFollowed l.links 0 l.place l.ends.items
