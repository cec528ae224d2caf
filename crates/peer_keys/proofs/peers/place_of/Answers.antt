use Rattle.std.proofs.Common.{sym, ◌∙◌}
use Rattle.peer_keys.proofs.Placing.{from_first, at_named, at_other, at_end}
use Rattle.peer_keys.proofs.peers.place_of.Goals as goal

pub loop-place-init : goal.loop-place-init
loop-place-init c = from_first c.args.entity.now c.args.peers.now

pub returns-then-has_name-clause-place : goal.returns-then-has_name-clause-place
returns-then-has_name-clause-place c =
    sym (at_named c.args.entity.now c.loop-place.place c.args.peers.now c.index-peers-place.result c.loop-place-test.true c.index-peers-place.is
    (sym c.has_name.ensures ∙ c.if-has_name.true)) ∙ c.loop-place.invariant

pub loop-place-preserved : goal.loop-place-preserved
loop-place-preserved c =
    sym (at_other c.args.entity.now c.loop-place.place c.args.peers.now c.index-peers-place.result c.loop-place-test.true c.index-peers-place.is
    (sym c.has_name.ensures ∙ c.if-has_name.false)) ∙ c.loop-place.invariant

pub returns-clause-place : goal.returns-clause-place
returns-clause-place c = sym (at_end c.args.entity.now c.loop-place.place c.args.peers.now c.loop-place-test.false) ∙ c.loop-place.invariant
