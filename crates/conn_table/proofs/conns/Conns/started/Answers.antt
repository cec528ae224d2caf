use Rattle.std.proofs.Common.{ap}
use Rattle.conn_table.proofs.Steps.{has_room, sound_started, is_taken}
use Rattle.conn_table.proofs.conns.Conns.started.Goals as goal

pub invariant_of-self-2 : goal.invariant_of-self-2
invariant_of-self-2 c =
    sound_started c.self.inside.connections c.reserve.new.self c.insert_reserved.new.self c.args.self.now c.args.conn c.insert_reserved.result c.new.result
    c.self.invariant.distinct c.self.view_is (ap (λ s. s.slots) c.reserve.ensures.rest_kept) (has_room c.args.self.now c.if-is_full.ensures.1) c.requires c.new.ensures
    c.insert_reserved.ensures.was_vacant c.insert_reserved.ensures.updates

pub returns : goal.returns
returns c =
    is_taken c.self.inside.connections c.reserve.new.self c.insert_reserved.new.self c.args.self.now c.args.conn c.insert_reserved.result c.new.result
    c.self.invariant.distinct c.self.view_is (ap (λ s. s.slots) c.reserve.ensures.rest_kept) (has_room c.args.self.now c.if-is_full.ensures.1) c.requires c.new.ensures
    c.insert_reserved.ensures.was_vacant c.insert_reserved.ensures.updates
