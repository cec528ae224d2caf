use Rattle.std.proofs.Common.{sym}
use Rattle.conn_table.proofs.Steps.{not_in_table, is_unknown, sound_piece, takes_piece}
use Rattle.conn_table.proofs.conns.Conns.piece.Goals as goal

pub returns-in_default : goal.returns-in_default
returns-in_default c =
    is_unknown c.args.self.now c.args.conn c.args.bytes.now
    (not_in_table c.self.inside.connections c.args.self.now c.args.conn c.self.view_is c.in_default.ensures.absent)

pub invariant_of-self : goal.invariant_of-self
invariant_of-self c =
    sound_piece c.self.inside.connections c.args.self.now c.args.conn c.in-Some.key c.args.bytes.now c.in-Some-get_mut.connection.now c.take.new.self c.take.result
    c.self.invariant c.self.view_is c.in-Some.ensures.found (sym c.in-Some-get_mut.ensures.value) c.take.ensures.known c.take.ensures.number c.take.ensures.answer
    c.take.ensures.taken c.take.ensures.unchanged

pub returns : goal.returns
returns c =
    takes_piece c.self.inside.connections c.args.self.now c.args.conn c.in-Some.key c.args.bytes.now c.in-Some-get_mut.connection.now c.take.new.self c.take.result
    c.self.invariant c.self.view_is c.in-Some.ensures.found (sym c.in-Some-get_mut.ensures.value) c.take.ensures.known c.take.ensures.number c.take.ensures.answer
    c.take.ensures.taken c.take.ensures.unchanged
