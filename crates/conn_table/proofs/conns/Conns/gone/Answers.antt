use Rattle.std.proofs.Common.{ap, ◌∙◌}
use Rattle.std.specs.FinMap as map
use Rattle.conn_table.specs.Kept.{table_of}
use Rattle.conn_table.proofs.Steps.{has_number, not_in_table, sound_without}
use Rattle.conn_table.proofs.Tables.{table_without, remove_absent}
use Rattle.conn_table.proofs.conns.Conns.gone.Goals as goal

pub returns-in-Some : goal.returns-in-Some
returns-in-Some c =
    let s = c.self.inside.connections in
    table_without s c.remove.new.self c.in-Some.key c.remove.result c.self.invariant.distinct c.remove.ensures.value c.remove.ensures.updates
    ∙ ap (map.remove (table_of s.slots)) (has_number s c.in-Some.key c.args.conn c.remove.result c.in-Some.ensures.found c.remove.ensures.value)
    ∙ ap (λ m. map.remove m c.args.conn) c.self.view_is

pub returns-in_default : goal.returns-in_default
returns-in_default c =
    remove_absent c.args.self.now c.args.conn (not_in_table c.self.inside.connections c.args.self.now c.args.conn c.self.view_is c.in_default.ensures.absent)

pub invariant_of-self : goal.invariant_of-self
invariant_of-self c =
    sound_without c.self.inside.connections c.remove.new.self c.in-Some.key c.remove.result c.self.invariant c.remove.ensures.value c.remove.ensures.updates
