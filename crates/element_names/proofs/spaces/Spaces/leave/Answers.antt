use Rattle.std.proofs.Common.{◌≡◌, ◌+◌, ◌-◌, ◌<◌, length, ap, ◌∙◌, refl, arith}
use Rattle.std.proofs.lemmas.List.{length-drop}
use Rattle.element_names.proofs.Bindings.{drop_more, ready_popped}
use Rattle.element_names.proofs.spaces.Spaces.leave.Goals as goal

pub loop-self-preserved : goal.loop-self-preserved
loop-self-preserved c =
    let before = c.loop-self.self in
    let count = c.loop-self.invariant.ready.count in
    let more : c.args.depth + 1 < before.levels = c.loop-self-test.true in
    let shorter : length c.pop.new.self ≡ length before.scope - 1 = ap length c.pop.ensures ∙ length-drop 1 before.scope in
    record {
      ready =
          ready_popped before (record { table = before.table; scope = c.pop.new.self; levels = before.levels - 1 })
          c.loop-self.invariant.ready (omega arith) c.pop.ensures refl refl;
      deep = omega arith;
      scope = drop_more c.args.self.now.scope before.scope c.pop.new.self c.loop-self.invariant.scope c.pop.ensures (omega arith);
      table = c.loop-self.invariant.table;
    }
