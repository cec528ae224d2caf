use Rattle.std.proofs.Common.{◌∙◌}
use Rattle.element_names.specs.Spaces.{scope_of}
use Rattle.element_names.proofs.Bindings.{bound_more, grows_twice}
use Rattle.element_names.proofs.spaces.Spaces.declare_all.Goals as goal

pub loop-i-preserved : goal.loop-i-preserved
loop-i-preserved c =
    let before = c.loop-i.self in
    let after = c.declare.new.self in
    let one = c.in_ok-declare.ensures.ok in
    record {
      ready = one.ready;
      bound =
          bound_more c.args.attributes.now c.loop-i.i c.index-attributes-i.result (scope_of before) (scope_of after)
          c.loop-i-test.true c.loop-i.auto.i c.index-attributes-i.is one.bound
          ∙ c.loop-i.invariant.bound;
      outer = one.outer ∙ c.loop-i.invariant.outer;
      grows =
          grows_twice c.args.self.now.table before.table after.table
          c.loop-i.invariant.grows one.grows;
    }
