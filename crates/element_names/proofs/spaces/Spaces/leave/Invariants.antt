use Rattle.std.proofs.Common.{◌≡◌, ◌-◌, ◌<◌, length, drop}
use Rattle.element_names.specs.Spaces.{IsReady}
use Rattle.element_names.proofs.spaces.Spaces.leave.Given as goal

abbrev pub invariant-loop-self : goal.invariant-loop-self
invariant-loop-self l = record {
  ready : IsReady l.self;
  deep : l.depth < length l.self.scope;
  scope : l.self.scope ≡ drop (length l.initial.self.scope - length l.self.scope) l.initial.self.scope;
  table : l.self.table ≡ l.initial.self.table;
}

abbrev pub decreases-loop-self : goal.decreases-loop-self
decreases-loop-self l = length l.self.scope
