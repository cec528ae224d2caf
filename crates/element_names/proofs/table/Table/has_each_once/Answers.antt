use Rattle.std.proofs.Common.{List, ℕ, subst}
use Rattle.element_names.specs.Tables.{IsIndexed}
use Rattle.element_names.proofs.TableIndexing.{same_tests}
use Rattle.element_names.proofs.table.Table.has_each_once.Goals as goal

pub returns : goal.returns
returns c = record {
  each =
      λ one other in_one in_other.
      same_tests c.args.self.now c.self.inside.numbers one other
      (subst (λ (table : List (List ℕ)). IsIndexed table c.self.inside.numbers) c.self.view_is c.self.invariant) in_one in_other;
}
