use Rattle.std.proofs.Common.{List, ℕ, subst}
use Rattle.element_names.proofs.TableIndexing.{same_tests}
use Rattle.element_names.specs.Tables.{IsIndexed}
use Rattle.element_names.proofs.table.Table.is_same.Goals as goal

pub returns : goal.returns
returns c =
    let indexed = subst (λ (table : List (List ℕ)). IsIndexed table c.self.inside.numbers) c.self.view_is c.self.invariant in
    same_tests c.args.self.now c.self.inside.numbers c.args.one c.args.other indexed c.requires.one c.requires.other
