use Rattle.std.proofs.Common.{codes}
use Rattle.std.proofs.lemmas.Result.{err_from_is_err_and}
use Rattle.assertion_model.specs.Contents.{Part}
use Rattle.assertion_model.specs.Login.{children, attribute}
use Rattle.assertion_model.proofs.EachLemmas.{group_more, group_stops, fault_on}
use Rattle.assertion_model.proofs.statements.read_attributes.Goals as goal

pub loop-statement-preserved : goal.loop-statement-preserved
loop-statement-preserved c =
    group_more (λ (s : Part). children (codes "Attribute") s.kids) attribute _ c.loop-statement.found c.add_attributes.new.found _ _ _ c.loop-statement.invariant c.in-Some.ensures
    c.in_ok-add_attributes.ensures

pub returns-in_err-add_attributes : goal.returns-in_err-add_attributes
returns-in_err-add_attributes c =
    let p = err_from_is_err_and c.from_residual.result c.from_residual.ensures.1 in
    rw (p.1, p.2) (fault_on c.in_err-add_attributes.field-0.0 _ _ c.in_err-add_attributes.ensures (λ none.
    group_stops (λ (s : Part). children (codes "Attribute") s.kids) attribute _ c.loop-statement.found _ _ _ c.loop-statement.invariant c.in-Some.ensures none))
