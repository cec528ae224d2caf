use Rattle.std.proofs.Common.{Some}
use Rattle.assertion_model.proofs.PlaceLemmas.{name_at, values_at, name_element, value_elements}
use Rattle.assertion_model.proofs.places.read_places.Goals as goal

pub returns-clause-elements : goal.returns-clause-elements
returns-clause-elements c =
    let document = c.args.v.now.document in
    let node = c.args.v.now.node in (
      name_element document.tree node c.in-Some.name.0
          (name_at c.at-at.result document node (Some c.in-Some.name.0) c.at-at.ensures.document c.at-at.ensures.node c.in-Some.ensures),
      value_elements document.tree node c.in_ok-values.values
          (values_at c.at-at.result document node c.in_ok-values.values c.at-at.ensures.document c.at-at.ensures.node c.in_ok-values.ensures),
    )
