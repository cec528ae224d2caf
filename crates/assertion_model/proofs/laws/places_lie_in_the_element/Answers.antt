use Rattle.assertion_model.proofs.PlaceLemmas.{name_place_is, value_places_are}
use Rattle.assertion_model.proofs.laws.places_lie_in_the_element.Goals as goal

pub returns-clause-name : goal.returns-clause-name
returns-clause-name c = name_place_is

pub returns-clause-values : goal.returns-clause-values
returns-clause-values c = value_places_are
