use Rattle.assertion_model.proofs.ApartLemmas.{name_is_apart, values_are_apart, name_is_apart_from_own, values_are_apart_from_own}
use Rattle.assertion_model.proofs.laws.places_are_apart_from_the_signature.Goals as goal

pub returns-clause-name : goal.returns-clause-name
returns-clause-name c = name_is_apart

pub returns-clause-values : goal.returns-clause-values
returns-clause-values c = values_are_apart

pub returns-clause-own_name : goal.returns-clause-own_name
returns-clause-own_name c = name_is_apart_from_own

pub returns-clause-own_values : goal.returns-clause-own_values
returns-clause-own_values c = values_are_apart_from_own
