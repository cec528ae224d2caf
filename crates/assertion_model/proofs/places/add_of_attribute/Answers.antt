use Rattle.assertion_model.proofs.PlaceLemmas.{one_found}
use Rattle.assertion_model.proofs.places.add_of_attribute.Goals as goal

pub loop-value-preserved : goal.loop-value-preserved
loop-value-preserved c =
    one_found _ _ c.loop-value.left.left c.next_named.new.self.left _ c.loop-value.found _ _ c.saml.ensures c.in-Some.ensures.taken c.loop-value.invariant c.in_ok-push.ensures.ok
