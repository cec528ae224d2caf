use Rattle.std.specs.Prelude.{Contains}
use Rattle.provider_node.specs.Histories.{AnyMoment}
use Rattle.identity_hub.proofs.Histories.{kept_once_over}
use Rattle.identity_hub.proofs.laws.what_is_acknowledged_is_kept_once_over_starts.Goals as goal

pub returns-clause-any : goal.returns-clause-any
returns-clause-any c =
    kept_once_over c.images_hold_records.ensures c.no_request_backs_twice_in_a_run.ensures AnyMoment

pub returns-clause-at : goal.returns-clause-at
returns-clause-at c = λ moments.
    kept_once_over c.images_hold_records.ensures c.no_request_backs_twice_in_a_run.ensures (Contains moments)
