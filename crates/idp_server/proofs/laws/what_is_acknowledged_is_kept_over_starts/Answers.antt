use Rattle.std.specs.Prelude.{Contains}
use Rattle.idp_ledger.specs.Record.{idp_rules}
use Rattle.provider_node.specs.Histories.{AnyMoment}
use Rattle.provider_node.proofs.Starts.{kept_over_at}
use Rattle.idp_server.specs.Step.{Answers}
use Rattle.idp_server.proofs.Histories.{draws_above}
use Rattle.idp_server.proofs.laws.what_is_acknowledged_is_kept_over_starts.Goals as goal

pub returns-clause-any : goal.returns-clause-any
returns-clause-any c = λ start starts are begun.
    kept_over_at idp_rules Answers c.images_hold_records.ensures draws_above AnyMoment start starts begun

pub returns-clause-at : goal.returns-clause-at
returns-clause-at c = λ moments start starts are begun.
    kept_over_at idp_rules Answers c.images_hold_records.ensures draws_above (Contains moments) start starts begun
