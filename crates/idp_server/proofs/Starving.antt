-- That what is visible stays where there was no memory.
use Rattle.idp_ledger.specs.Laws.{AnswerAlike, CompactionsChangeNoAnswer}
use Rattle.idp_ledger.specs.Record.{idp_rules}
use Rattle.provider_node.proofs.Starving.{rows_as_before}
use Rattle.provider_node.proofs.Told.{codes_add_nothing}
use Rattle.provider_node.specs.Starving.{RowsAnswerAsBefore}
use Rattle.idp_server.specs.Step.{Answers}
use Rattle.idp_server.proofs.Alike.{alike_self}
use Rattle.idp_server.proofs.Told.{said}

pub stays_visible : CompactionsChangeNoAnswer → RowsAnswerAsBefore idp_rules Answers AnswerAlike
stays_visible law = rows_as_before idp_rules Answers AnswerAlike alike_self law (codes_add_nothing Answers said)
