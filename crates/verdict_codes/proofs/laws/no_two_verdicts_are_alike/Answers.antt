use Rattle.verdict_codes.proofs.Rows.{numbers_differ, names_differ}
use Rattle.verdict_codes.proofs.laws.no_two_verdicts_are_alike.Goals as goal

pub returns : goal.returns
returns c = record { numbers = numbers_differ; names = names_differ }
