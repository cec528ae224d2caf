use Rattle.sp_answers.proofs.Alike.{accept_alike, open_alike, refuse_alike}
use Rattle.sp_answers.proofs.laws.like_rows_are_judged_alike.Goals as goal

pub returns-clause-opens : goal.returns-clause-opens
returns-clause-opens c = open_alike

pub returns-clause-accepts : goal.returns-clause-accepts
returns-clause-accepts c = accept_alike

pub returns-clause-refuses : goal.returns-clause-refuses
returns-clause-refuses c = refuse_alike
