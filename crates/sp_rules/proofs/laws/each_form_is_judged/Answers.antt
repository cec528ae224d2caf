use Rattle.sp_rules.proofs.Acceptance.{opening}
use Rattle.sp_rules.proofs.Settled.{form_settled}
use Rattle.sp_rules.proofs.laws.each_form_is_judged.Goals as goal

pub returns-clause-judged : goal.returns-clause-judged
returns-clause-judged c config rows horizon now body unopened unrefused =
    form_settled config rows horizon now body (record { unopened = unopened; unrefused = unrefused })

pub returns-clause-accepted : goal.returns-clause-accepted
returns-clause-accepted c config rows horizon now body b asked opens = opening config now body b opens.brings rows horizon asked opens
