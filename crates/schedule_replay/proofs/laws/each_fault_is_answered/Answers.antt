use Rattle.schedule_replay.proofs.Answering.{each_fault_is_answered, each_fault_of_a_run_is_answered}
use Rattle.schedule_replay.proofs.laws.each_fault_is_answered.Goals as goal

pub returns-clause-step : goal.returns-clause-step
returns-clause-step g c = each_fault_is_answered g.S.Node.rules g.P.Node.rules

pub returns-clause-run : goal.returns-clause-run
returns-clause-run g c = each_fault_of_a_run_is_answered g.S.Node.rules g.P.Node.rules
