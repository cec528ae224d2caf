use Rattle.provider_run.proofs.Headlines.{is_a_start}
use Rattle.request_ledger.specs.Record.{request_rules}
use Rattle.sp_server.specs.Step.{Answers}
use Rattle.sp_runs.specs.Runs.{IsServedBy, address, key}
use Rattle.sp_runs.proofs.laws.a_run_is_a_start.Goals as goal

pub returns : goal.returns
returns c = is_a_start IsServedBy address key request_rules Answers c.images_hold_records.ensures
