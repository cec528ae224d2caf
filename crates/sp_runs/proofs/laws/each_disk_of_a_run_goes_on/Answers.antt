use Rattle.std.specs.Prelude.{Contains}
use Rattle.provider_node.specs.Histories.{AnyMoment}
use Rattle.provider_run.proofs.Joining.{each_disk_of_a_run_goes_on}
use Rattle.request_ledger.specs.Record.{request_rules}
use Rattle.sp_server.specs.Step.{Answers}
use Rattle.sp_runs.specs.Runs.{IsServedBy, IsBadFile, address, key}
use Rattle.sp_runs.proofs.laws.each_disk_of_a_run_goes_on.Goals as goal

pub returns : goal.returns
returns g c = record {
  any = λ disk. each_disk_of_a_run_goes_on IsServedBy IsBadFile address key request_rules Answers c.images_hold_records.ensures
      (g.D.Disk.shows disk).left_since AnyMoment;
  at = λ disk moments. each_disk_of_a_run_goes_on IsServedBy IsBadFile address key request_rules Answers c.images_hold_records.ensures
      (g.D.Disk.shows disk).left_since (Contains moments);
}
