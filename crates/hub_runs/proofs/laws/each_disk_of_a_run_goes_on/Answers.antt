use Rattle.std.specs.Prelude.{Contains}
use Rattle.provider_node.specs.Histories.{AnyMoment}
use Rattle.provider_run.proofs.Joining.{each_disk_of_a_run_goes_on}
use Rattle.hub_ledger.specs.Record.{hub_rules}
use Rattle.identity_hub.specs.Step.{Answers}
use Rattle.hub_setup.specs.Setup.{IsSetUp, IsBadSetUp}
use Rattle.hub_runs.specs.Headline.{address, key}
use Rattle.hub_runs.proofs.laws.each_disk_of_a_run_goes_on.Goals as goal

pub returns : goal.returns
returns g c = record {
  any = λ disk. each_disk_of_a_run_goes_on IsSetUp IsBadSetUp address key hub_rules Answers c.images_hold_records.ensures
      (g.D.Disk.shows disk).left_since AnyMoment;
  at = λ disk moments. each_disk_of_a_run_goes_on IsSetUp IsBadSetUp address key hub_rules Answers c.images_hold_records.ensures
      (g.D.Disk.shows disk).left_since (Contains moments);
}
