use Rattle.sp_runs.proofs.Setups.{told_in_a_run, served_by_one, ended, adds_none, asks_nothing, never_expired}
use Rattle.sp_runs.proofs.laws.a_registry_tells_and_ends.Goals as goal

pub returns : goal.returns
returns c = record {
  tells = told_in_a_run c.a_registry_tells_the_provider.ensures.tells;
  same = served_by_one;
  ends = ended;
  adds_none = adds_none;
  asks = asks_nothing;
  without = never_expired c.a_registry_tells_the_provider.ensures.without;
}
