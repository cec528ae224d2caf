use Rattle.crash_disk.proofs.Faults.{runs_on, no_more_faults}
use Rattle.crash_disk.proofs.laws.a_disk_in_memory_fails_where_that_was_set.Goals as goal

pub returns-clause-stops : goal.returns-clause-stops
returns-clause-stops c m calls runs none fed = runs_on calls m runs none

pub returns-clause-fails : goal.returns-clause-fails
returns-clause-fails c m calls fed runs = no_more_faults calls m fed runs
