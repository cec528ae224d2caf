use Rattle.schedule_replay.proofs.Summing.{disks_run_on, failures_are_set, faults_are_set_or_of_stops, restarts_are_asked_or_set, stops_are_set}
use Rattle.schedule_replay.proofs.laws.disks_fail_and_stop_where_a_schedule_says.Goals as goal

pub returns-clause-runs : goal.returns-clause-runs
returns-clause-runs g c =
    disks_run_on c.a_disk_in_memory_fails_where_that_was_set.ensures.fails g.S.Node.rules g.P.Node.rules

pub returns-clause-stops : goal.returns-clause-stops
returns-clause-stops g c =
    stops_are_set c.a_disk_in_memory_fails_where_that_was_set.ensures.fails g.S.Node.rules g.P.Node.rules

pub returns-clause-restarts : goal.returns-clause-restarts
returns-clause-restarts g c =
    restarts_are_asked_or_set c.a_disk_in_memory_fails_where_that_was_set.ensures.fails g.S.Node.rules g.P.Node.rules

pub returns-clause-fails : goal.returns-clause-fails
returns-clause-fails g c =
    failures_are_set c.a_disk_in_memory_fails_where_that_was_set.ensures.fails g.S.Node.rules g.P.Node.rules

pub returns-clause-faults : goal.returns-clause-faults
returns-clause-faults g c =
    faults_are_set_or_of_stops c.a_disk_in_memory_fails_where_that_was_set.ensures.fails g.S.Node.rules g.P.Node.rules
