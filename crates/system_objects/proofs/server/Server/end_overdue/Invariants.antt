-- Each turn takes a connection out.
use Rattle.std.proofs.Common.{vec_len}
use Rattle.system_objects.proofs.server.Server.end_overdue.Given as goal

abbrev pub decreases-loop-place : goal.decreases-loop-place
decreases-loop-place l = vec_len l.self.table.seats
