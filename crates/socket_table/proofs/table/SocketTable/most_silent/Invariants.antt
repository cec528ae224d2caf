-- Of the connections so far the one that was found has been silent longest, and none was found only where none is silent.
use Rattle.socket_table.specs.declared.seat.Seat.{Seat}
use Rattle.socket_table.specs.Connections.{IsSilent}
use Rattle.socket_table.proofs.Silent.{FoundBelow}
use Rattle.socket_table.proofs.table.SocketTable.most_silent.Given as goal

abbrev pub invariant-loop-place : goal.invariant-loop-place
invariant-loop-place g l =
    FoundBelow {X = Seat g.row.S.Denot} (λ seat. IsSilent l.stage l.silence l.now seat.connection) (λ seat. seat.connection.moved) l.seat-items l.place l.found
