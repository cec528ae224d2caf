-- One more connection is passed over where it is not silent, else the one of the two that has been so longer is kept.
use Rattle.std.proofs.Common.{rules, ◌+◌, ◌<◌, ◌≤◌, ℕ, List, length, sym, subst}
use Rattle.socket_table.specs.declared.seat.Seat.{Seat}
use Rattle.socket_table.specs.Connections.{IsSilent}
use Rattle.socket_table.specs.Seats.{IsMostSilent}
use Rattle.socket_table.proofs.Silent.{FoundBelow, skipped, picked, most_silent}
use Rattle.socket_table.proofs.table.SocketTable.most_silent.Goals as goal
use Rattle.socket_table.proofs.table.SocketTable.most_silent.Goals.{then-is_silent, else-is_silent}

pub loop-place-preserved : goal.loop-place-preserved
loop-place-preserved g c =
    let P : Seat g.row.S.Denot → Type 0 = λ seat. IsSilent c.args.stage c.args.silence c.args.now seat.connection in
    let moved : Seat g.row.S.Denot → ℕ = λ seat. seat.connection.moved in
    let items = c.deref-seat-items.result.now in
    let within : c.loop-place.place < length items = search rules in
    elim c.if-is_silent.branch [
      | then-is_silent w ↦
          let silent : P c.seat-item.result = search rules in
          let longer = w.longer_silent in
          subst (FoundBelow P moved items (c.loop-place.place + 1)) (sym w.found-is)
          (picked P moved items c.loop-place.place c.seat-item.result c.loop-place.found longer.result within c.seat-item.is silent
          longer.ensures.either longer.ensures.next longer.ensures.found c.loop-place.invariant)
      | else-is_silent w ↦
          let loud : ¬ P c.seat-item.result = search rules in
          subst (FoundBelow P moved items (c.loop-place.place + 1)) (sym w.found-is)
          (skipped P moved items c.loop-place.place c.seat-item.result c.loop-place.found within c.seat-item.is loud c.loop-place.invariant)
    ]

pub returns-in-Some-clause-found : goal.returns-in-Some-clause-found
returns-in-Some-clause-found g c =
    let P : Seat g.row.S.Denot → Type 0 = λ seat. IsSilent c.args.stage c.args.silence c.args.now seat.connection in
    let moved : Seat g.row.S.Denot → ℕ = λ seat. seat.connection.moved in
    let items = c.deref-seat-items.result.now in
    let end : length items ≤ c.loop-place.place = search rules in
    subst (λ (seats : List (Seat g.row.S.Denot)). IsMostSilent c.args.stage c.args.silence c.args.now seats c.in-Some.silent.place)
    c.deref-seat-items.ensures.value
    (most_silent _ _ _ items c.loop-place.place c.in-Some.silent end
    (subst (FoundBelow P moved items c.loop-place.place) c.in-Some.is c.loop-place.invariant))
