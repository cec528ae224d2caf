use Rattle.std.proofs.Common.{refl, ℕ, [], ◌∷◌, List, Ok, Some, subst, ap, ◌∙◌, take}
use Rattle.crash_disk.specs.declared.file_no.Failed.{Failed}
use Rattle.event_link.specs.declared.link.LinkEvent.{LinkEvent}
use Rattle.event_link.specs.declared.link.LinkEvent.TheVariants as events
use Rattle.event_link.specs.Links.{Gives}
use Rattle.conn_table.specs.Events.{Started, Piece, Ended}
use Rattle.serve_loop.specs.Held.{world_in}
use Rattle.serve_loop.specs.Turns.{Over}
use Rattle.serve_loop.proofs.Leaving.{untouched}
use Rattle.serve_loop.proofs.Taking.{next_comes, next_is}
use Rattle.serve_loop.proofs.turns.Serving.turn.Goals as goal

pub returns-in-Started-clause-ok : goal.returns-in-Started-clause-ok
returns-in-Started-clause-ok g c = let old = world_in g.D.Disk.shows g.L.Link.shows g.C.Clock.to_come c.args.self.now in
    let link = g.L.Link.shows c.next.new.self in
    let event = events.Started c.in-Started.conn in
    let gives = subst (λ (e : LinkEvent). Gives {E = Failed} old.link c.args.into.now (Ok e) c.next.new.into link.told)
    c.in-Started.is c.in_ok-conn.ensures.gives in
    let comes = next_comes Failed old.link link.told c.args.into.now c.next.new.into event [] c.requires.room gives
    (λ coming is front. refl) in
    let does = c.start.ensures.does in (
      does.0,
      record old { link = link.told; send_faults = link.send_faults },
      next_is old link.told link.send_faults _ (Started c.in-Started.conn) comes does.1 c.next.ensures.send_faults,
      does.2,
      untouched g.N.Node.rules.leaves g.D.Disk.shows g.met.D.Disk.only_now c.args.self.now.disk.now c.start.new.self.disk.now
          (does.0 ∷ []) c.start.ensures.others.disk,
    )

pub returns-in-Piece-clause-ok : goal.returns-in-Piece-clause-ok
returns-in-Piece-clause-ok g c = let old = world_in g.D.Disk.shows g.L.Link.shows g.C.Clock.to_come c.args.self.now in
    let link = g.L.Link.shows c.next.new.self in
    let conn = c.in-Piece.conn in
    let count = c.in-Piece.count in
    let bytes = take count c.next.new.into in
    let gives = subst (λ (e : LinkEvent). Gives {E = Failed} old.link c.args.into.now (Ok e) c.next.new.into link.told)
    c.in-Piece.is c.in_ok-conn.ensures.gives in
    let front = c.the_bytes_of_a_piece_lie_in_front.ensures.front in
    let comes = next_comes Failed old.link link.told c.args.into.now c.next.new.into
    (events.Piece conn count) bytes c.requires.room gives (λ coming is at.
    ap (λ (b : List ℕ). Some (Piece conn b)) (ap (take count) at ∙ front 65536 conn count coming c.args.into.now is)) in
    let does = c.piece.ensures.does in (
      does.0,
      record old { link = link.told; send_faults = link.send_faults },
      next_is old link.told link.send_faults _ (Piece conn bytes) comes does.1 c.next.ensures.send_faults,
      does.2,
      does.3,
    )

pub returns-in-Ended-clause-ok : goal.returns-in-Ended-clause-ok
returns-in-Ended-clause-ok g c = let old = world_in g.D.Disk.shows g.L.Link.shows g.C.Clock.to_come c.args.self.now in
    let disk = c.args.self.now.disk.now in
    let link = g.L.Link.shows c.next.new.self in
    let conn = c.in-Ended.conn in
    let gives = subst (λ (e : LinkEvent). Gives {E = Failed} old.link c.args.into.now (Ok e) c.next.new.into link.told)
    c.in-Ended.is c.in_ok-conn.ensures.gives in
    let comes = next_comes Failed old.link link.told c.args.into.now c.next.new.into
    (events.Ended conn) [] c.requires.room gives (λ coming is front. refl) in (
      Over conn,
      record old { link = link.told; send_faults = link.send_faults },
      next_is old link.told link.send_faults (Ended conn) (Ended conn) comes refl c.next.ensures.send_faults,
      (c.gone.ensures, refl),
      untouched g.N.Node.rules.leaves g.D.Disk.shows g.met.D.Disk.only_now disk disk (Over conn ∷ []) refl,
    )
