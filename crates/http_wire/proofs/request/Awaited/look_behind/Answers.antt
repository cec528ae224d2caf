use Rattle.std.proofs.Common.{Some, sym, subst, ap, ◌∙◌, arith, take}
use Rattle.std.proofs.lemmas.List.{length-take}
use Rattle.http_wire.specs.declared.request.Awaited.TheInside.{Inside}
use Rattle.http_wire.specs.Awaiting.{Awaited, IsAwaited}
use Rattle.http_wire.specs.Heads.{Parts}
use Rattle.http_wire.specs.Places.{parts_at}
use Rattle.http_wire.specs.Requests.{Reads}
use Rattle.http_wire.proofs.Extending.{head_end_within}
use Rattle.http_wire.proofs.Deciding.{awaited_body, body_limit}
use Rattle.http_wire.proofs.Keeping.{same_end, read_there, kept_with_body, kept_refused, reads_kept}
use Rattle.http_wire.proofs.request.Awaited.look_behind.Goals as goal
use Rattle.http_wire.proofs.request.Awaited.look_behind.Goals.{in-Ok, in_default-size}

pub slice_bounds-read_head-end : goal.slice_bounds-read_head-end
slice_bounds-read_head-end c = omega (arith, length-take c.args.end c.args.buffer.now, head_end_within c.args.buffer.now c.args.end c.requires.ended)

pub overflow_add-self : goal.overflow_add-self
overflow_add-self c =
    let says = c.in-Some.ensures.says in
    omega (arith, body_limit (parts_at (take c.args.end c.args.buffer.now) c.in-Some.head) says.0 c.in-Ok.size says.2 c.in-Ok.is, head_end_within c.args.buffer.now c.args.end c.requires.ended)

pub found_at-requires-clause-read : goal.found_at-requires-clause-read
found_at-requires-clause-read c = read_there c.args.buffer.now c.args.end c.in-Some.head c.requires.ended c.in-Some.ensures

pub returns-clause-reading : goal.returns-clause-reading
returns-clause-reading c =
    let buffer = c.args.buffer.now in
    let head = c.in-Some.head in
    let ended = c.requires.ended in
    let read = c.in-Some.ensures in
    subst (Reads buffer) (sym c.found_at.ensures)
    (reads_kept buffer head (ended ∙ ap Some (same_end buffer c.args.end head ended read)) (read_there buffer c.args.end head ended read))

pub returns-clause-awaited : goal.returns-clause-awaited
returns-clause-awaited c =
    let buffer = c.args.buffer.now in
    let head = c.in-Some.head in
    let ended = c.requires.ended in
    let read = c.in-Some.ensures in
    let was : Awaited = record { searched = c.self.inside.searched; wanted = c.self.inside.wanted; head = c.self.inside.head } in
    let known : IsAwaited was buffer = subst (λ (a : Awaited). IsAwaited a buffer) (sym c.self.view_is) c.requires.known in
    elim c.match-head.branch [
      | in-Ok w ↦
          subst (λ (i : Inside). IsAwaited (record { searched = i.searched; wanted = i.wanted; head = Some head }) buffer) (sym w.self-inside-is)
          (awaited_body was buffer c.args.end w.in-Ok.size read.says.0 head known ended read.says.1 (sym (ap (λ (p : Parts). p.size) read.says.2) ∙ w.in-Ok.is)
          (kept_with_body buffer c.args.end w.in-Ok.size head ended read w.in-Ok.is))
      | in_default-size w ↦
          subst (λ (i : Inside). IsAwaited (record { searched = i.searched; wanted = i.wanted; head = Some head }) buffer) (sym w.self-inside-is)
          (kept_refused was buffer c.args.end head known ended read w.in_default-size.not-Ok)
    ]
