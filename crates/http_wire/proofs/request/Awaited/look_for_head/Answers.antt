use Rattle.std.proofs.Common.{take, sym, ap, ◌∙◌, arith}
use Rattle.std.proofs.lemmas.List.{take-take, length-take}
use Rattle.http_wire.specs.Awaiting.{Awaited}
use Rattle.http_wire.specs.Heads.{end_of_lines}
use Rattle.http_wire.proofs.Extending.{same_bytes}
use Rattle.http_wire.proofs.Deciding.{not_come, too_long, awaited_head}
use Rattle.http_wire.proofs.Keeping.{not_more, not_refused}
use Rattle.http_wire.proofs.request.Awaited.look_for_head.Goals as goal

pub end_of_lines-requires : goal.end_of_lines-requires
end_of_lines-requires c =
    let bytes = c.args.buffer.now in
    let searched = ap (λ (a : Awaited). a.searched) c.self.view_is in
    ap end_of_lines (take-take c.self.inside.searched c.min.result bytes (omega (arith, c.requires.known.brought, length-take 16384 bytes)))
    ∙ ap (λ n. end_of_lines (take n bytes)) searched ∙ c.requires.known.searched

pub look_behind-requires-clause-ended : goal.look_behind-requires-clause-ended
look_behind-requires-clause-ended c =
    ap end_of_lines (sym (same_bytes c.args.buffer.now c.min.result c.min.ensures)) ∙ sym c.in-Some.ensures

pub returns-in-None-clause-reading : goal.returns-in-None-clause-reading
returns-in-None-clause-reading c =
    not_come c.args.buffer.now (ap end_of_lines (sym (same_bytes c.args.buffer.now c.min.result c.min.ensures)) ∙ sym c.in-None.ensures) (omega arith)

pub returns-in-None-clause-awaited : goal.returns-in-None-clause-awaited
returns-in-None-clause-awaited c =
    awaited_head c.args.buffer.now c.self.inside.head (ap end_of_lines (sym (same_bytes c.args.buffer.now c.min.result c.min.ensures)) ∙ sym c.in-None.ensures) (omega arith)
    (ap (λ (a : Awaited). a.head) c.self.view_is ∙ c.requires.none)

pub returns-in-None-clause-kept : goal.returns-in-None-clause-kept
returns-in-None-clause-kept c = λ request whole.
    absurd (not_more c.args.buffer.now request (not_come c.args.buffer.now (ap end_of_lines (sym (same_bytes c.args.buffer.now c.min.result c.min.ensures)) ∙ sym c.in-None.ensures) (omega arith)) whole)

pub returns-in-None-2-clause-reading : goal.returns-in-None-2-clause-reading
returns-in-None-2-clause-reading c =
    too_long c.args.buffer.now (ap end_of_lines (sym (same_bytes c.args.buffer.now c.min.result c.min.ensures)) ∙ sym c.in-None.ensures) (omega arith)

pub returns-in-None-2-clause-kept : goal.returns-in-None-2-clause-kept
returns-in-None-2-clause-kept c = λ request whole.
    absurd (not_refused c.args.buffer.now request 400 (too_long c.args.buffer.now (ap end_of_lines (sym (same_bytes c.args.buffer.now c.min.result c.min.ensures)) ∙ sym c.in-None.ensures) (omega arith)) whole)
