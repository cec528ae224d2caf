use Rattle.std.proofs.Common.{ap, sym, ◌∙◌, lit<}
use Rattle.sp_server.specs.Guard.{are_plain}
use Rattle.sp_server.proofs.Asked.{cut, no_segments, segments_behind, uncut}
use Rattle.sp_server.proofs.guard.has_plain_segments.Goals as goal

pub returns-in-Some : goal.returns-in-Some
returns-in-Some c =
    let parts = c.in-Some.ensures.byte (lit< tt) (λ w o h. h) in
    c.are_plain.ensures
    ∙ sym (ap are_plain (segments_behind c.args.path.now _ c.in-Some.segments.now
    (cut c.args.path.now _ c.in-Some.segments.now parts.0 parts.1 parts.2)))

pub returns-in-None : goal.returns-in-None
returns-in-None c =
    let parts =
    c.in-None.ensures.byte (lit< tt) (λ w o h. h) in sym (no_segments c.args.path.now (uncut c.args.path.now parts))
