use Rattle.std.proofs.Common.{rules, ap, not, sym, ◌∙◌, lit<}
use Rattle.sp_server.proofs.Asked.{cut, last_one, next_one, uncut}
use Rattle.sp_server.proofs.guard.are_plain.Goals as goal

pub loop-segment-preserved : goal.loop-segment-preserved
loop-segment-preserved c =
    let parts = c.in-Some.ensures.byte (lit< tt) (λ w o h. h) in (
      c.loop-segment.invariant.0
          ∙ next_one c.loop-segment.rest.now c.in-Some.segment.now c.in-Some.behind.now
          (cut c.loop-segment.rest.now c.in-Some.segment.now c.in-Some.behind.now parts.0 parts.1 parts.2)
          (sym c.is_empty.ensures ∙ c.if-is_empty.false)
          (sym c.is_dot_segment.ensures ∙ c.if-is_dot_segment.false),
      search rules,
    )

pub returns : goal.returns
returns c =
    let parts = c.in_default.ensures.byte (lit< tt) (λ w o h. h) in
    sym (c.loop-segment.invariant.0 ∙ last_one c.loop-segment.rest.now (uncut c.loop-segment.rest.now parts)
    ∙ ap not (sym c.is_dot_segment-2.ensures))
