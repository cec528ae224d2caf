use Rattle.std.proofs.Common.{◌≡◌, get_or, length, Option, IfSome, refl, sym, ap, subst, ◌∙◌, arith}
use Rattle.std.specs.Str.{str_to_ascii_lowercase}
use Rattle.httparse.specs.declared.spans.TheConstants.{EMPTY_HEADER_SPAN}
use Rattle.httparse.specs.declared.spans.HeaderSpan.{HeaderSpan}
use Rattle.httparse.specs.declared.spans.Span.{Span}
use Rattle.httparse.specs.Spans.{IsWithin, span_bytes, header_bytes}
use Rattle.http_wire.specs.Lines.{Line}
use Rattle.http_wire.proofs.Naming.{false_true, kept_with, kept_without, first_within, named, not_named}
use Rattle.http_wire.proofs.lines.values_of.Goals as goal
use Rattle.http_wire.proofs.lines.values_of.Goals.{then-eq_ignore_ascii_case, else-eq_ignore_ascii_case}

pub loop-line-preserved : goal.loop-line-preserved
loop-line-preserved c =
    let name = c.args.name.now in
    let i = c.loop-line.line-index in
    let bytes = c.args.bytes.now in
    let span : HeaderSpan = get_or c.args.lines.now i EMPTY_HEADER_SPAN in
    let line : Line = header_bytes bytes span in
    let own : str_to_ascii_lowercase c.of.result.now ≡ str_to_ascii_lowercase line.0 = ap str_to_ascii_lowercase c.of.ensures in
    let same : str_to_ascii_lowercase c.as_bytes.result.now ≡ str_to_ascii_lowercase name = ap str_to_ascii_lowercase c.as_bytes.ensures.value in
    elim c.if-eq_ignore_ascii_case.branch [
      | then-eq_ignore_ascii_case w ↦
          (let kept =
          kept_with name (header_bytes bytes) (span_bytes bytes) c.args.lines.now i EMPTY_HEADER_SPAN c.loop-line.first _ _ span.value (omega arith)
          (named name line (sym own ∙ c.eq_ignore_ascii_case.ensures.test.0 w.if-eq_ignore_ascii_case.true ∙ same)) c.loop-line.invariant.1
          refl (w.first-is ∙ w.or-first.ensures) (w.repeated-is ∙ w.is_some-repeated.ensures) in
          let within = first_within (IsWithin (length bytes)) c.loop-line.first span.value c.loop-line.invariant.0 (c.requires i EMPTY_HEADER_SPAN (omega arith)).1 in (
            subst (λ (o : Option Span). IfSome o (IsWithin (length bytes))) (sym (w.first-is ∙ w.or-first.ensures)) within,
            kept.0,
            kept.1,
          ))
      | else-eq_ignore_ascii_case w ↦
          (let kept =
          kept_without name (header_bytes bytes) (span_bytes bytes) c.args.lines.now i EMPTY_HEADER_SPAN c.loop-line.first _ c.loop-line.repeated _ (omega arith)
          (not_named name line (λ e. false_true w.if-eq_ignore_ascii_case.false (c.eq_ignore_ascii_case.ensures.test.1 (own ∙ e ∙ sym same))))
          c.loop-line.invariant.1 c.loop-line.invariant.2 w.first-is w.repeated-is in (
            subst (λ (o : Option Span). IfSome o (IsWithin (length bytes))) (sym w.first-is) c.loop-line.invariant.0,
            kept.0,
            kept.1,
          ))
    ]
