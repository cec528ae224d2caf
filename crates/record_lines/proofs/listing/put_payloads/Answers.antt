use Rattle.std.proofs.Common.{◌++◌, ℕ, List, sym, ap, ◌∙◌}
use Rattle.canon_octets.proofs.Appending.{on_err}
use Rattle.canon_octets.proofs.Underway.{further, broken_off, stopped}
use Rattle.record_lines.specs.Reading.{lines_read}
use Rattle.record_lines.proofs.listing.put_payloads.Goals as goal

pub returns-in_err-line-clause-err : goal.returns-in_err-line-clause-err
returns-in_err-line-clause-err g c =
    on_err c.from_residual.result (stopped g.met.P.Octets.composes c.args.place.now c.loop-payload.place _ _ c.loop-payload.invariant)

pub returns-in_err-put-clause-err : goal.returns-in_err-put-clause-err
returns-in_err-put-clause-err g c =
    let later = lines_read g.S.Standing.rules g.S.Lines.line c.args.version c.next_payload.new.self.payloads in
    let split = ap (lines_read g.S.Standing.rules g.S.Lines.line c.args.version) c.in-Some.ensures.payload ∙ ap (λ (line : List ℕ). line ++ later) (sym (c.as_slice.ensures ∙ c.in_ok-line.ensures)) in
    on_err c.from_residual-in_err-put.result
    (broken_off g.met.P.Octets.composes c.args.place.now c.loop-payload.place c.put.new.self c.as_slice.result.now later _ _ split c.loop-payload.invariant c.in_err-put.ensures.err)

pub loop-payload-preserved : goal.loop-payload-preserved
loop-payload-preserved g c =
    let later = lines_read g.S.Standing.rules g.S.Lines.line c.args.version c.next_payload.new.self.payloads in
    let split = ap (lines_read g.S.Standing.rules g.S.Lines.line c.args.version) c.in-Some.ensures.payload ∙ ap (λ (line : List ℕ). line ++ later) (sym (c.as_slice.ensures ∙ c.in_ok-line.ensures)) in
    further g.met.P.Octets.composes c.args.place.now c.loop-payload.place c.put.new.self c.as_slice.result.now later _ _ split c.loop-payload.invariant c.in_ok-put.ensures.ok
