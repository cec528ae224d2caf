use Rattle.std.proofs.Common.{Ok}
use Rattle.gate_journal.specs.Format.{Kept, joined}
use Rattle.record_lines.proofs.JudgedPayloads.{judged}
use Rattle.record_lines.proofs.judging.judge.Goals as goal

pub returns-in-None : goal.returns-in-None
returns-in-None g c =
    let kept : Kept = record { file = c.in-Ok-Some.file; holds = c.in-Ok-Some.text } in
    let are = rw c.in-None.is at c.in_ok-place-in-Ok-Some.ensures in
    let stands = rw c.in-Ok-Some.field-0-is at c.in-Ok-Some.ensures in
    judged g.S.Standing.rules (joined (Ok c.args.zero) (Ok c.args.one)) kept stands are
