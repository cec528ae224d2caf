use Rattle.std.proofs.Common.{◌≡◌, ◌+◌, take, length, get_or, arith, ◌∙◌, ap}
use Rattle.std.proofs.lemmas.List.{take_more}
use Rattle.gate_journal.specs.Format.{sizes}
use Rattle.gate_journal.proofs.Payloads.{sizes-push, sizes-take}
use Rattle.gate_journal.proofs.journal.size_before.Goals as goal

pub overflow_add-size : goal.overflow_add-size
overflow_add-size c =
    let records = c.args.records.now in
    let at = c.loop-record.record-index in
    let item = c.record-item.is in
    let more = take_more records at c.record-item.result c.loop-record-test.true in
    let grown : sizes (take (at + 1) records) ≡ sizes (take at records) + (length (get_or records at c.record-item.result) + 5) = ap sizes more ∙ sizes-push (take at records) (get_or records at c.record-item.result) in
    omega (arith, grown, sizes-take (at + 1) records, ap length item, c.len.ensures, c.loop-record.invariant)

pub overflow_add-size-in-loop-record : goal.overflow_add-size-in-loop-record
overflow_add-size-in-loop-record c =
    let records = c.args.records.now in
    let at = c.loop-record.record-index in
    let item = c.record-item.is in
    let more = take_more records at c.record-item.result c.loop-record-test.true in
    let grown : sizes (take (at + 1) records) ≡ sizes (take at records) + (length (get_or records at c.record-item.result) + 5) = ap sizes more ∙ sizes-push (take at records) (get_or records at c.record-item.result) in
    omega (arith, grown, sizes-take (at + 1) records, ap length item, c.len.ensures, c.loop-record.invariant)

pub loop-record-preserved : goal.loop-record-preserved
loop-record-preserved c =
    let records = c.args.records.now in
    let at = c.loop-record.record-index in
    let item = c.record-item.is in
    let more = take_more records at c.record-item.result c.loop-record-test.true in
    let grown : sizes (take (at + 1) records) ≡ sizes (take at records) + (length (get_or records at c.record-item.result) + 5) = ap sizes more ∙ sizes-push (take at records) (get_or records at c.record-item.result) in
    omega (arith, grown, ap length item, c.len.ensures, c.loop-record.invariant)
