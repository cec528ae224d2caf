use Rattle.std.proofs.Common.{ℕ, ap, ◌∙◌}
use Rattle.canon_octets.proofs.Appending.{same_ok, same_err}
use Rattle.gate_journal.specs.Texts.{Coming}
use Rattle.record_lines.specs.Judging.{lines}
use Rattle.record_lines.specs.Reading.{lines_read}
use Rattle.record_lines.proofs.Reading.{lines-read}
use Rattle.record_lines.proofs.listing.put_lines.Goals as goal

pub returns-clause-ok : goal.returns-clause-ok
returns-clause-ok g c = λ records are.
    let rules = g.S.Standing.rules in
    let line = g.S.Lines.line in
    let same = ap (λ (v : ℕ). lines_read rules line v c.payloads.result.payloads) c.version.ensures
    ∙ ap (λ (s : Coming). lines_read rules line c.args.file.now.version s.payloads) c.payloads.ensures
    ∙ lines-read rules line c.args.file.now.version c.args.file.now.payloads records are in
    same_ok g.P.Octets.appends c.put_payloads.result c.args.place.now c.put_payloads.new.place (lines_read rules line c.version.result c.payloads.result.payloads) (lines line records) same c.put_payloads.ensures.ok

pub returns-clause-err : goal.returns-clause-err
returns-clause-err g c = λ records are.
    let rules = g.S.Standing.rules in
    let line = g.S.Lines.line in
    let same = ap (λ (v : ℕ). lines_read rules line v c.payloads.result.payloads) c.version.ensures
    ∙ ap (λ (s : Coming). lines_read rules line c.args.file.now.version s.payloads) c.payloads.ensures
    ∙ lines-read rules line c.args.file.now.version c.args.file.now.payloads records are in
    same_err g.P.Octets.appends c.put_payloads.result c.args.place.now c.put_payloads.new.place (lines_read rules line c.version.result c.payloads.result.payloads) (lines line records) same c.put_payloads.ensures.err
