use Rattle.std.proofs.Common.{[], refl, ◌∙◌, inr}
use Rattle.std.proofs.lemmas.List.{append-nil, take-append-drop}
use Rattle.record_lines.specs.Judging.{lines}
use Rattle.record_lines.proofs.JudgedPayloads.{read_ok}
use Rattle.saml_commands.specs.Answers.{Printed}
use Rattle.saml_commands.proofs.Passed.{put_nothing, put_all, put_first, same_then}
use Rattle.saml_commands.proofs.records.put_whole.Goals as goal

pub returns-in-Ok-flush-clause-ends : goal.returns-in-Ok-flush-clause-ends
returns-in-Ok-flush-clause-ends g c = λ records are.
    let start = put_nothing _ c.requires.none c.requires.whole in
    let put = c.flush.ensures.appends _ _ ((c.in-Ok.ensures.ok records are).1 _ [] start) in (
      Printed (lines g.S.Lines.line records),
      refl,
      refl,
      put_all _ _ _ put c.in-Ok-flush.ensures.ok.0 c.in-Ok-flush.ensures.ok.1 ∙ same_then _ _ _ (append-nil _),
    )

pub returns-in-Ok-flush-clause-never_falls : goal.returns-in-Ok-flush-clause-never_falls
returns-in-Ok-flush-clause-never_falls g c =
    let start = put_nothing _ c.requires.none c.requires.whole in
    let (records, are) = read_ok _ c.requires.are in
    (c.flush.ensures.appends _ _ ((c.in-Ok.ensures.ok records are).1 _ [] start)).never_falls

pub returns-in-Err-flush-clause-ends : goal.returns-in-Err-flush-clause-ends
returns-in-Err-flush-clause-ends g c = λ records are.
    let start = put_nothing _ c.requires.none c.requires.whole in
    let put = c.flush.ensures.appends _ _ ((c.in-Ok.ensures.ok records are).1 _ [] start) in
    let sent = put_first _ _ _ _ [] (append-nil _ ∙ append-nil _) put in
    (Printed (lines g.S.Lines.line records), sent.0, refl, sent.1)

pub returns-in-Err-flush-clause-write_fault : goal.returns-in-Err-flush-clause-write_fault
returns-in-Err-flush-clause-write_fault g c =
    let start = put_nothing _ c.requires.none c.requires.whole in
    let (records, are) = read_ok _ c.requires.are in
    λ _. (c.flush.ensures.appends _ _ ((c.in-Ok.ensures.ok records are).1 _ [] start)).rose c.in-Err-flush.ensures.err

pub returns-in-Err-flush-clause-never_falls : goal.returns-in-Err-flush-clause-never_falls
returns-in-Err-flush-clause-never_falls g c =
    let start = put_nothing _ c.requires.none c.requires.whole in
    let (records, are) = read_ok _ c.requires.are in
    (c.flush.ensures.appends _ _ ((c.in-Ok.ensures.ok records are).1 _ [] start)).never_falls

pub returns-in-Err-clause-ends : goal.returns-in-Err-clause-ends
returns-in-Err-clause-ends g c = λ records are.
    let start = put_nothing _ c.requires.none c.requires.whole in
    let part = c.in-Err.ensures.err records are in
    let sent = put_first _ _ _ _ _ (take-append-drop part.0 _) (part.1.1 _ [] start) in
    (Printed (lines g.S.Lines.line records), sent.0, refl, sent.1)

pub returns-in-Err-clause-write_fault : goal.returns-in-Err-clause-write_fault
returns-in-Err-clause-write_fault g c =
    let start = put_nothing _ c.requires.none c.requires.whole in
    let (records, are) = read_ok _ c.requires.are in
    λ _. ((c.in-Err.ensures.err records are).1.1 _ [] start).rose c.if-place.true

pub returns-in-Err-clause-never_falls : goal.returns-in-Err-clause-never_falls
returns-in-Err-clause-never_falls g c =
    let start = put_nothing _ c.requires.none c.requires.whole in
    let (records, are) = read_ok _ c.requires.are in
    ((c.in-Err.ensures.err records are).1.1 _ [] start).never_falls

pub returns-in-Err-2-clause-ends : goal.returns-in-Err-2-clause-ends
returns-in-Err-2-clause-ends g c = λ records are.
    let start = put_nothing _ c.requires.none c.requires.whole in
    let part = c.in-Err-2.ensures.err records are in
    let sent = put_first _ _ _ _ _ (take-append-drop part.0 _) (part.1.1 _ [] start) in
    inr (Printed (lines g.S.Lines.line records), sent.0, refl, sent.1)

pub returns-in-Err-2-clause-never_falls : goal.returns-in-Err-2-clause-never_falls
returns-in-Err-2-clause-never_falls g c =
    let start = put_nothing _ c.requires.none c.requires.whole in
    let (records, are) = read_ok _ c.requires.are in
    ((c.in-Err-2.ensures.err records are).1.1 _ [] start).never_falls
