use Rattle.std.proofs.Common.{[], None, refl, ap, ◌∙◌, inr}
use Rattle.std.proofs.lemmas.List.{append-nil, take-append-drop}
use Rattle.xml_spec.specs.Canonical.{canonical}
use Rattle.saml_commands.specs.Answers.{Printed}
use Rattle.saml_commands.proofs.Passed.{put_nothing, put_all, put_first, same_then}
use Rattle.saml_commands.proofs.canon.put_whole.Goals as goal

pub returns-in-Ok-flush-clause-ends : goal.returns-in-Ok-flush-clause-ends
returns-in-Ok-flush-clause-ends g c =
    let start = put_nothing _ c.requires.none c.requires.whole in
    let put = c.flush.ensures.appends _ _ (c.in-Ok.ensures.ok.1 _ [] start) in (
      Printed (canonical c.args.doc.now.tree c.args.node.0 None []),
      refl,
      refl,
      put_all _ _ _ put c.in-Ok-flush.ensures.ok.0 c.in-Ok-flush.ensures.ok.1
          ∙ same_then _ _ _ (append-nil _ ∙ ap (canonical c.args.doc.now.tree c.args.node.0 None) c.new-none.ensures),
    )

pub returns-in-Ok-flush-clause-never_falls : goal.returns-in-Ok-flush-clause-never_falls
returns-in-Ok-flush-clause-never_falls g c =
    let start = put_nothing _ c.requires.none c.requires.whole in
    (c.flush.ensures.appends _ _ (c.in-Ok.ensures.ok.1 _ [] start)).never_falls

pub returns-in-Ok-clause-ends : goal.returns-in-Ok-clause-ends
returns-in-Ok-clause-ends g c =
    let start = put_nothing _ c.requires.none c.requires.whole in
    let put = c.flush.ensures.appends _ _ (c.in-Ok.ensures.ok.1 _ [] start) in
    let sent = put_first _ _ _ _ [] (append-nil _ ∙ append-nil _ ∙ ap (canonical c.args.doc.now.tree c.args.node.0 None) c.new-none.ensures) put in
    (Printed (canonical c.args.doc.now.tree c.args.node.0 None []), sent.0, refl, sent.1)

pub returns-in-Ok-clause-write_fault : goal.returns-in-Ok-clause-write_fault
returns-in-Ok-clause-write_fault g c =
    let start = put_nothing _ c.requires.none c.requires.whole in
    λ _. (c.flush.ensures.appends _ _ (c.in-Ok.ensures.ok.1 _ [] start)).rose c.in-Err-flush.ensures.err

pub returns-in-Ok-clause-never_falls : goal.returns-in-Ok-clause-never_falls
returns-in-Ok-clause-never_falls g c =
    let start = put_nothing _ c.requires.none c.requires.whole in
    (c.flush.ensures.appends _ _ (c.in-Ok.ensures.ok.1 _ [] start)).never_falls

pub returns-in-Err-clause-ends : goal.returns-in-Err-clause-ends
returns-in-Err-clause-ends g c =
    let start = put_nothing _ c.requires.none c.requires.whole in
    let part = c.in-Err.ensures.err in
    let sent =
    put_first _ _ _ _ _ (take-append-drop part.0 _ ∙ ap (canonical c.args.doc.now.tree c.args.node.0 None) c.new-none.ensures)
    (part.1.1 _ [] start) in
    (Printed (canonical c.args.doc.now.tree c.args.node.0 None []), sent.0, refl, sent.1)

pub returns-in-Err-clause-write_fault : goal.returns-in-Err-clause-write_fault
returns-in-Err-clause-write_fault g c =
    let start = put_nothing _ c.requires.none c.requires.whole in
    λ _. (c.in-Err.ensures.err.1.1 _ [] start).rose c.if-place.true

pub returns-in-Err-clause-never_falls : goal.returns-in-Err-clause-never_falls
returns-in-Err-clause-never_falls g c =
    let start = put_nothing _ c.requires.none c.requires.whole in
    (c.in-Err.ensures.err.1.1 _ [] start).never_falls

pub returns-clause-ends : goal.returns-clause-ends
returns-clause-ends g c =
    let start = put_nothing _ c.requires.none c.requires.whole in
    let part = c.in-Err-2.ensures.err in
    let sent =
    put_first _ _ _ _ _ (take-append-drop part.0 _ ∙ ap (canonical c.args.doc.now.tree c.args.node.0 None) c.new-none.ensures)
    (part.1.1 _ [] start) in
    inr (Printed (canonical c.args.doc.now.tree c.args.node.0 None []), sent.0, refl, sent.1)

pub returns-clause-never_falls : goal.returns-clause-never_falls
returns-clause-never_falls g c =
    let start = put_nothing _ c.requires.none c.requires.whole in
    (c.in-Err-2.ensures.err.1.1 _ [] start).never_falls
