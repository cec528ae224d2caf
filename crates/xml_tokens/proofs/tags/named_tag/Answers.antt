use Rattle.std.proofs.Common.{◌∷◌, ◌++◌, ◌∙◌, inr, refl}
use Rattle.std.proofs.lemmas.Result.{err_from_is_err_and}
use Rattle.xml_spec.specs.Syntax.{EmptyTag, Alone, StartTag}
use Rattle.xml_tokens.specs.Views.{added}
use Rattle.xml_tokens.specs.Lexing.{NoAttributes, NoToken}
use Rattle.xml_tokens.proofs.Faults.{fault_for}
use Rattle.xml_tokens.proofs.TagReadings.{unread_no_tag, tag_from}
use Rattle.xml_tokens.proofs.TokenReadings.{untagged_no_token, unclosed_no_token, start_begins, empty_begins}
use Rattle.xml_tokens.proofs.tags.named_tag.Goals as goal

pub returns-in_err-close-clause-refused : goal.returns-in_err-close-clause-refused
returns-in_err-close-clause-refused c =
    let p = err_from_is_err_and c.from_residual.result c.from_residual.ensures.1 in
    let rest = c.args.name.now ++ c.args.given.now in
    rw (p.1, p.2) (fault_for (NoAttributes c.args.given.now) (NoToken (60 ∷ rest)) c.in_err-close.field-0.0
    (λ none. untagged_no_token rest c.requires.begins (unread_no_tag rest c.args.name.now c.args.given.now c.requires.named none))
    c.in_err-close.ensures.refused)

pub returns-in-Some-clause-reading : goal.returns-in-Some-clause-reading
returns-in-Some-clause-reading c =
    let rest = c.args.name.now ++ c.args.given.now in
    let attributes = added c.args.list.now.items c.attributes.new.attributes.items in
    let at = tag_from rest c.args.name.now c.args.given.now attributes c.in_ok-close.close.now c.requires.named c.in_ok-close.ensures.reading in (
      StartTag at.tag,
      (c.new-name.ensures ∙ at.named, at.mean),
      start_begins rest c.args.name.now attributes c.in_ok-close.close.now c.in-Some.behind.now at c.in-Some.ensures,
    )

pub returns-in-Some-strip_empty_close-clause-reading :
    goal.returns-in-Some-strip_empty_close-clause-reading
returns-in-Some-strip_empty_close-clause-reading c =
    let rest = c.args.name.now ++ c.args.given.now in
    let attributes = added c.args.list.now.items c.attributes.new.attributes.items in
    let at = tag_from rest c.args.name.now c.args.given.now attributes c.in_ok-close.close.now c.requires.named c.in_ok-close.ensures.reading in (
      Alone (EmptyTag at.tag),
      (c.new-name.ensures ∙ at.named, at.mean),
      empty_begins rest c.args.name.now attributes c.in_ok-close.close.now
          c.in-Some-strip_empty_close.behind.now at c.in-Some-strip_empty_close.ensures,
    )

pub returns-in-None-clause-refused : goal.returns-in-None-clause-refused
returns-in-None-clause-refused c =
    let rest = c.args.name.now ++ c.args.given.now in
    let attributes = added c.args.list.now.items c.attributes.new.attributes.items in
    inr (
      refl,
      unclosed_no_token rest c.args.name.now attributes c.in_ok-close.close.now
          c.requires.begins (tag_from rest c.args.name.now c.args.given.now attributes c.in_ok-close.close.now c.requires.named c.in_ok-close.ensures.reading)
          c.in_default.ensures c.in-None.ensures,
    )
