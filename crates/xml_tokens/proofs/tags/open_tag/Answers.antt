use Rattle.std.proofs.Common.{[], ◌∷◌, inr, refl, sym, ◌∙◌, subst}
use Rattle.std.proofs.lemmas.Result.{err_from_is_err_and}
use Rattle.xml_spec.specs.Syntax.{StartTag}
use Rattle.xml_tokens.proofs.Adding.{none_added, not_grown}
use Rattle.xml_tokens.specs.Lexing.{NoToken, IsFaultFor}
use Rattle.xml_tokens.proofs.TagReadings.{unnamed_no_tag, tag_from, none_at_close}
use Rattle.xml_tokens.proofs.TokenReadings.{untagged_no_token, start_begins}
use Rattle.xml_tokens.proofs.tags.open_tag.Goals as goal

pub returns-in_default-clause-refused : goal.returns-in_default-clause-refused
returns-in_default-clause-refused c =
    inr (refl, untagged_no_token c.args.rest.now c.requires.begins (unnamed_no_tag c.args.rest.now c.in_default.ensures))

pub returns-in-Some-strip_byte-clause-reading : goal.returns-in-Some-strip_byte-clause-reading
returns-in-Some-strip_byte-clause-reading c =
    let given = c.in-Some.given.now in
    let behind = c.in-Some-strip_byte.behind.now in
    let closes = c.in-Some-strip_byte.ensures in
    let at = tag_from c.args.rest.now c.in-Some.name.now given [] given c.in-Some.ensures (none_at_close given behind closes) in (
      StartTag at.tag,
      (c.new-name.ensures ∙ at.named, none_added c.args.attributes.now.items ∙ at.mean),
      start_begins c.args.rest.now c.in-Some.name.now [] given behind at closes,
    )

pub returns-in_err-token-clause-refused : goal.returns-in_err-token-clause-refused
returns-in_err-token-clause-refused c =
    let p = err_from_is_err_and c.from_residual.result c.from_residual.ensures.1 in
    rw (p.1, p.2) (subst (λ bytes. IsFaultFor (NoToken (60 ∷ bytes)) c.in_err-token.field-0.0) (sym c.in-Some.ensures.split) c.in_err-token.ensures.refused)

pub returns-in_default-clause-grows : goal.returns-in_default-clause-grows
returns-in_default-clause-grows c = not_grown c.args.attributes.now.items

pub returns-in-Some-strip_byte-clause-grows : goal.returns-in-Some-strip_byte-clause-grows
returns-in-Some-strip_byte-clause-grows c = not_grown c.args.attributes.now.items
