use Rattle.std.proofs.Common.{◌∷◌, refl, sym, ◌∙◌, ap, subst}
use Rattle.xml_tokens.specs.Markup.{NoTokens}
use Rattle.xml_tokens.specs.Lexing.{NoToken}
use Rattle.xml_tokens.proofs.Faults.{fault_in}
use Rattle.xml_tokens.proofs.TokenReadings.{no_token_no_tokens, refused_by}
use Rattle.xml_tokens.proofs.lex.next_token.Goals as goal

pub returns-in_default-clause-refused : goal.returns-in_default-clause-refused
returns-in_default-clause-refused c =
    refused_by c.text_token.result c.ok_or.result c.args.rest.now c.args.rest.now c.requires.some refl c.text_token.ensures c.ok_or.ensures.value

pub returns-in-Some-strip_byte-clause-refused : goal.returns-in-Some-strip_byte-clause-refused
returns-in-Some-strip_byte-clause-refused c =
    refused_by c.end_token.result c.ok_or-in-Some-strip_byte.result (60 ∷ 47 ∷ c.in-Some-strip_byte.ended.now) c.args.rest.now c.requires.some
    (c.in-Some.ensures ∙ ap (λ z. 60 ∷ z) c.in-Some-strip_byte.ensures) c.end_token.ensures c.ok_or-in-Some-strip_byte.ensures.value

pub returns-in-Some-strip_byte-2-clause-refused :
    goal.returns-in-Some-strip_byte-2-clause-refused
returns-in-Some-strip_byte-2-clause-refused c =
    refused_by c.instruction_token.result c.ok_or-in-Some-strip_byte-2.result (60 ∷ 63 ∷ c.in-Some-strip_byte-2.inner.now) c.args.rest.now c.requires.some
    (c.in-Some.ensures ∙ ap (λ z. 60 ∷ z) c.in-Some-strip_byte-2.ensures) c.instruction_token.ensures c.ok_or-in-Some-strip_byte-2.ensures.value

pub returns-in-Some-strip_byte-3-clause-refused :
    goal.returns-in-Some-strip_byte-3-clause-refused
returns-in-Some-strip_byte-3-clause-refused c =
    refused_by c.section_or_comment.result c.ok_or-in-Some-strip_byte-3.result (60 ∷ 33 ∷ c.in-Some-strip_byte-3.inner.now) c.args.rest.now c.requires.some
    (c.in-Some.ensures ∙ ap (λ z. 60 ∷ z) c.in-Some-strip_byte-3.ensures) c.section_or_comment.ensures c.ok_or-in-Some-strip_byte-3.ensures.value

pub returns-clause-refused : goal.returns-clause-refused
returns-clause-refused c =
    fault_in c.open_tag.result (NoToken (60 ∷ c.in-Some.tag.now)) (NoTokens c.args.rest.now)
    (λ (none : NoToken (60 ∷ c.in-Some.tag.now)). no_token_no_tokens c.args.rest.now c.requires.some (subst NoToken (sym c.in-Some.ensures) none))
    c.open_tag.ensures.refused
