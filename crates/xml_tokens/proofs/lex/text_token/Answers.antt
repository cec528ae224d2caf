use Rattle.std.proofs.Common.{refl, sym}
use Rattle.xml_spec.specs.Syntax.{Characters, Refers, Alone}
use Rattle.xml_tokens.proofs.TokenReadings.{characters_begin, reference_begins_with}
use Rattle.xml_tokens.proofs.lex.text_token.Goals as goal

pub returns-in-Some : goal.returns-in-Some
returns-in-Some c =
    let at = c.in-Some.ensures in (
      Alone (Refers at.reference),
      λ attributes. sym at.meant,
      reference_begins_with c.args.rest.now c.in-Some.character c.in-Some.behind.now at,
    )

pub returns : goal.returns
returns c = (
  Alone (Characters c.in_ok-text.text.now),
  λ attributes. refl,
  characters_begin c.args.rest.now c.in_ok-text.text.now c.in_ok-text.behind.now c.in_ok-text.ensures,
)
