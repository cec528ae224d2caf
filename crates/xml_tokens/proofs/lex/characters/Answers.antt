use Rattle.std.proofs.Common.{◌≡◌, true, codes, sym, ◌∙◌}
use Rattle.xml_spec.specs.Bytes.{has}
use Rattle.xml_tokens.proofs.AttributeReadings.{is_short}
use Rattle.xml_tokens.proofs.TokenReadings.{empty_no_characters, closed_no_characters}
use Rattle.xml_tokens.proofs.lex.characters.Goals as goal
use Rattle.xml_tokens.proofs.lex.characters.Goals.{then-is_empty-via-then-is_empty, then-is_empty-via-else-is_empty+then-has_mark}

pub returns-then-is_empty : goal.returns-then-is_empty
returns-then-is_empty c =
    let text = c.split_run.result.0.now in
    let behind = c.split_run.result.1.now in
    elim c.then-is_empty.branch [
      | then-is_empty-via-then-is_empty w ↦ empty_no_characters c.args.rest.now text behind c.split_run.ensures.split c.split_run.ensures.passes
          c.split_run.ensures.stops (is_short text c.is_empty.result c.is_empty.ensures w.if-is_empty.true)
      | then-is_empty-via-else-is_empty+then-has_mark w ↦ (let closed : has (codes "]]>") text ≡ true = sym w.has_mark.ensures ∙ w.if-has_mark.true in
          closed_no_characters c.args.rest.now text behind c.split_run.ensures.split c.split_run.ensures.passes c.split_run.ensures.stops closed)
    ]
