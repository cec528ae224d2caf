use Rattle.std.proofs.Common.{◌≡◌, true, false, rules}
use Rattle.xml_tokens.proofs.Decoding.{references_behind, references_next, kept_compared, next_compared, kept_differs, next_differs, all_compared, next_is_shorter}
use Rattle.xml_tokens.proofs.value.is_value.Goals as goal

pub returns-in_default : goal.returns-in_default
returns-in_default c = (
  λ h. absurd (let clash : false ≡ true = h in cc),
  λ same. absurd (kept_differs c.args.written.now c.parts.rest.now c.args.text.now c.parts.left.now c.split_run.result.0.now c.split_run.result.1.now
      c.parts.invariant.compared c.split_run.ensures.split c.split_run.ensures.passes c.in_default.ensures same),
)

pub next_character-requires-clause-references : goal.next_character-requires-clause-references
next_character-requires-clause-references c =
    references_behind c.parts.rest.now c.split_run.result.0.now c.split_run.result.1.now c.parts.invariant.references c.split_run.ensures.split

pub returns-in_default-next_character : goal.returns-in_default-next_character
returns-in_default-next_character c =
    all_compared c.args.written.now c.split_run.result.1.now c.args.text.now c.in-Some.more.now c.is_empty.result
    (kept_compared c.args.written.now c.parts.rest.now c.args.text.now c.parts.left.now c.split_run.result.0.now c.split_run.result.1.now
    c.in-Some.more.now c.parts.invariant.compared c.split_run.ensures.split c.split_run.ensures.passes c.in-Some.ensures)
    c.in_default-next_character.ensures c.is_empty.ensures

pub returns-in_default-strip_character : goal.returns-in_default-strip_character
returns-in_default-strip_character c = (
  λ h. absurd (let clash : false ≡ true = h in cc),
  λ same. absurd (next_differs c.args.written.now c.args.text.now c.split_run.result.1.now c.in-Some.more.now c.in-Some-next_character.character
      c.in-Some-next_character.behind.now
      (kept_compared c.args.written.now c.parts.rest.now c.args.text.now c.parts.left.now c.split_run.result.0.now c.split_run.result.1.now
      c.in-Some.more.now c.parts.invariant.compared c.split_run.ensures.split c.split_run.ensures.passes c.in-Some.ensures)
      c.in-Some-next_character.ensures c.in_default-strip_character.ensures same),
)

pub parts-preserved : goal.parts-preserved
parts-preserved c = record {
  utf8 = search rules;
  left_utf8 = search rules;
  references =
      references_next c.parts.rest.now c.split_run.result.0.now c.split_run.result.1.now c.in-Some-next_character.character
      c.in-Some-next_character.behind.now c.parts.invariant.references c.split_run.ensures.split c.in-Some-next_character.ensures;
  compared =
      next_compared c.args.written.now c.args.text.now c.split_run.result.1.now c.in-Some.more.now c.in-Some-next_character.character
      c.in-Some-next_character.behind.now c.in-Some-strip_character.last.now
      (kept_compared c.args.written.now c.parts.rest.now c.args.text.now c.parts.left.now c.split_run.result.0.now c.split_run.result.1.now
      c.in-Some.more.now c.parts.invariant.compared c.split_run.ensures.split c.split_run.ensures.passes c.in-Some.ensures)
      c.in-Some-next_character.ensures c.in-Some-strip_character.ensures;
}

pub parts-smaller : goal.parts-smaller
parts-smaller c =
    next_is_shorter c.parts.rest.now c.split_run.result.0.now c.split_run.result.1.now c.in-Some-next_character.character
    c.in-Some-next_character.behind.now c.split_run.ensures.split c.in-Some-next_character.ensures
