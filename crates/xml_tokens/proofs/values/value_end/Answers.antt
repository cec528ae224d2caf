use Rattle.std.proofs.Common.{inr, refl, rules}
use Rattle.xml_tokens.proofs.ValueReadings.{no_pieces, one_more_part, value_ends}
use Rattle.xml_tokens.proofs.values.value_end.Goals as goal

pub returns-in-Some-clause-reading : goal.returns-in-Some-clause-reading
returns-in-Some-clause-reading c =
    value_ends c.args.quote c.args.inner.now c.value.rest.now c.split_run.result.0.now c.split_run.result.1.now c.in-Some.behind.now
    c.value.invariant.1 c.split_run.ensures.split c.split_run.ensures.passes c.in-Some.ensures

pub returns-in_default-reference-clause-refused : goal.returns-in_default-reference-clause-refused
returns-in_default-reference-clause-refused c =
    inr (
      refl,
      c.value.invariant.1.refuses (no_pieces c.args.quote c.value.rest.now c.split_run.result.0.now c.split_run.result.1.now c.requires.quote
          c.split_run.ensures.split c.split_run.ensures.passes c.split_run.ensures.stops c.in_default.ensures c.in_default-reference.ensures),
    )

pub value-preserved : goal.value-preserved
value-preserved c = (
  search rules,
  one_more_part c.args.quote c.args.inner.now c.value.rest.now c.split_run.result.0.now c.split_run.result.1.now c.in-Some-reference._character
      c.in-Some-reference.behind.now c.requires.quote c.value.invariant.1
      c.split_run.ensures.split c.split_run.ensures.passes c.split_run.ensures.stops c.in-Some-reference.ensures,
)
