use Rattle.std.proofs.Common.{ℕ, [], ◌∷◌, ◌++◌, Option}
use Rattle.std.specs.Option.{option_and_then}
use Rattle.std.specs.Prelude.{codes}
use Rattle.assertion_model.specs.Contents.{Part, value}
use Rattle.assertion_model.specs.Instants.{moment_of}
use Rattle.assertion_model.proofs.EachLemmas.{each_more}
use Rattle.assertion_model.proofs.statements.check_instants.Goals as goal

abbrev instant : Part → Option ℕ
instant s = option_and_then moment_of (value (codes "AuthnInstant") s.attributes)

pub loop-statement-preserved : goal.loop-statement-preserved
loop-statement-preserved c =
    let done = c.loop-statement.invariant in (
      done.0 ++ c.in_ok-moment_at.field-0 ∷ [],
      each_more instant _ done.0 _ _ _ c.in_ok-moment_at.field-0 done.1 c.in-Some.ensures c.in_ok-moment_at.ensures.read,
    )
