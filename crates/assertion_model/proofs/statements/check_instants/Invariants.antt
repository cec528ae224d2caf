use Rattle.std.proofs.Common.{◌≡◌, ℕ, List, codes, length, Option}
use Rattle.std.specs.Option.{option_and_then}
use Rattle.assertion_model.specs.Contents.{Part, value, each}
use Rattle.assertion_model.specs.Instants.{moment_of}
use Rattle.assertion_model.specs.Login.{children}
use Rattle.assertion_model.specs.Parts.{part_of, left_of}
use Rattle.assertion_model.proofs.EachLemmas.{behind}
use Rattle.assertion_model.proofs.statements.check_instants.Given as goal

abbrev instant : Part → Option ℕ
instant s = option_and_then moment_of (value (codes "AuthnInstant") s.attributes)

abbrev pub invariant-loop-statement : goal.invariant-loop-statement
invariant-loop-statement l =
    (done : List ℕ) × (behind done (each instant (left_of (codes "AuthnStatement") l.left)) ≡ each instant (children (codes "AuthnStatement") (part_of l.at).kids))

abbrev pub decreases-loop-statement : goal.decreases-loop-statement
decreases-loop-statement l = length (left_of (codes "AuthnStatement") l.left)
