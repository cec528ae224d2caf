use Rattle.std.proofs.Common.{◌≡◌, codes, length}
use Rattle.std.specs.Prelude.{filter}
use Rattle.saml_names.specs.Uris.{bearer}
use Rattle.assertion_model.specs.Contents.{first}
use Rattle.assertion_model.specs.Login.{children, has_value}
use Rattle.assertion_model.specs.Parts.{part_of, left_of}
use Rattle.assertion_model.proofs.subject.bearer_confirmation.Given as goal

abbrev pub invariant-loop-confirmation : goal.invariant-loop-confirmation
invariant-loop-confirmation l =
    first (filter (has_value (codes "Method") bearer) (left_of (codes "SubjectConfirmation") l.left))
    ≡ first (filter (has_value (codes "Method") bearer) (children (codes "SubjectConfirmation") (part_of l.at).kids))

abbrev pub decreases-loop-confirmation : goal.decreases-loop-confirmation
decreases-loop-confirmation l = length (left_of (codes "SubjectConfirmation") l.left)
