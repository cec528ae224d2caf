use Rattle.std.proofs.Common.{sym, Some, subst, Option, ℕ, List, IsTrue}
use Rattle.std.specs.Prelude.{◌≡◌, ◌↔◌}
use Rattle.assertion_model.specs.Parts.{part_of}
use Rattle.assertion_model.proofs.ValueLemmas.{value_at}
use Rattle.assertion_model.proofs.LookLemmas.{same_answer, value_equals}
use Rattle.assertion_model.proofs.look.has_value.Goals as goal

pub returns : goal.returns
returns c =
    same_answer c.attr_equals.result _ _
    (subst (λ (o : Option (List ℕ)). IsTrue c.attr_equals.result ↔ (o ≡ Some c.args.wanted.now))
    (sym (value_at c.args.local.now c.args.at.doc.now.tree c.args.at.node.0 c.root.ensures.spelled.names c.args.at.element)) c.attr_equals.ensures)
    (value_equals c.args.local.now c.args.wanted.now (part_of c.args.at))
