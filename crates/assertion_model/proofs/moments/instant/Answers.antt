use Rattle.std.proofs.Common.{sym, ◌∙◌, subst}
use Rattle.std.proofs.lemmas.Result.{IfOk-weaker}
use Rattle.xml_spec.specs.Characters.{IsText}
use Rattle.assertion_model.proofs.Writable.{graphic_text, graphic_utf8}
use Rattle.assertion_model.proofs.moments.instant.Goals as goal

pub unreachable-requires : goal.unreachable-requires
unreachable-requires c = c.in-Err.ensures.cases.0 (graphic_utf8 _ c.put_instant.ensures.printable)

pub returns-clause-text : goal.returns-clause-text
returns-clause-text c =
    IfOk-weaker c.of.result _ _ (λ text e. subst IsText (sym (e ∙ c.in-Ok.ensures.cases.0)) (graphic_text _ c.put_instant.ensures.printable))
    c.of.ensures
