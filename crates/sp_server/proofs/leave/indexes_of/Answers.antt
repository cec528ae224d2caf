use Rattle.std.proofs.Common.{sym, subst}
use Rattle.std.specs.List.{AllByRecursion}
use Rattle.std.proofs.lemmas.Result.{IfOk-weaker}
use Rattle.xml_spec.specs.Characters.{IsText}
use Rattle.sp_server.proofs.Live.{text_of}
use Rattle.sp_server.proofs.leave.indexes_of.Goals as goal

pub returns-in-Some-clause-texts : goal.returns-in-Some-clause-texts
returns-in-Some-clause-texts c =
    IfOk-weaker c.one_text.result _ _
    (λ texts e. subst (AllByRecursion IsText) (sym e) (
      text_of c.as_str.result.now
          (rw c.as_str.ensures (c.requires _ c.in-Some.is)),
      tt,
    ))
    c.one_text.ensures
