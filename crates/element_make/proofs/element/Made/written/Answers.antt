use Rattle.std.proofs.Common.{◌++◌, ap, ◌∙◌}
use Rattle.std.proofs.lemmas.Result.{IfOk-weaker}
use Rattle.element_make.specs.Made.{written}
use Rattle.element_make.proofs.element.Made.written.Goals as goal

pub returns-clause-bytes : goal.returns-clause-bytes
returns-clause-bytes c =
    IfOk-weaker c.of.result _ _ (λ bytes e. e ∙ c.as_slice.ensures.value ∙ c.in_ok-put.ensures.ok ∙ ap (λ xs. xs ++ written c.args.self.now) c.new-out.ensures.items) c.of.ensures
