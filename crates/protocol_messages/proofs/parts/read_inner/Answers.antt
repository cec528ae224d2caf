use Rattle.std.proofs.Common.{sym, ap, ◌∙◌}
use Rattle.std.proofs.lemmas.Result.{err_from_is_err_and}
use Rattle.tree_read.specs.Children.{children}
use Rattle.protocol_messages.specs.Messages.{at_most_one}
use Rattle.protocol_messages.proofs.Statuses.{several}
use Rattle.protocol_messages.proofs.parts.read_inner.Goals as goal

pub returns-in_err-inner-clause-other : goal.returns-in_err-inner-clause-other
returns-in_err-inner-clause-other c =
    let p = err_from_is_err_and c.from_residual.result c.from_residual.ensures.1 in
    rw (p.1, p.2) (ap (λ n. at_most_one (children c.args.code.doc.now.tree c.args.code.node.0 n)) (sym c.samlp.ensures) ∙ several _ c.in_err-inner.ensures.several)
