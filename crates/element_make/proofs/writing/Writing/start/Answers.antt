use Rattle.std.proofs.Common.{subst}
use Rattle.canon_octets.proofs.Appending.{on_err, all_part}
use Rattle.element_make.specs.Views.{attribute_views}
use Rattle.element_make.specs.Writing.{start_tag}
use Rattle.element_make.specs.declared.scope.Declared.{Declared}
use Rattle.element_make.proofs.writing.Writing.start.Goals as goal

pub returns-in_err-push-clause-err : goal.returns-in_err-push-clause-err
returns-in_err-push-clause-err g c =
    on_err c.from_residual-in_err-push.result
    (all_part g.met.O.Octets.composes c.args.out.now c.put_start.new.out _
    (subst (λ (d : Declared). g.O.Octets.appends c.args.out.now c.put_start.new.out
    (start_tag d c.args.tag.now.ns c.args.tag.now.local.now (attribute_views c.args.tag.now.attributes.items)))
    c.declared-outside.ensures c.in_ok-put_start.ensures.ok))
