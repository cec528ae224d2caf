use Rattle.std.proofs.Common.{◌≡◌, Some, None, inr, ap}
use Rattle.saml_tree.specs.Outlines.{next_outline}
use Rattle.saml_tree.specs.Views.{outline_view}
use Rattle.saml_tree.proofs.Results.{on_ok_map, if_err_map}
use Rattle.saml_tree.proofs.Showing.{is_empty_tag, of_empty}
use Rattle.saml_tree.proofs.outline.Outline.take.Goals as goal

pub returns-in-Empty-clause-ok : goal.returns-in-Empty-clause-ok
returns-in-Empty-clause-ok c =
    on_ok_map c.take_empty.result _ _
    (λ added. of_empty (λ token. next_outline (outline_view c.args.self.now) token ≡ Some (outline_view c.take_empty.new.self))
    c.args.markup.now (ap is_empty_tag c.in-Empty.is) added)
    c.take_empty.ensures.ok

pub returns-in-Empty-clause-err : goal.returns-in-Empty-clause-err
returns-in-Empty-clause-err c =
    if_err_map c.take_empty.result _ _
    (λ e refused. inr (
      refused.0,
      of_empty (λ token. next_outline (outline_view c.args.self.now) token ≡ None) c.args.markup.now (ap is_empty_tag c.in-Empty.is) refused.1,
    ))
    c.take_empty.ensures.err
