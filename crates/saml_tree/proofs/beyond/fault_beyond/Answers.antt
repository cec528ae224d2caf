use Rattle.std.proofs.Common.{sym, ◌∙◌}
use Rattle.saml_tree.specs.Views.{outline_view}
use Rattle.saml_tree.proofs.ReadingOn.{unfinished}
use Rattle.saml_tree.proofs.beyond.fault_beyond.Goals as goal

pub returns-in-Ok : goal.returns-in-Ok
returns-in-Ok c =
    let o = outline_view c.args.begun in
    unfinished o c.args.rest.now (outline_view c.in-Ok.last) c.in-Ok.ensures.ok (sym c.is_complete.ensures ∙ c.if-is_complete.false)
