use Rattle.std.proofs.Common.{ap, ◌∙◌}
use Rattle.request_rows.specs.Rows.{RowsView}
use Rattle.saml_commands.specs.Check.{rows_of, OfJudged}
use Rattle.saml_commands.proofs.Answering.{if_ok_map}
use Rattle.saml_commands.proofs.Checking.{judged_too}
use Rattle.saml_commands.proofs.check.check.Goals as goal

pub returns : goal.returns
returns c =
    let setup = c.args.setup in
    let found = c.rows.result.now in
    let rows = rows_of setup.asked.items setup.opened.items in
    if_ok_map c.verdict_on.result (λ answer. OfJudged found setup.config c.args.now c.args.body.now answer)
    (λ answer. OfJudged rows setup.config c.args.now c.args.body.now answer)
    (λ answer h. judged_too setup.config found rows c.args.now c.args.body.now answer
    (ap (λ (v : RowsView). v.asked) c.rows.ensures ∙ c.in_ok-kept.ensures.asked)
    (ap (λ (v : RowsView). v.opened) c.rows.ensures ∙ c.in_ok-kept.ensures.opened) h)
    c.verdict_on.ensures
