use Rattle.std.proofs.Common.{subst}
use Rattle.saml_commands.specs.declared.limits.TheConstants.{GREATEST_BODY}
use Rattle.saml_commands.specs.Check.{rows_of, OfJudged}
use Rattle.saml_commands.specs.Reading.{OfFile}
use Rattle.saml_commands.specs.Running.{Check, OfCommand}
use Rattle.saml_commands.specs.Serving.{Unserved}
use Rattle.saml_commands.proofs.Answering.{if_ok_map}
use Rattle.saml_commands.proofs.Checking.{by_set_up, by_bad}
use Rattle.saml_commands.proofs.top_call.answer_check.Goals as goal

pub returns-in-Ok-clause-ok : goal.returns-in-Ok-clause-ok
returns-in-Ok-clause-ok g c =
    let told = g.F.Files.holds c.args.files.now in
    let setup = c.in-Ok.setup in
    let now = c.args.now in
    let body = c.args.body.now in
    let meaning = OfJudged (rows_of setup.asked.items setup.opened.items) setup.config now in
    if_ok_map c.answer_form.result (λ answer. OfFile meaning (g.F.Files.holds c.set_up.new.files) body GREATEST_BODY answer)
    (λ answer. OfCommand told Unserved (Check c.args.config.now body now) answer)
    (λ answer h. by_set_up told c.args.config.now body setup now answer c.in-Ok.ensures.ok
    (subst (λ holds. OfFile meaning holds body GREATEST_BODY answer) c.in-Ok.ensures.same h))
    c.answer_form.ensures.ok

pub returns-in-Err-BadFile-clause-ok : goal.returns-in-Err-BadFile-clause-ok
returns-in-Err-BadFile-clause-ok g c =
    rw c.in-Err-BadFile.field-0-is (by_bad (g.F.Files.holds c.args.files.now) c.args.config.now c.args.body.now c.args.now c.in-Err-BadFile.file c.in-Err-BadFile.line
    (rw c.in-Err-BadFile.field-0-is at c.in-Err-BadFile.ensures.err))
