use Rattle.std.proofs.Common.{sym, subst}
use Rattle.saml_commands.specs.declared.limits.TheConstants.{GREATEST_BODY}
use Rattle.saml_commands.specs.Answers.{Answer}
use Rattle.saml_commands.specs.Check.{rows_of, OfJudged}
use Rattle.saml_commands.specs.Reading.{OfFile}
use Rattle.saml_commands.proofs.Answering.{unread_bad}
use Rattle.saml_commands.proofs.top_call.answer_form.Goals as goal

pub returns-in_ok-bad_file-in-None-clause-ok : goal.returns-in_ok-bad_file-in-None-clause-ok
returns-in_ok-bad_file-in-None-clause-ok g c =
    let told = g.F.Files.holds c.args.files.now in
    let setup = c.args.setup in
    let meaning = OfJudged (rows_of setup.asked.items setup.opened.items) setup.config c.args.now in
    subst (λ (answer : Answer). OfFile meaning told c.args.body.now GREATEST_BODY answer) (sym c.in_ok-bad_file-in-None.ensures)
    (unread_bad meaning told c.args.body.now GREATEST_BODY (rw c.in-None.is at c.in_ok-bytes.ensures.ok))
