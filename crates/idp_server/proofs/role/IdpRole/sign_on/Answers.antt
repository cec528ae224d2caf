use Rattle.std.specs.Prelude.{None}
use Rattle.std.proofs.Common.{refl}
use Rattle.http_wire.specs.Views.{request_view}
use Rattle.http_wire.specs.declared.answer.Answer.TheVariants.{Fixed}
use Rattle.verdict_codes.specs.Codes.{number_of}
use Rattle.verdict_codes.specs.declared.codes.Verdict.{Verdict}
use Rattle.idp_rules.specs.Config.{sign_on}
use Rattle.idp_rules.specs.Verdict.{IsRefused}
use Rattle.idp_server.specs.Step.{Answers, ByVerdict}
use Rattle.provider_node.proofs.Judged.{judged_for}
use Rattle.idp_server.proofs.role.IdpRole.sign_on.Goals as goal

pub returns-in-Err-clause-refused : goal.returns-in-Err-clause-refused
returns-in-Err-clause-refused c =
    let old = c.args.self.now in
    let request = request_view c.args.request.now in
    judged_for (IsRefused old.peers (sign_on old) request.body)
    (λ (verdict : Verdict). Answers old c.args.ledger.now.held request c.args.now (Fixed (number_of verdict)) None)
    c.in-Err.judged
    (λ verdict is. ByVerdict verdict c.requires.route is refl refl) c.in-Err.ensures.refused
