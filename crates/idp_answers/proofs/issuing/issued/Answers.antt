use Rattle.std.proofs.Common.{ℕ, List, Some, ap, ◌∙◌}
use Rattle.std.proofs.lemmas.Result.{IfOk-weaker}
use Rattle.element_make.specs.Made.{Made}
use Rattle.protocol_messages.specs.Making.{response, IsMadeAt}
use Rattle.idp_answers.specs.Answers.{signed_assertion}
use Rattle.idp_answers.proofs.Signable.{assertion_signable, response_signable}
use Rattle.idp_answers.proofs.issuing.issued.Goals as goal

pub signed_assertion-requires : goal.signed_assertion-requires
signed_assertion-requires c =
    assertion_signable c.args.login.now c.in_ok-assertion.assertion c.requires.login_named c.in_ok-assertion.ensures

pub signed_response-requires : goal.signed_response-requires
signed_response-requires c =
    let made = c.in_ok-response.ensures in
    response_signable c.args.mode c.args.key.now c.args.login.now c.in_ok-assertion.assertion c.in_ok-response.response c.in_ok-assertion.ensures
    c.args.message.now c.as_str.result.now c.args.consumer.now c.as_str-2.result.now made.instant c.requires.message_named
    (made.is
    ∙ ap (λ (held : Made). response c.args.message.now c.as_str.result.now c.args.consumer.now c.as_str-2.result.now (Some held) made.instant) c.in_ok-held.ensures)

pub returns : goal.returns
returns c =
    let login = c.args.login.now in
    let made = c.in_ok-response.ensures in
    let held = signed_assertion c.args.mode c.args.key.now c.in_ok-assertion.assertion in
    let answers : IsMadeAt c.args.now (response c.args.message.now login.issuer c.args.consumer.now login.request (Some held)) c.in_ok-response.response =
    record {
      instant = made.instant;
      told = made.told;
      is = made.is
          ∙ ap (λ (x : Made). response c.args.message.now c.as_str.result.now c.args.consumer.now c.as_str-2.result.now (Some x) made.instant) c.in_ok-held.ensures
          ∙ ap (λ (x : List ℕ). response c.args.message.now x c.args.consumer.now c.as_str-2.result.now (Some held) made.instant) c.as_str.ensures
          ∙ ap (λ (x : List ℕ). response c.args.message.now login.issuer c.args.consumer.now x (Some held) made.instant) c.as_str-2.ensures;
    } in
    IfOk-weaker c.signed_response.result _ _
    (λ sent e. record {
      assertion = c.in_ok-assertion.assertion;
      of_login = c.in_ok-assertion.ensures;
      unsigned = c.in_ok-response.response;
      answers = answers;
      is = e;
    })
    c.signed_response.ensures
