use Rattle.std.proofs.Common.{◌≡◌, ℕ, List, Bor, ap, ◌∙◌}
use Rattle.std.specs.Prelude.{None}
use Rattle.std.specs.Option.{option_map}
use Rattle.std.proofs.lemmas.Result.{IfOk-weaker}
use Rattle.http_wire.specs.Answers.{answer}
use Rattle.idp_answers.specs.Answers.{response_form, session_cookie}
use Rattle.idp_answers.proofs.issuing.issued_answer.Goals as goal

pub returns : goal.returns
returns c =
    let page : c.as_slice.result.now
    ≡ response_form c.in_ok-sent.sent c.args.consumer.now (option_map {T = Bor (List ℕ)} {U = List ℕ} (λ text. text.now) c.args.relay) =
    c.as_slice.ensures ∙ c.in_ok-page.ensures.page in
    IfOk-weaker c.page_answer.result _ _
    (λ bytes e. record {
      sent = c.in_ok-sent.sent;
      issued = c.in_ok-sent.ensures;
      well_made = c.response_form.ensures.made;
      is = e ∙ ap (answer 200 None (option_map session_cookie (option_map {T = Bor (List ℕ)} {U = List ℕ} (λ text. text.now) c.args.cookie))) page;
    })
    c.page_answer.ensures
