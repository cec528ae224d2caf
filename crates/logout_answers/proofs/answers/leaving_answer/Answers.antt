use Rattle.std.proofs.Common.{◌≡◌, ℕ, List, ap, ◌∙◌}
use Rattle.std.specs.Prelude.{None}
use Rattle.std.proofs.lemmas.Result.{IfOk-weaker}
use Rattle.post_binding.specs.Pages.{auto_form}
use Rattle.post_binding.specs.declared.posted.Field.TheVariants.{Request}
use Rattle.http_wire.specs.Answers.{answer}
use Rattle.logout_answers.specs.Answers.{BySending}
use Rattle.logout_answers.proofs.Addresses.{same_address}
use Rattle.logout_answers.proofs.answers.leaving_answer.Goals as goal

pub returns : goal.returns
returns c =
    let request = c.in_ok-message.ensures in
    let address : c.as_str.result.now ≡ request.address =
    c.as_str.ensures ∙ same_address c.args.peer.now.peer.logout _ request.address c.in-Some.is request.given in
    IfOk-weaker c.form_answer.result _ _
    (λ bytes e. BySending (record {
      message = c.in_ok-message.message;
      request = request;
      is = e ∙ ap (λ (to : List ℕ). answer 200 None None (auto_form to Request c.as_slice.result.now None)) address
          ∙ ap (λ (m : List ℕ). answer 200 None None (auto_form request.address Request m None)) c.as_slice.ensures;
    }))
    c.form_answer.ensures
