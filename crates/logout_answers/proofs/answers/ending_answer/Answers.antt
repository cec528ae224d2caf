use Rattle.std.proofs.Common.{◌≡◌, ℕ, List, Bor, ap, ◌∙◌}
use Rattle.std.specs.Prelude.{Option, None}
use Rattle.std.specs.Option.{option_map}
use Rattle.std.proofs.lemmas.Result.{IfOk-weaker}
use Rattle.post_binding.specs.Pages.{auto_form}
use Rattle.post_binding.specs.declared.posted.Field.TheVariants.{Response}
use Rattle.http_wire.specs.Answers.{answer}
use Rattle.logout_answers.specs.Answers.{BySending}
use Rattle.logout_answers.proofs.Addresses.{same_address}
use Rattle.logout_answers.proofs.answers.ending_answer.Goals as goal

pub returns : goal.returns
returns c =
    let response = c.in_ok-message.ensures in
    let relay : Option (List ℕ) = option_map {T = Bor (List ℕ)} {U = List ℕ} (λ text. text.now) c.args.relay in
    let address : c.as_str.result.now ≡ response.address =
    c.as_str.ensures ∙ same_address c.args.peer.now.peer.logout _ response.address c.in-Some.is response.given in
    IfOk-weaker c.form_answer.result _ _
    (λ bytes e. BySending (record {
      message = c.in_ok-message.message;
      response = response;
      is = e ∙ ap (λ (to : List ℕ). answer 200 None None (auto_form to Response c.as_slice.result.now relay)) address
          ∙ ap (λ (m : List ℕ). answer 200 None None (auto_form response.address Response m relay)) c.as_slice.ensures;
    }))
    c.form_answer.ensures
