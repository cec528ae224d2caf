use Rattle.std.proofs.Common.{◌≡◌, ℕ, List, codes, ap, sym, subst, ◌∙◌}
use Rattle.std.proofs.lemmas.Result.{IfOk-weaker}
use Rattle.xml_spec.specs.Characters.{IsText}
use Rattle.element_make.specs.Made.{written}
use Rattle.sig_reference.specs.Signing.{signed}
use Rattle.protocol_messages.specs.Making.{authn_request}
use Rattle.post_binding.specs.Pages.{auto_form}
use Rattle.post_binding.specs.declared.posted.Field.TheVariants.{Request}
use Rattle.http_wire.specs.Answers.{answer}
use Rattle.std.specs.Prelude.{None, Some}
use Rattle.metadata.proofs.Texts.{text_append}
use Rattle.sp_rules.specs.Meant.{consumer}
use Rattle.sp_answers.specs.Answers.{ask_message, ask_page}
use Rattle.sp_answers.proofs.Texts.{acs_text}
use Rattle.sp_answers.proofs.asking.ask_answer.Goals as goal

pub make_authn-requires-clause-consumer : goal.make_authn-requires-clause-consumer
make_authn-requires-clause-consumer c =
    subst IsText (sym (c.as_str-2.ensures ∙ c.in_ok-consumer.ensures)) (text_append c.args.config.now.base (codes "/acs") c.requires.config.base acs_text)

pub returns : goal.returns
returns c =
    let config = c.args.config.now in
    let m = c.in_ok-made.ensures in
    let service : c.as_str-service.result.now ≡ config.idp.service = c.as_str-service.ensures in
    let consumer_is : c.as_str-2.result.now ≡ consumer config = c.as_str-2.ensures ∙ c.in_ok-consumer.ensures in
    let issuer : c.as_str.result.now ≡ config.entity = c.as_str.ensures in
    let made : c.in_ok-made.made ≡ authn_request c.args.id.now config.entity config.idp.service (consumer config) m.instant =
    m.is ∙ ap (λ (x : List ℕ). authn_request c.args.id.now x c.as_str-service.result.now c.as_str-2.result.now m.instant) issuer
    ∙ ap (λ (x : List ℕ). authn_request c.args.id.now config.entity x c.as_str-2.result.now m.instant) service
    ∙ ap (λ (x : List ℕ). authn_request c.args.id.now config.entity config.idp.service x m.instant) consumer_is in
    let message : c.as_slice-2.result.now ≡ ask_message config m.instant c.args.id.now =
    c.as_slice-2.ensures ∙ c.in_ok-message.ensures.bytes
    ∙ ap written (c.in_ok-signed.ensures ∙ ap (λ (x : List ℕ). signed x c.in_ok-made.made) c.as_slice.ensures ∙ ap (signed config.key_out) made) in
    let page : c.as_slice-3.result.now ≡ ask_page config m.instant c.args.id.now c.args.relay.now =
    c.as_slice-3.ensures ∙ c.in_ok-page.ensures
    ∙ ap (λ (x : List ℕ). auto_form x Request c.as_slice-2.result.now (Some c.args.relay.now)) service
    ∙ ap (λ (x : List ℕ). auto_form config.idp.service Request x (Some c.args.relay.now)) message in
    IfOk-weaker c.full_answer.result _ _ (λ bytes e. record { instant = m.instant; told = m.told; is = e ∙ ap (answer 200 None None) page }) c.full_answer.ensures
