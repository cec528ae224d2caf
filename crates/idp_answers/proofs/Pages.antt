-- There is an answer to each login that may be stated, and where the user may not be asked.
use Rattle.std.proofs.Common.{None, Some, refl}
use Rattle.std.specs.Option.{option_map}
use Rattle.http_wire.specs.Answers.{answer}
use Rattle.assertion_model.specs.Assertion.{assertion}
use Rattle.protocol_messages.specs.Making.{response}
use Rattle.idp_answers.specs.Answers.{response_form, session_cookie, signed_assertion, signed_response}
use Rattle.idp_answers.specs.Stating.{EachLoginHasAnAnswer, EachRefusalHasAnAnswer, stated_login}
use Rattle.idp_answers.proofs.Responses.{assertion_made, assertion_signed, refusal_made, response_made, response_signed}

pub some_issued : EachLoginHasAnAnswer
some_issued mode key issuer message s relay cookie now name message_text can at issued until ends =
    let login = stated_login issuer s in
    let made = assertion login
    (record { issued = issued.text; confirm_until = until.text; not_before = Some issued.text; not_on_or_after = Some until.text; session_until = Some ends.text }) in
    let held = signed_assertion mode key made in
    let unsigned = response message issuer s.consumer s.request (Some held) at.text in
    let sent = signed_response mode key unsigned in
    let is_held = assertion_signed mode key made (assertion_made issuer s issued.text until.text ends.text name can issued.may_stand until.may_stand ends.may_stand) in
    let is_sent = response_signed mode key unsigned (response_made message issuer s.consumer s.request at.text held message_text name can.consumer can.request at.may_stand is_held) in (
      answer 200 None (option_map session_cookie cookie) (response_form sent s.consumer relay),
      record {
        sent = sent;
        issued = record {
          assertion = made;
          of_login = record {
            moments = record { issued = issued.text; confirm_until = until.text; not_before = Some issued.text; not_on_or_after = Some until.text; session_until = Some ends.text };
            written = record { issued = issued.tells; confirm_until = until.tells; not_before = issued.tells; not_on_or_after = until.tells; session_until = ends.tells };
            is = refl;
          };
          unsigned = unsigned;
          answers = record { instant = at.text; told = at.tells; is = refl };
          is = refl;
        };
        well_made = is_sent;
        is = refl;
      },
    )

pub some_refusal : EachRefusalHasAnAnswer
some_refusal issuer message request consumer relay now name text request_text consumer_text at =
    let sent = response message issuer consumer request None at.text in (
      answer 200 None None (response_form sent consumer relay),
      record {
        sent = sent;
        answers = record { instant = at.text; told = at.tells; is = refl };
        well_made = refusal_made message issuer consumer request at.text text name consumer_text request_text at.may_stand;
        is = refl;
      },
    )
