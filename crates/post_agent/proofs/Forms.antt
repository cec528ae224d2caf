-- Forms and login pages are read just from their own pages.
use Rattle.std.proofs.Common.{◌≡◌, ℕ, zero, suc, ◌<◌, Bool, true, false, cond, ◌==◌, ◌||◌, nat_lt, List, [], ◌∷◌, ◌++◌, filter, codes, Option, None, Some, IfSome, refl, sym, ap, ◌∙◌, subst, arith, append_assoc, IsUtf8}
use Rattle.std.specs.Prelude.{option_and_then}
use Rattle.std.specs.Option.{option_map}
use Rattle.std.specs.Result.{result_ok}
use Rattle.std.specs.Str.{is_utf8, bytes_eq}
use Rattle.std.proofs.lemmas.Bool.Decides.{nat_tests}
use Rattle.std.proofs.lemmas.Slice.Eq.{bytes_eq-Decides}
use Rattle.std.proofs.lemmas.Str.{IsUtf8-from_is_utf8}
use Rattle.base64.specs.Engines.{standard}
use Rattle.base64.specs.GeneralPurpose.{IsBytes, encode_of, decode_of}
use Rattle.base64.proofs.EngineFacts.{decode_of-encode_of}
use Rattle.xml_spec.proofs.Tests.{both_true, first_true, second_true}
use Rattle.xml_spec.specs.Ascii.{less_than, greater_than, quotation_mark, apostrophe}
use Rattle.post_binding.specs.declared.posted.Field.{Field}
use Rattle.post_binding.specs.declared.posted.Field.TheVariants.{Request, Response}
use Rattle.post_binding.specs.Form.{field_name}
use Rattle.post_binding.specs.Html.{escape, is_markup, read_text}
use Rattle.post_binding.specs.Laws.{EscapedTextHoldsNoMarkup, EscapedTextIsReadAgain}
use Rattle.post_binding.specs.Pages.{auto_form, login_page, relay_input, submitting_head, head, tail}
use Rattle.post_agent.specs.declared.seen.AutoForm.{AutoForm}
use Rattle.post_agent.specs.Cuts.{cut, quoted}
use Rattle.post_agent.specs.Pages.{form_page, IsForm}
use Rattle.post_agent.specs.Reading.{FormParts, url_front, name_front, value_front, relay_front, pending_front, relay_part, form_parts, text_in, are_bytes, as_bytes, decoded, message_in, field_of, relay_in, form_of, form_with, form_in, login_with, login_in}
use Rattle.post_agent.proofs.Cutting.{behind_front, cut_front, is_without, bytes_eq-same}
use Rattle.post_agent.proofs.Options.{followed, mapped, passed, some_same}
use Rattle.post_agent.proofs.Texts.{is_decoded}
use Rattle.owned_values.proofs.Utf8.{text_in_utf8}
use Rattle.owned_values.specs.Options.{in_utf8}

-- a text without markup has no quotation mark
without_quotes : (text : List ℕ) → filter is_markup text ≡ [] → is_without quotation_mark text ≡ true
without_quotes [] h = refl
without_quotes (b ∷ text) h = by_test (is_markup b) refl (without_quotes text) h
  where
    no_quote : (c : ℕ) → is_markup c ≡ false → (c == 34) ≡ false
    no_quote c other = by_quote (c == 34) refl
      where
        by_quote : (t : Bool) → (c == 34) ≡ t → t ≡ false
        by_quote false e = refl
        by_quote true e =
            let is : is_markup c ≡ true =
            first_true ((c == less_than || c == greater_than) || c == 34) (c == apostrophe)
            (second_true (c == less_than || c == greater_than) (c == 34) e) in
            cc

    by_test : (t : Bool) → is_markup b ≡ t → (filter is_markup text ≡ [] → is_without quotation_mark text ≡ true) →
        cond t (b ∷ filter is_markup text) (filter is_markup text) ≡ [] → is_without quotation_mark (b ∷ text) ≡ true
    by_test true is later e = absurd (cc)
    by_test false is later e = rw (no_quote b is) (later e)

-- what stands between a front and a quotation mark
quoted_at : (front value rest : List ℕ) → is_without quotation_mark value ≡ true →
    quoted front (front ++ (value ++ quotation_mark ∷ rest)) ≡ Some (value, rest)
quoted_at front value rest clean =
    ap (option_and_then (cut quotation_mark)) (behind_front front (value ++ quotation_mark ∷ rest))
    ∙ cut_front quotation_mark value rest clean

-- ---- the shape of the page of a form

abbrev end_of_page : List ℕ
end_of_page = codes "<noscript><input type=\"submit\" value=\"Continue\"/></noscript></form>" ++ tail

abbrev behind_message : Option (List ℕ) → List ℕ
behind_message relay = codes "/>" ++ (relay_input relay ++ end_of_page)

abbrev behind_name : List ℕ → Option (List ℕ) → List ℕ
behind_name message relay = value_front ++ (escape message ++ quotation_mark ∷ behind_message relay)

abbrev behind_url : Field → List ℕ → Option (List ℕ) → List ℕ
behind_url field message relay = name_front ++ (field_name field ++ quotation_mark ∷ behind_name message relay)

grouped : (s e q i n v m c r t l : List ℕ) →
    s ++ e ++ q ++ (i ++ n ++ v ++ m ++ c) ++ r ++ t ++ l ≡ s ++
    (e ++ (q ++ (i ++ (n ++ (v ++ (m ++ (c ++ (r ++ (t ++ l)))))))))
grouped s e q i n v m c r t l = simp append_assoc

page_shape : (url : List ℕ) (field : Field) (message : List ℕ) (relay : Option (List ℕ)) →
    auto_form url field message relay ≡ url_front ++
    (escape url ++ quotation_mark ∷ behind_url field (encode_of standard message) relay)
page_shape url field message relay =
    grouped (submitting_head ++ codes "<form method=\"post\" action=\"") (escape url) (codes "\">")
    (codes "<input type=\"hidden\" name=\"") (field_name field)
    (codes "\" value=\"") (escape (encode_of standard message)) (codes "\"/>") (relay_input relay)
    (codes "<noscript><input type=\"submit\" value=\"Continue\"/></noscript></form>") tail

-- ---- the shape of a login page

abbrev behind_pending : List ℕ
behind_pending = codes "<input name=\"user\"/><input type=\"password\" name=\"password\"/><input type=\"submit\" value=\"Log in\"/></form>"

grouped_login : (e c b t : List ℕ) → ((e ++ c) ++ b) ++ t ≡ e ++ (c ++ (b ++ t))
grouped_login e c b t = simp append_assoc

login_shape : (e : List ℕ) →
    head ++ codes "<form method=\"post\" action=\"/login\">" ++
    (codes "<input type=\"hidden\" name=\"" ++ codes "pending" ++ codes "\" value=\"" ++ e ++ codes "\"/>")
    ++ behind_pending ++ tail ≡ pending_front ++ (e ++ quotation_mark ∷ (codes "/>" ++ (behind_pending ++ tail)))
login_shape e = ap (λ xs. pending_front ++ xs) (grouped_login e (codes "\"/>") behind_pending tail)

-- ---- each part is read

field_is_quoted : (field : Field) (rest : List ℕ) →
    quoted name_front (name_front ++ (field_name field ++ quotation_mark ∷ rest)) ≡ Some (field_name field, rest)
field_is_quoted Request rest = quoted_at name_front (field_name Request) rest refl
field_is_quoted Response rest = quoted_at name_front (field_name Response) rest refl

field_is_read : (field : Field) → field_of (field_name field) ≡ Some field
field_is_read Request = refl
field_is_read Response = refl

module _ (clean : EscapedTextHoldsNoMarkup) (again : EscapedTextIsReadAgain) where
  escaped_is_quoted : (front text rest : List ℕ) →
      quoted front (front ++ (escape text ++ quotation_mark ∷ rest)) ≡ Some (escape text, rest)
  escaped_is_quoted front text rest = quoted_at front (escape text) rest (without_quotes (escape text) (clean text))

  relay_is_quoted : (relay : Option (List ℕ)) → relay_part (behind_message relay) ≡ option_map escape relay
  relay_is_quoted None = refl
  relay_is_quoted (Some relay) =
      let shape : behind_message (Some relay) ≡ relay_front ++
      (escape relay ++ quotation_mark ∷ (codes "/>" ++ end_of_page)) =
      ap (λ xs. relay_front ++ xs) (append_assoc (escape relay) (codes "\"/>") end_of_page) in
      ap relay_part shape ∙ ap (option_map (λ (f : List ℕ × List ℕ). f.0))
      (escaped_is_quoted relay_front relay (codes "/>" ++ end_of_page))

  text_is_read : (text : List ℕ) → IsUtf8 text → text_in (escape text) ≡ Some text
  text_is_read text is = ap (option_and_then in_utf8) (again text) ∙ sym (text_in_utf8 text text refl is)

  message_is_read : (message : List ℕ) → IsBytes message →
      message_in (escape (encode_of standard message)) ≡ Some message
  message_is_read message is =
      ap (option_and_then decoded) (again (encode_of standard message))
      ∙ sym (is_decoded (encode_of standard message) message message
      (decode_of-encode_of standard message refl is) is refl)

  relay_is_read : (relay : Option (List ℕ)) → IfSome relay IsUtf8 → relay_in (option_map escape relay) ≡ Some relay
  relay_is_read None is = refl
  relay_is_read (Some relay) is = ap (option_map (λ (text : List ℕ). Some text)) (text_is_read relay is)

  parts_are_read : (form : AutoForm) → form_parts (form_page form)
      ≡ Some (record {
        url = escape form.url;
        name = field_name form.field;
        message = escape
            (encode_of standard form.message);
        relay = option_map escape form.relay;
      })
  parts_are_read form =
      let message = encode_of standard form.message in
      let with_message : List ℕ → List ℕ → List ℕ × List ℕ → Option FormParts =
      λ url name found. Some (record { url = url; name = name; message = found.0; relay = relay_part found.1 }) in
      let with_name : List ℕ → List ℕ × List ℕ → Option FormParts =
      λ url found. option_and_then (with_message url found.0) (quoted value_front found.1) in
      let with_url : List ℕ × List ℕ → Option FormParts =
      λ found. option_and_then (with_name found.0) (quoted name_front found.1) in
      ap form_parts (page_shape form.url form.field form.message form.relay)
      ∙ ap (option_and_then with_url) (escaped_is_quoted url_front form.url (behind_url form.field message form.relay))
      ∙ ap (option_and_then (with_name (escape form.url))) (field_is_quoted form.field (behind_name message form.relay))
      ∙ ap (option_and_then (with_message (escape form.url) (field_name form.field)))
      (escaped_is_quoted value_front message (behind_message form.relay))
      ∙ (λ i. Some (record { url = escape form.url; name = field_name form.field; message = escape message; relay = relay_is_quoted form.relay i }))

  form_is_read : (form : AutoForm) → IsForm form →
      form_of (record {
        url = escape form.url;
        name = field_name form.field;
        message = escape
            (encode_of standard form.message);
        relay = option_map escape form.relay;
      }) ≡ Some form
  form_is_read form is =
      let with_relay : List ℕ → Field → List ℕ → Option (List ℕ) → Option AutoForm =
      λ url field message relay. Some (record { url = url; field = field; message = message; relay = relay }) in
      let with_message : List ℕ → Field → List ℕ → Option AutoForm =
      λ url field message. option_and_then (with_relay url field message)
      (relay_in (option_map escape form.relay)) in
      let with_field : List ℕ → Field → Option AutoForm =
      λ url field. option_and_then (with_message url field)
      (message_in (escape (encode_of standard form.message))) in
      let with_url : List ℕ → Option AutoForm =
      λ url. option_and_then (with_field url) (field_of (field_name form.field)) in
      ap (option_and_then with_url) (text_is_read form.url is.url)
      ∙ ap (option_and_then (with_field form.url)) (field_is_read form.field)
      ∙ ap (option_and_then (with_message form.url form.field)) (message_is_read form.message is.message)
      ∙ ap (option_and_then (with_relay form.url form.field form.message)) (relay_is_read form.relay is.relay)

  -- the page of a form is read as the form
  pub form_in-page : (form : AutoForm) → IsForm form → form_in (form_page form) ≡ Some form
  form_in-page form is =
      ap (option_and_then (λ parts. option_and_then (form_with (form_page form)) (form_of parts))) (parts_are_read form)
      ∙ ap (option_and_then (form_with (form_page form))) (form_is_read form is)
      ∙ ap (λ t. cond t (Some form) None) (bytes_eq-same (form_page form))

  -- the page of a pending login is read as it
  pub login_in-page : (pending : List ℕ) → IsUtf8 pending → login_in (login_page pending) ≡ Some pending
  login_in-page pending is =
      let end = codes "/>" ++ (behind_pending ++ tail) in
      let shape : login_page pending ≡ pending_front ++ (escape pending ++ quotation_mark ∷ end) =
      login_shape (escape pending) in
      let with_found : List ℕ × List ℕ → Option (List ℕ) =
      λ found. option_and_then (login_with (login_page pending)) (text_in found.0) in
      ap (option_and_then with_found) (ap (quoted pending_front) shape ∙ escaped_is_quoted pending_front pending end)
      ∙ ap (option_and_then (login_with (login_page pending))) (text_is_read pending is)
      ∙ ap (λ t. cond t (Some pending) None) (bytes_eq-same (login_page pending))

-- ---- what was read is on the page

text_is_utf8 : (escaped text : List ℕ) → text_in escaped ≡ Some text → IsUtf8 text
text_is_utf8 escaped text e =
    let found = followed (read_text escaped) in_utf8 text e in
    let valid = passed (is_utf8 found.first) found.first text found.then in
    subst IsUtf8 valid.same (IsUtf8-from_is_utf8 found.first valid.test)

bytes_from_test : (bytes : List ℕ) → are_bytes bytes ≡ true → IsBytes bytes
bytes_from_test [] h i = omega arith
bytes_from_test (b ∷ bytes) h zero = small b (both_true (nat_lt b 256) (are_bytes bytes) h).0
  where
    small : (c : ℕ) → nat_lt c 256 ≡ true → c < 256
    small c e = grind (arith, nat_tests)
bytes_from_test (b ∷ bytes) h (suc i) = bytes_from_test bytes (both_true (nat_lt b 256) (are_bytes bytes) h).1 i

message_is_bytes : (escaped message : List ℕ) → message_in escaped ≡ Some message → IsBytes message
message_is_bytes escaped message e =
    let text = followed (read_text escaped) decoded message e in
    let found = followed (result_ok (decode_of standard text.first)) as_bytes message text.then in
    let valid = passed (are_bytes found.first) found.first message found.then in
    subst IsBytes valid.same (bytes_from_test found.first valid.test)

relay_is_utf8 : (part relay : Option (List ℕ)) → relay_in part ≡ Some relay → IfSome relay IsUtf8
relay_is_utf8 None relay e = subst (λ (r : Option (List ℕ)). IfSome r IsUtf8) (some_same None relay e) tt
relay_is_utf8 (Some part) relay e =
    let found = mapped (text_in part) (λ (text : List ℕ). Some text) relay e in
    subst (λ (r : Option (List ℕ)). IfSome r IsUtf8) found.made (text_is_utf8 part found.first found.was)

form_is_good : (parts : FormParts) (form : AutoForm) → form_of parts ≡ Some form → IsForm form
form_is_good parts form e =
    let url = followed (text_in parts.url) _ form e in
    let field = followed (field_of parts.name) _ form url.then in
    let message = followed (message_in parts.message) _ form field.then in
    let relay = followed (relay_in parts.relay) _ form message.then in
    subst IsForm (some_same
    (record { url = url.first; field = field.first; message = message.first; relay = relay.first }) form relay.then) (record {
      url = text_is_utf8 parts.url url.first url.was;
      message = message_is_bytes parts.message message.first message.was;
      relay = relay_is_utf8 parts.relay relay.first relay.was;
    })

pub form_in-shows : (body : List ℕ) (form : AutoForm) → form_in body ≡ Some form → IsForm form × (body ≡ form_page form)
form_in-shows body form e =
    let parts = followed (form_parts body) _ form e in
    let made = followed (form_of parts.first) (form_with body) form parts.then in
    let same = passed (bytes_eq (form_page made.first) body) made.first form made.then in
    let is = form_is_good parts.first made.first made.was in
    subst (λ (f : AutoForm). IsForm f × (body ≡ form_page f)) same.same (is, sym ((bytes_eq-Decides (form_page made.first) body).0 same.test))

pub login_in-shows : (body pending : List ℕ) → login_in body ≡ Some pending → IsUtf8 pending × (body ≡ login_page pending)
login_in-shows body pending e =
    let part = followed (quoted pending_front body) _ pending e in
    let text = followed (text_in part.first.0) (login_with body) pending part.then in
    let same = passed (bytes_eq (login_page text.first) body) text.first pending text.then in
    subst (λ (text : List ℕ). IsUtf8 text × (body ≡ login_page text)) same.same
    (text_is_utf8 part.first.0 text.first text.was, sym ((bytes_eq-Decides (login_page text.first) body).0 same.test))
