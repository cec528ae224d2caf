-- A page has the markup that it has with empty texts.
use Rattle.std.proofs.Common.{◌≡◌, ℕ, List, [], ◌∷◌, ◌++◌, map, codes, Option, None, Some, refl, sym, ◌∙◌}
use Rattle.std.specs.List.{flat_map}
use Rattle.std.specs.Option.{option_map}
use Rattle.std.proofs.lemmas.List.Elements.{filter-append}
use Rattle.base64.specs.Engines.{standard}
use Rattle.base64.specs.GeneralPurpose.{encode_of}
use Rattle.owned_values.specs.declared.attributes.Attribute.{Attribute}
use Rattle.post_binding.specs.declared.posted.Field.{Field}
use Rattle.post_binding.specs.Form.{field_name, relay_name}
use Rattle.post_binding.specs.Html.{escape, is_markup}
use Rattle.post_binding.specs.Laws.{markup_of, without_texts, PagesHaveTheirOwnMarkup}
use Rattle.post_binding.specs.Pages.{head, tail, submitting_head, hidden_input, relay_input, auto_form, login_page, value_item, attribute_items, user_page}
use Rattle.post_binding.proofs.Escaped.{escaped_text_holds_no_markup}

record HasMarkupOf (one other : List ℕ) : Type 0 where
  same : markup_of one ≡ markup_of other

-- the program's own part of a page
own : (part : List ℕ) → HasMarkupOf part part
own part = record { same = refl }

-- a text that the page was given
text : (given : List ℕ) → HasMarkupOf (escape given) []
text given = record { same = escaped_text_holds_no_markup given }

-- one part and then another
both : {a b c d : List ℕ} → HasMarkupOf a c → HasMarkupOf b d → HasMarkupOf (a ++ b) (c ++ d)
both {a} {b} {c} {d} first second =
    record { same = filter-append is_markup a b ∙ (λ i. first.same i ++ second.same i) ∙ sym (filter-append is_markup c d) }

hidden : (name value other : List ℕ) → HasMarkupOf (hidden_input name value) (hidden_input name other)
hidden name value other = record {
  same =
      (let front = both (both (own (codes "<input type=\"hidden\" name=\"")) (own name)) (own (codes "\" value=\"")) in
      let one = both (both front (text value)) (own (codes "\"/>")) in
      let another = both (both front (text other)) (own (codes "\"/>")) in
      one.same ∙ sym another.same);
}

relay_markup : (relay : Option (List ℕ)) → HasMarkupOf (relay_input relay) (relay_input (option_map (λ _. []) relay))
relay_markup None = own []
relay_markup (Some relay) = hidden relay_name relay []

login : (pending : List ℕ) → markup_of (login_page pending) ≡ markup_of (login_page [])
login pending =
    let opened = both (own head) (own (codes "<form method=\"post\" action=\"/login\">")) in
    let page = both (both (both opened (hidden (codes "pending") pending []))
    (own (codes "<input name=\"user\"/><input type=\"password\" name=\"password\"/><input type=\"submit\" value=\"Log in\"/></form>"))) (own tail) in
    page.same

auto : (url : List ℕ) (field : Field) (message : List ℕ) (relay : Option (List ℕ)) →
    markup_of (auto_form url field message relay) ≡ markup_of (auto_form [] field [] (option_map (λ _. []) relay))
auto url field message relay =
    let opened = both (both (both (own submitting_head) (own (codes "<form method=\"post\" action=\""))) (text url)) (own (codes "\">")) in
    let filled = both (both opened (hidden (field_name field) (encode_of standard message) (encode_of standard []))) (relay_markup relay) in
    let page = both (both filled (own (codes "<noscript><input type=\"submit\" value=\"Continue\"/></noscript></form>"))) (own tail) in
    page.same

value_markup : (name value : List ℕ) → HasMarkupOf (value_item name value) (value_item [] [])
value_markup name value =
    let item = both (both (both (both (own (codes "<li>")) (text name)) (own (codes "="))) (text value)) (own (codes "</li>")) in
    record { same = item.same }

values_markup : (name : List ℕ) (given : List (List ℕ)) →
    HasMarkupOf (flat_map (value_item name) given) (flat_map (value_item []) (map (λ _. []) given))
values_markup name [] = own []
values_markup name (value ∷ given) = both (value_markup name value) (values_markup name given)

attributes_markup : (given : List Attribute) → HasMarkupOf (flat_map attribute_items given) (flat_map attribute_items (map without_texts given))
attributes_markup [] = own []
attributes_markup (attribute ∷ given) = both (values_markup attribute.name attribute.values) (attributes_markup given)

user : (name : List ℕ) (given : List Attribute) → markup_of (user_page name given) ≡ markup_of (user_page [] (map without_texts given))
user name given =
    let named = both (both (both (own head) (own (codes "<p id=\"name\">"))) (text name)) (own (codes "</p><ul>")) in
    let page = both (both (both named (attributes_markup given))
    (own (codes "</ul><form method=\"post\" action=\"/logout\"><input type=\"submit\" value=\"Log out\"/></form>"))) (own tail) in
    page.same

pub pages_have_their_own_markup : PagesHaveTheirOwnMarkup
pages_have_their_own_markup = record { auto_form = auto; login_page = login; user_page = user }
