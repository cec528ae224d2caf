-- The pages of both providers, as texts.
use Rattle.std.specs.Prelude.{ℕ, Bool, List, [], ◌++◌, codes, Option, Some, None, if◌then◌else◌}
use Rattle.std.specs.List.{flat_map}
use Rattle.base64.specs.Engines.{standard}
use Rattle.base64.specs.GeneralPurpose.{encode_of}
use Rattle.owned_values.specs.declared.attributes.Attribute.{Attribute}
use Rattle.post_binding.specs.declared.posted.Field.{Field}
use Rattle.post_binding.specs.Form.{field_name, relay_name}
use Rattle.post_binding.specs.Html.{escape}

-- how a page begins and ends
abbrev pub head : List ℕ
head = codes "<!DOCTYPE html><html><body>"

abbrev pub tail : List ℕ
tail = codes "</body></html>"

-- a page that submits its form as soon as it is shown
abbrev pub submitting_head : List ℕ
submitting_head = codes "<!DOCTYPE html><html><body onload=\"document.forms[0].submit()\">"

-- a field that is not shown
abbrev pub hidden_input : List ℕ → List ℕ → List ℕ
hidden_input name value = codes "<input type=\"hidden\" name=\"" ++ name ++ codes "\" value=\"" ++ escape value ++ codes "\"/>"

-- the field of a relay, where there is one
abbrev pub relay_input : Option (List ℕ) → List ℕ
relay_input None = []
relay_input (Some relay) = hidden_input relay_name relay

-- SAML Bindings 3.5.4: "The action attribute of the form MUST be the recipient's HTTP endpoint", "The method attribute
-- MUST be "POST"", and the message is in "a hidden form control"; with a button where scripts do not run
abbrev pub auto_form : List ℕ → Field → List ℕ → Option (List ℕ) → List ℕ
auto_form url field message relay =
    submitting_head ++ codes "<form method=\"post\" action=\"" ++ escape url ++ codes "\">"
    ++ hidden_input (field_name field) (encode_of standard message) ++ relay_input relay
    ++ codes "<noscript><input type=\"submit\" value=\"Continue\"/></noscript></form>" ++ tail

-- where a user logs in, for the pending login of this ID
abbrev pub login_page : List ℕ → List ℕ
login_page pending =
    head ++ codes "<form method=\"post\" action=\"/login\">" ++ hidden_input (codes "pending") pending
    ++ codes "<input name=\"user\"/><input type=\"password\" name=\"password\"/><input type=\"submit\" value=\"Log in\"/></form>" ++ tail

-- how a logout ended: at each participant, or not (SAML Core 3.2.2.2, Success and PartialLogout)
abbrev pub end_page : Bool → List ℕ
end_page partial =
    head ++ codes "<p>Logged out: " ++ (if partial then codes "PartialLogout" else codes "Success") ++ codes "</p>" ++ tail

-- a value of an attribute
abbrev pub value_item : List ℕ → List ℕ → List ℕ
value_item name value = codes "<li>" ++ escape name ++ codes "=" ++ escape value ++ codes "</li>"

abbrev pub attribute_items : Attribute → List ℕ
attribute_items attribute = flat_map (value_item attribute.name) attribute.values

-- who is logged in, with each value of each attribute
abbrev pub user_page : List ℕ → List Attribute → List ℕ
user_page name attributes =
    head ++ codes "<p id=\"name\">" ++ escape name ++ codes "</p><ul>" ++ flat_map attribute_items attributes
    ++ codes "</ul><form method=\"post\" action=\"/logout\"><input type=\"submit\" value=\"Log out\"/></form>" ++ tail
