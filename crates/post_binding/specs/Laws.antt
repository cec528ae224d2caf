-- The laws of forms and pages.
use Rattle.std.specs.Prelude.{◌≡◌, ℕ, ◌≤◌, false, List, [], length, map, filter, Option, IfSome, Some, Ok, IsUtf8, ◌↔◌}
use Rattle.std.specs.Option.{option_map}
use Rattle.base64.specs.Engines.{standard}
use Rattle.base64.specs.GeneralPurpose.{encode_of, decode_of, IsBytes}
use Rattle.owned_values.specs.declared.attributes.Attribute.{Attribute}
use Rattle.post_binding.specs.declared.posted.Field.{Field}
use Rattle.post_binding.specs.declared.posted.TheConstants.{MESSAGE_LIMIT, RELAY_LIMIT}
use Rattle.post_binding.specs.Form.{has_replacement, form, post_body}
use Rattle.post_binding.specs.Html.{escape, is_markup, read_text}
use Rattle.post_binding.specs.Pages.{auto_form, login_page, user_page}

-- a text that may be a relay: UTF-8, as every text of the program is, of at most 80 bytes and without U+FFFD
pub record IsRelay (relay : List ℕ) : Type 0 where
  pub text : IsUtf8 relay
  pub short : length relay ≤ RELAY_LIMIT
  pub clean : has_replacement relay ≡ false

-- a form that was made is read as what it was made of
abbrev pub WhatIsPostedIsRead : Type 0
WhatIsPostedIsRead =
    (field : Field) (message : List ℕ) (relay : Option (List ℕ)) → IsBytes message → length message ≤ MESSAGE_LIMIT
    → IfSome relay IsRelay → form (post_body field message relay) ≡ Ok (record { field = field; message = message; relay = relay })

-- RFC 4648, 4 and 3.5: what is decoded is what was encoded, padding and unused bits included, and nothing else is
abbrev pub Base64IsCanonical : Type 0
Base64IsCanonical =
    (text message : List ℕ) → IsBytes text → IsBytes message → (decode_of standard text ≡ Ok message) ↔ (text ≡ encode_of standard message)

-- no byte of an escaped text begins or ends a tag or the value of an attribute
abbrev pub EscapedTextHoldsNoMarkup : Type 0
EscapedTextHoldsNoMarkup = (text : List ℕ) → filter is_markup (escape text) ≡ []

-- a page has the tags and the quotation marks that it has with empty texts in place of those that it was given
abbrev pub markup_of : List ℕ → List ℕ
markup_of page = filter is_markup page

abbrev pub without_texts : Attribute → Attribute
without_texts attribute = record { name = []; values = map (λ _. []) attribute.values }

pub record PagesHaveTheirOwnMarkup : Type 0 where
  pub auto_form : (url : List ℕ) (field : Field) (message : List ℕ) (relay : Option (List ℕ)) →
      markup_of (auto_form url field message relay) ≡ markup_of (auto_form [] field [] (option_map (λ _. []) relay))
  pub login_page : (pending : List ℕ) → markup_of (login_page pending) ≡ markup_of (login_page [])
  pub user_page : (name : List ℕ) (attributes : List Attribute) →
      markup_of (user_page name attributes) ≡ markup_of (user_page [] (map without_texts attributes))

-- each ampersand of an escaped text begins one of the five references, and reading these gives the text
abbrev pub EscapedTextIsReadAgain : Type 0
EscapedTextIsReadAgain = (text : List ℕ) → read_text (escape text) ≡ Some text
