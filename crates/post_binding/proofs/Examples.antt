-- The definitions at worked examples.
use Rattle.std.proofs.Common.{◌≡◌, [], ◌∷◌, codes, None, Some, Ok, Err, refl, true}
use Rattle.std.specs.Prelude.{⊤, replicate}
use Rattle.std.specs.Str.{is_utf8, chars}
use Rattle.std.specs.Str.Lossy.{utf8_lossy, utf8_valid_len, utf8_error_len}
use lib.Utf8.{encode}
use Rattle.base64.proofs.OnLiterals.{base64_on_literals}
use Rattle.form_urlencoded.proofs.OnLiterals.{form_urlencoded_on_literals}
use Rattle.post_binding.specs.declared.fault.FormFault.TheVariants.{BadForm, BadBase64}
use Rattle.post_binding.specs.declared.posted.Field.TheVariants.{Request, Response}
use Rattle.post_binding.specs.Form.{relay_field, form, fields, post_body}
use Rattle.post_binding.specs.Html.{escape, read_text}
use Rattle.post_binding.specs.Pages.{end_page}

-- what an example unfolds to compute the form of a literal
unfoldable on_literals : ⊤
unfolding form_urlencoded_on_literals base64_on_literals utf8_lossy utf8_valid_len utf8_error_len is_utf8 chars encode
on_literals = tt

-- ---- forms

-- a message and its relay, in any order; names and values are decoded, a + is a space, and other pairs are passed over
a_response : form (codes "RelayState=r+1&SAMLResponse=PGEvPg%3D%3D&x=y") ≡ Ok (record { field = Response; message = codes "<a/>"; relay = Some (codes "r 1") })
unfolding on_literals
a_response = refl

a_request : form (codes "%53AMLRequest=PGEvPg==&RelayState") ≡ Ok (record { field = Request; message = codes "<a/>"; relay = Some [] })
unfolding on_literals
a_request = refl

-- one message in all
no_message : form (codes "x=1") ≡ Err BadForm
unfolding on_literals
no_message = refl

a_response_twice : form (codes "SAMLResponse=YQ==&SAMLResponse=YQ==") ≡ Err BadForm
unfolding on_literals
a_response_twice = refl

a_request_and_a_response : form (codes "SAMLRequest=YQ==&SAMLResponse=YQ==") ≡ Err BadForm
unfolding on_literals
a_request_and_a_response = refl

-- one relay at most, of at most 80 bytes
two_relays : form (codes "SAMLResponse=YQ==&RelayState=&RelayState=") ≡ Err BadForm
unfolding on_literals
two_relays = refl

eighty_bytes : relay_field (replicate 80 97 ∷ []) ≡ Ok (Some (replicate 80 97))
eighty_bytes = refl

eighty_one_bytes : relay_field (replicate 81 97 ∷ []) ≡ Err BadForm
eighty_one_bytes = refl

-- U+FFFD, sent or in place of what is no UTF-8
replacement_sent : form (codes "SAMLResponse=YQ==&RelayState=%EF%BF%BD") ≡ Err BadForm
unfolding on_literals
replacement_sent = refl

no_utf8 : form (codes "SAMLResponse=YQ==%FF") ≡ Err BadForm
unfolding on_literals
no_utf8 = refl

-- base64 is wrapped by white space; it has its padding, no bit behind the last byte, and no inner =
wrapped : form (codes "SAMLResponse=%09Y%0D%0AQ+=%3D") ≡ Ok (record { field = Response; message = codes "a"; relay = None })
unfolding on_literals
wrapped = refl

form_feed : form (codes "SAMLResponse=Y%0CQ==") ≡ Err BadBase64
unfolding on_literals
form_feed = refl

no_symbol : form (codes "SAMLResponse=%21") ≡ Err BadBase64
unfolding on_literals
no_symbol = refl

no_padding : form (codes "SAMLResponse=YQ") ≡ Err BadBase64
unfolding on_literals
no_padding = refl

trailing_bits : form (codes "SAMLResponse=YR==") ≡ Err BadBase64
unfolding on_literals
trailing_bits = refl

inner_padding : form (codes "SAMLResponse=YQ==YQ==") ≡ Err BadBase64
unfolding on_literals
inner_padding = refl

-- an empty value is an empty message
no_bytes : form (codes "SAMLResponse") ≡ Ok (record { field = Response; message = []; relay = None })
unfolding on_literals
no_bytes = refl

-- ---- fields

two_fields : fields (codes "a=1&b=2") (codes "b" ∷ codes "a" ∷ []) ≡ Some (codes "2" ∷ codes "1" ∷ [])
unfolding on_literals
two_fields = refl

a_field_is_absent : fields (codes "a=1&b=2") (codes "a" ∷ codes "c" ∷ []) ≡ None
unfolding on_literals
a_field_is_absent = refl

a_field_is_doubled : fields (codes "a=1&a=1") (codes "a" ∷ []) ≡ None
unfolding on_literals
a_field_is_doubled = refl

-- ---- what is made

a_body : post_body Request (codes "<a>>>?</a>") (Some (codes "a b&c")) ≡ codes "SAMLRequest=PGE%2BPj4%2FPC9hPg%3D%3D&RelayState=a+b%26c"
unfolding on_literals
a_body = refl

an_escape : escape (codes "<a b=\"c\">'&'") ≡ codes "&lt;a b=&quot;c&quot;&gt;&#39;&amp;&#39;"
an_escape = refl

-- a name that is escaped once is read as itself, and one that is escaped twice is not
escaped_once : read_text (codes "a&lt;b") ≡ Some (codes "a<b")
escaped_once = refl

escaped_twice : read_text (escape (escape (codes "a<b"))) ≡ Some (codes "a&lt;b")
escaped_twice = refl

no_reference : read_text (codes "a&b") ≡ None
no_reference = refl

a_partial_logout : end_page true ≡ codes "<!DOCTYPE html><html><body><p>Logged out: PartialLogout</p></body></html>"
a_partial_logout = refl
