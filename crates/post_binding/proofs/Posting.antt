-- What is posted is read.
use Rattle.std.proofs.Common.{◌≡◌, ℕ, ◌<◌, ◌≤◌, Bool, true, false, List, [], ◌∷◌, map, length, Option, None, Some, Ok, Err, IfSome, IsUtf8, encode_utf8, encode_utf8_all, if◌then◌else◌, ◌+◌, ◌/◌, refl, ap, ◌∙◌, subst, ⊎_elim, arith}
use lib.Utf8.{scalar, scalars, encode, next, scalar_cases}
use Rattle.std.specs.Prelude.{All, nat_lt}
use Rattle.std.specs.List.{AllByRecursion}
use Rattle.std.specs.Str.Lossy.{utf8_lossy}
use Rattle.std.proofs.lemmas.Bool.{le-ltb, le-leb, ltb-true, cond_both}
use Rattle.std.proofs.lemmas.List.Elements.{All-nil, All-cons, All-append}
use Rattle.std.proofs.lemmas.Str.{utf8_lossy-IsUtf8}
use Rattle.base64.specs.Engines.{standard}
use Rattle.base64.specs.GeneralPurpose.{encode_of, IsBytes}
use Rattle.form_urlencoded.specs.Form.{raw_pairs, decode, extend_pairs}
use Rattle.form_urlencoded.proofs.FormLemmas.{IsBytePair, round_trip}
use Rattle.xml_spec.proofs.Tests.{both_true}
use Rattle.post_binding.specs.declared.fault.FormFault.TheVariants as faults
use Rattle.post_binding.specs.declared.posted.Field.{Field}
use Rattle.post_binding.specs.declared.posted.Field.TheVariants.{Request, Response}
use Rattle.post_binding.specs.declared.posted.TheConstants.{MESSAGE_LIMIT, RELAY_LIMIT}
use Rattle.post_binding.specs.Form.{Pair, decoded_pairs, pairs, values, has_replacement, field_name, relay_name, within_limit, message_of, message_field, relay_field, posted, posted_in, relay_pairs}
use Rattle.post_binding.specs.Laws.{IsRelay, WhatIsPostedIsRead}
use Rattle.post_binding.proofs.Base64.{base64_is_text, base64_is_read, base64_has_no_replacement}

abbrev IsByte : ℕ → Type 0
IsByte b = b < 256

-- a pair of texts
abbrev IsTextPair : Pair → Type 0
IsTextPair pair = IsUtf8 pair.0 × IsUtf8 pair.1

abbrev lossy : Pair → Pair
lossy pair = (utf8_lossy pair.0, utf8_lossy pair.1)

decoded_pairs-parse : (encoded : List Pair) → decoded_pairs encoded ≡ map lossy (map (λ (name, value). (decode name, decode value)) encoded)
decoded_pairs-parse [] = refl
decoded_pairs-parse (pair ∷ encoded) = ap (λ rest. lossy (decode pair.0, decode pair.1) ∷ rest) (decoded_pairs-parse encoded)

-- ---- texts are bytes

bytes_of_character : (c : ℕ) → scalar c ≡ true → All IsByte (encode_utf8 c)
unfolding encode
bytes_of_character c is =
    let small : c < 1114112 = ⊎_elim (λ low. omega arith) (λ high. high.1) (scalar_cases c is) in
    cond_both (nat_lt c 128) (c ∷ []) _ (All IsByte) (λ one. let below : c < 128 = ltb-true c 128 one in All-cons IsByte c [] (omega arith) (All-nil IsByte))
    (λ _. cond_both (nat_lt c 2048) ((192 + c / 64) ∷ next c ∷ []) _ (All IsByte)
    (λ two.
    let below : c < 2048 = ltb-true c 2048 two in
    All-cons IsByte (192 + c / 64) (next c ∷ []) (omega arith) (All-cons IsByte (next c) [] (omega arith) (All-nil IsByte)))
    (λ _. cond_both (nat_lt c 65536) ((224 + c / 4096) ∷ next (c / 64) ∷ next c ∷ []) _ (All IsByte)
    (λ three.
    let below : c < 65536 = ltb-true c 65536 three in
    All-cons IsByte (224 + c / 4096) (next (c / 64) ∷ next c ∷ []) (omega arith)
    (All-cons IsByte (next (c / 64)) (next c ∷ []) (omega arith) (All-cons IsByte (next c) [] (omega arith) (All-nil IsByte))))
    (λ _.
    All-cons IsByte (240 + c / 262144) (next (c / 4096) ∷ next (c / 64) ∷ next c ∷ []) (omega arith)
    (All-cons IsByte (next (c / 4096)) (next (c / 64) ∷ next c ∷ []) (omega arith)
    (All-cons IsByte (next (c / 64)) (next c ∷ []) (omega arith) (All-cons IsByte (next c) [] (omega arith) (All-nil IsByte)))))))

bytes_of_characters : (cs : List ℕ) → scalars cs ≡ true → All IsByte (encode_utf8_all cs)
bytes_of_characters [] is = All-nil IsByte
bytes_of_characters (c ∷ cs) is =
    let parts = both_true (scalar c) (scalars cs) is in
    All-append IsByte (encode_utf8 c) (encode_utf8_all cs) (bytes_of_character c parts.0) (bytes_of_characters cs parts.1)

bytes_of_text : (text : List ℕ) → IsUtf8 text → All IsByte text
bytes_of_text text is = subst (All IsByte) is.1.1 (bytes_of_characters is.0 is.1.0)

-- ---- the pairs of a form that is made of texts

bytes_of_pair : (pair : Pair) → IsTextPair pair → IsBytePair pair
bytes_of_pair pair is = (bytes_of_text pair.0 is.0, bytes_of_text pair.1 is.1)

same_pairs : (made : List Pair) → AllByRecursion IsTextPair made → map lossy made ≡ made
same_pairs [] is = refl
same_pairs (pair ∷ made) is =
    (λ i. (utf8_lossy-IsUtf8 pair.0 is.0.0 i, utf8_lossy-IsUtf8 pair.1 is.0.1 i) ∷ same_pairs made is.1 i)

byte_pairs : (made : List Pair) → AllByRecursion IsTextPair made → All IsBytePair made
byte_pairs [] is = All-nil IsBytePair
byte_pairs (pair ∷ made) is = All-cons IsBytePair pair made (bytes_of_pair pair is.0) (byte_pairs made is.1)

pairs_are_read : (made : List Pair) → AllByRecursion IsTextPair made → pairs (extend_pairs [] made) ≡ made
pairs_are_read made is =
    decoded_pairs-parse (raw_pairs (extend_pairs [] made)) ∙ ap (map lossy) (round_trip made (byte_pairs made is)) ∙ same_pairs made is

-- ---- fields and relays

relay_is_read : (relay : Option (List ℕ)) → IfSome relay IsRelay → relay_field (values relay_name (relay_pairs relay)) ≡ Ok relay
relay_is_read None is = refl
relay_is_read (Some relay) is = rw (le-leb (length relay) RELAY_LIMIT is.short, is.clean)

message_is_read : (field : Field) (text : List ℕ) (relay : Option (List ℕ)) → has_replacement text ≡ false →
    message_field (values (field_name Request) ((field_name field, text) ∷ relay_pairs relay))
    (values (field_name Response) ((field_name field, text) ∷ relay_pairs relay))
    ≡ Ok (field, text)
message_is_read Request text None clean = rw clean
message_is_read Request text (Some relay) clean = rw clean
message_is_read Response text None clean = rw clean
message_is_read Response text (Some relay) clean = rw clean

-- the message's field is passed over where the relay is looked for
relay_behind : (field : Field) (text : List ℕ) (relay : Option (List ℕ)) →
    values relay_name ((field_name field, text) ∷ relay_pairs relay) ≡ values relay_name (relay_pairs relay)
relay_behind Request text relay = refl
relay_behind Response text relay = refl

message_is_within : (message : List ℕ) → IsBytes message → length message ≤ MESSAGE_LIMIT → message_of (encode_of standard message) ≡ Ok message
message_is_within message is short =
    ap within_limit (base64_is_read message is)
    ∙ ap (λ (above : Bool). if above then Err (faults.TooLarge (length message)) else Ok message) (le-ltb MESSAGE_LIMIT (length message) short)

field_name_is_text : (field : Field) → IsUtf8 (field_name field)
unfolding encode
field_name_is_text Request = (field_name Request, (refl, refl))
field_name_is_text Response = (field_name Response, (refl, refl))

relay_name_is_text : IsUtf8 relay_name
unfolding encode
relay_name_is_text = (relay_name, (refl, refl))

text_pairs : (field : Field) (message : List ℕ) (relay : Option (List ℕ)) → IfSome relay IsRelay →
    AllByRecursion IsTextPair ((field_name field, encode_of standard message) ∷ relay_pairs relay)
text_pairs field message None is = ((field_name_is_text field, base64_is_text message), tt)
text_pairs field message (Some relay) is = ((field_name_is_text field, base64_is_text message), ((relay_name_is_text, is.text), tt))

pub what_is_posted_is_read : WhatIsPostedIsRead
what_is_posted_is_read field message relay is short relay_is =
    let text = encode_of standard message in
    let made = (field_name field, text) ∷ relay_pairs relay in
    let read = pairs_are_read made (text_pairs field message relay relay_is) in
    ap (λ (found : List Pair). posted (message_field (values (field_name Request) found) (values (field_name Response) found)) (relay_field (values relay_name found))) read
    ∙ ap (λ found. posted found (relay_field (values relay_name made))) (message_is_read field text relay (base64_has_no_replacement message is))
    ∙ ap (posted (Ok (field, text))) (ap relay_field (relay_behind field text relay) ∙ relay_is_read relay relay_is)
    ∙ ap (posted_in field relay) (message_is_within message is short)
