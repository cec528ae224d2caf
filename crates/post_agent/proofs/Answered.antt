-- The parts of an answer are read just from it.
use Rattle.std.proofs.Common.{◌≡◌, ℕ, ◌-◌, ◌<◌, ◌^◌, Bool, true, false, cond, ◌==◌, ◌&&◌, ◌||◌, not, nat_eq, nat_lt, List, [], ◌∷◌, ◌++◌, length, take, drop, codes, Option, None, Some, IfSome, IsTrue, refl, sym, ap, ◌∙◌, subst, arith, append_assoc, append-nil}
use Rattle.std.specs.Prelude.{option_and_then, decimal}
use Rattle.std.specs.List.{ends_with}
use Rattle.std.specs.Option.{option_map, option_map_or}
use Rattle.std.specs.Str.{is_utf8, bytes_eq}
use Rattle.std.proofs.lemmas.Bool.Decides.{nat_tests}
use Rattle.std.proofs.lemmas.List.{take-append-drop, length-append}
use Rattle.std.proofs.lemmas.List.Folds.{list_all-append}
use Rattle.std.proofs.lemmas.Slice.Eq.{bytes_eq-Decides}
use Rattle.std.proofs.lemmas.Str.{IsUtf8-from_is_utf8, is_utf8-from_IsUtf8}
use Rattle.xml_spec.proofs.Tests.{both_true, and_true}
use Rattle.http_wire.specs.Answers.{answer, location_line, cookie_line, is_one_line}
use Rattle.post_agent.specs.Cuts.{behind, cut}
use Rattle.post_agent.specs.Reading.{status_line, page_lines, line_text, value_in, field_in, field_behind, next_field, is_size, sized_parts, answer_of}
use Rattle.post_agent.specs.Received.{Parts, IsAnswer, IsLineText}
use Rattle.post_agent.proofs.Cutting.{behind_front, behind_some, cut_front, cut_some, is_without, take-append, drop-append, bytes_eq-same}
use Rattle.post_agent.proofs.Heads.{answer_shape, shaped, behind_phrase, behind_size, status_is_read, status_stands, digits_without_end, size_is_read, size_stands}
use Rattle.post_agent.proofs.Options.{followed, mapped, passed, some_same}

-- ---- a value in front of its end

without_return : (value : List ℕ) → is_one_line value ≡ true → is_without 13 value ≡ true
without_return [] h = refl
without_return (b ∷ value) h =
    let parts = both_true (not (b == 13 || b == 10)) (is_one_line value) h in
    and_true _ _ (no_return (b == 13) (b == 10) parts.0) (without_return value parts.1)
  where
    no_return : (t u : Bool) → not (t || u) ≡ true → not t ≡ true
    no_return true u e = absurd (cc)
    no_return false u e = refl

one_line : {t : Bool} → IsTrue t → t ≡ true
one_line h = h

value_in-end : (value end : List ℕ) → IsLineText value → value_in (value ++ end) end ≡ Some value
value_in-end value end is =
    let size : length (value ++ end) - length end ≡ length value = omega (arith, length-append value end) in
    let behind_it : drop (length (value ++ end) - length end) (value ++ end) ≡ end =
    ap (λ n. drop n (value ++ end)) size ∙ drop-append value end in
    let front : take (length (value ++ end) - length end) (value ++ end) ≡ value =
    ap (λ n. take n (value ++ end)) size ∙ take-append value end in
    ap (λ t. cond t (line_text (take (length (value ++ end) - length end) (value ++ end))) None)
    (ap (bytes_eq end) behind_it ∙ bytes_eq-same end)
    ∙ ap line_text front
    ∙ ap (λ t. cond t (Some value) None)
    (and_true (is_one_line value) (is_utf8 value) is.one_line (is_utf8-from_IsUtf8 value is.text))

-- a line is a value and its end
record IsLine (line end value : List ℕ) : Type 0 where
  pub good : IsLineText value
  pub shape : line ≡ value ++ end

value_in-some : (line end value : List ℕ) → value_in line end ≡ Some value → IsLine line end value
value_in-some line end value = by_test (ends_with nat_eq line end) refl
  where
    front : List ℕ
    front = take (length line - length end) line

    by_test : (t : Bool) → ends_with nat_eq line end ≡ t →
        cond t (line_text (take (length line - length end) line)) None ≡ Some value → IsLine line end value
    by_test false h e = absurd (cc)
    by_test true h e =
        let n = length line - length end in
        let same : end ≡ drop n line = (bytes_eq-Decides end (drop n line)).0 h in
        let is = passed (is_one_line (take n line) && is_utf8 (take n line)) (take n line) value e in
        let tests = both_true (is_one_line (take n line)) (is_utf8 (take n line)) is.test in
        record {
          good = subst IsLineText is.same
              (record { text = IsUtf8-from_is_utf8 (take n line) tests.1; one_line = tests.0 });
          shape = sym (take-append-drop n line) ∙ (λ i. is.same i ++ sym same i);
        }

-- ---- the line of a field, behind its name

line_is_read : (value end rest : List ℕ) → IsLineText value → is_without 13 end ≡ true →
    field_in ((value ++ end) ++ 13 ∷ (10 ∷ rest)) end ≡ Some (value, rest)
line_is_read value end rest is clean =
    let with_rest : List ℕ → List ℕ → Option (List ℕ × List ℕ) = λ v xs. Some (v, xs) in
    let with_value : List ℕ → List ℕ → Option (List ℕ × List ℕ) =
    λ behind_it v. option_and_then (with_rest v) (behind (codes "\n") behind_it) in
    let with_line : List ℕ × List ℕ → Option (List ℕ × List ℕ) =
    λ line. option_and_then (with_value line.1) (value_in line.0 end) in
    let no_end : is_without 13 (value ++ end) ≡ true =
    list_all-append (λ b. not (b == 13)) value end ∙ and_true _ _ (without_return value is.one_line) clean in
    ap (option_and_then with_line) (cut_front 13 (value ++ end) (10 ∷ rest) no_end)
    ∙ ap (option_and_then (with_value (10 ∷ rest))) (value_in-end value end is)
    ∙ ap (option_and_then (with_rest value)) (behind_front (codes "\n") rest)

-- what was read of a field stands there, or nothing was read
abbrev FieldStands : List ℕ → List ℕ → List ℕ → Option (List ℕ) → List ℕ → Type 0
FieldStands bytes name end None rest = bytes ≡ rest
FieldStands bytes name end (Some value) rest = IsLineText value × (bytes ≡ name ++ ((value ++ end) ++ 13 ∷ (10 ∷ rest)))

field_stands : (bytes name end : List ℕ) (found : Option (List ℕ) × List ℕ) → next_field bytes name end ≡ Some found →
    FieldStands bytes name end found.0 found.1
field_stands bytes name end found = by_option (behind name bytes) refl
  where
    by_option : (o : Option (List ℕ)) → behind name bytes ≡ o →
        option_map_or (λ rest. field_behind rest end) o (Some (None, bytes)) ≡ Some found →
        FieldStands bytes name end found.0 found.1
    by_option None h e = subst (λ (f : Option (List ℕ) × List ℕ). FieldStands bytes name end f.0 f.1)
        (some_same (None, bytes) found e) refl
    by_option (Some start) h e =
        let field = mapped (field_in start end) (λ (f : List ℕ × List ℕ). (Some f.0, f.1)) found e in
        let line = followed (cut 13 start) _ field.first field.was in
        let value = followed (value_in line.first.0 end) _ field.first line.then in
        let rest = followed (behind (codes "\n") line.first.1) _ field.first value.then in
        let is = value_in-some line.first.0 end value.first value.was in
        let same : (value.first, rest.first) ≡ field.first =
        some_same (value.first, rest.first) field.first rest.then in
        subst (λ (f : Option (List ℕ) × List ℕ). FieldStands bytes name end f.0 f.1) field.made
        (subst (λ (f : List ℕ × List ℕ). IsLineText f.0 × (bytes ≡ name ++ ((f.0 ++ end) ++ 13 ∷ (10 ∷ f.1)))) same (
          is.good,
          behind_some name bytes start h
              ∙ ap (λ xs. name ++ xs) (cut_some 13 start line.first.0 line.first.1 line.was
              ∙ (λ i. is.shape i ++ 13 ∷ behind_some (codes "\n") line.first.1 rest.first rest.was i)),
        ))

-- ---- Location and Set-Cookie

abbrev cookie_end : List ℕ
cookie_end = codes "; Path=/; HttpOnly"

location_is_read : (location cookie : Option (List ℕ)) (body : List ℕ) → IfSome location IsLineText →
    next_field (behind_size location cookie body) (codes "Location: ") [] ≡ Some
    (location, cookie_line cookie ++ (codes "\r\n" ++ body))
location_is_read None None body is = refl
location_is_read None (Some value) body is = refl
location_is_read (Some location) cookie body is =
    let rest = cookie_line cookie ++ (codes "\r\n" ++ body) in
    let shape : (location ++ codes "\r\n") ++ rest ≡ (location ++ []) ++ 13 ∷ (10 ∷ rest) =
    append_assoc location (codes "\r\n") rest ∙ ap (λ xs. xs ++ 13 ∷ (10 ∷ rest)) (sym (append-nil location)) in
    ap (λ o. option_map_or (λ xs. field_behind xs []) o (Some (None, behind_size (Some location) cookie body)))
    (behind_front (codes "Location: ") ((location ++ codes "\r\n") ++ rest))
    ∙ ap (λ xs. field_behind xs []) shape
    ∙ ap (option_map (λ (f : List ℕ × List ℕ). (Some f.0, f.1))) (line_is_read location [] rest is refl)

cookie_is_read : (cookie : Option (List ℕ)) (rest : List ℕ) → IfSome cookie IsLineText →
    next_field (cookie_line cookie ++ (codes "\r\n" ++ rest)) (codes "Set-Cookie: ") cookie_end ≡ Some
    (cookie, codes "\r\n" ++ rest)
cookie_is_read None rest is = refl
cookie_is_read (Some cookie) rest is =
    let behind_it = codes "\r\n" ++ rest in
    let shape : ((cookie ++ cookie_end) ++ codes "\r\n") ++ behind_it ≡ (cookie ++ cookie_end) ++ 13 ∷
    (10 ∷ behind_it) =
    append_assoc (cookie ++ cookie_end) (codes "\r\n") behind_it in
    ap (λ o. option_map_or (λ xs. field_behind xs cookie_end) o (Some (None, cookie_line (Some cookie) ++ behind_it)))
    (behind_front (codes "Set-Cookie: ") (((cookie ++ cookie_end) ++ codes "\r\n") ++ behind_it))
    ∙ ap (λ xs. field_behind xs cookie_end) shape
    ∙ ap (option_map (λ (f : List ℕ × List ℕ). (Some f.0, f.1))) (line_is_read cookie cookie_end behind_it is refl)

record LineStands (bytes line : List ℕ) (value : Option (List ℕ)) (rest : List ℕ) : Type 0 where
  pub good : IfSome value IsLineText
  pub shape : bytes ≡ line ++ rest

location_stands : (bytes : List ℕ) (location : Option (List ℕ)) (rest : List ℕ) →
    FieldStands bytes (codes "Location: ") [] location rest →
    LineStands bytes (location_line location) location rest
location_stands bytes None rest h = record { good = tt; shape = h }
location_stands bytes (Some location) rest h = record {
  good = h.0;
  shape =
      (h.1 ∙ ap (λ xs. codes "Location: " ++ xs)
      (ap (λ xs. xs ++ 13 ∷ (10 ∷ rest)) (append-nil location) ∙ sym (append_assoc location (codes "\r\n") rest)));
}

cookie_stands : (bytes : List ℕ) (cookie : Option (List ℕ)) (rest : List ℕ) →
    FieldStands bytes (codes "Set-Cookie: ") cookie_end cookie rest →
    LineStands bytes (cookie_line cookie) cookie rest
cookie_stands bytes None rest h = record { good = tt; shape = h }
cookie_stands bytes (Some cookie) rest h = record {
  good = h.0;
  shape = h.1 ∙ ap (λ xs. codes "Set-Cookie: " ++ xs) (sym (append_assoc (cookie ++ cookie_end) (codes "\r\n") rest));
}

-- ---- the whole answer

abbrev with_body : ℕ → List ℕ → Option (List ℕ) → Option (List ℕ) → List ℕ → Option Parts
with_body status size location cookie body =
    sized_parts size (record { status = status; location = location; cookie = cookie; body = body })

abbrev with_cookie : ℕ → List ℕ → Option (List ℕ) → Option (List ℕ) × List ℕ → Option Parts
with_cookie status size location cookie =
    option_and_then (with_body status size location cookie.0) (behind (codes "\r\n") cookie.1)

abbrev with_location : ℕ → List ℕ → Option (List ℕ) × List ℕ → Option Parts
with_location status size location =
    option_and_then (with_cookie status size location.0) (next_field location.1 (codes "Set-Cookie: ") cookie_end)

abbrev with_size : ℕ → List ℕ × List ℕ → Option Parts
with_size status size = option_and_then (with_location status size.0) (next_field size.1 (codes "Location: ") [])

abbrev with_status : ℕ × List ℕ → Option Parts
with_status status = option_and_then (with_size status.0) (page_lines status.1)

pub answer_of-answer : (bytes : List ℕ) (parts : Parts) → IsAnswer bytes parts → answer_of bytes ≡ Some parts
answer_of-answer bytes parts is =
    let size = decimal (length parts.body) in
    let rest = behind_size parts.location parts.cookie parts.body in
    let small : nat_lt (length parts.body) (2 ^ 64) ≡ true = below (length parts.body) is.size in
    ap answer_of (is.written ∙ answer_shape parts.status parts.location parts.cookie parts.body)
    ∙ ap (option_and_then with_status) (status_is_read parts.status (behind_phrase size rest) is.status)
    ∙ ap (option_and_then (with_size parts.status))
    (size_is_read size rest (digits_without_end (length parts.body) is.size))
    ∙ ap (option_and_then (with_location parts.status size))
    (location_is_read parts.location parts.cookie parts.body is.location)
    ∙ ap (option_and_then (with_cookie parts.status size parts.location))
    (cookie_is_read parts.cookie parts.body is.cookie)
    ∙ ap (option_and_then (with_body parts.status size parts.location parts.cookie))
    (behind_front (codes "\r\n") parts.body)
    ∙ ap (λ t. cond t (Some parts) None)
    (and_true (nat_lt (length parts.body) (2 ^ 64)) (bytes_eq size size) small (bytes_eq-same size))
  where
    below : (n : ℕ) → n < 2 ^ 64 → nat_lt n (2 ^ 64) ≡ true
    below n h = grind (arith, nat_tests)

-- the parts one behind the other
together : (bytes behind_status behind_lines behind_location behind_cookie size body : List ℕ) (status : ℕ)
    (location cookie : Option (List ℕ)) → bytes ≡ shaped status behind_status →
    behind_status ≡ behind_phrase size behind_lines →
    behind_lines ≡ location_line location ++ behind_location → behind_location ≡ cookie_line cookie ++ behind_cookie →
    behind_cookie ≡ codes "\r\n" ++ body → size ≡ decimal (length body) → bytes ≡ answer status location cookie body
together bytes behind_status behind_lines behind_location behind_cookie size body status location cookie one two three four five digits =
    one
    ∙ ap (shaped status) (two
    ∙ (λ i. behind_phrase (digits i) (three i))
    ∙ ap (λ xs. behind_phrase (decimal (length body)) (location_line location ++ xs))
    (four ∙ ap (λ xs. cookie_line cookie ++ xs) five))
    ∙ sym (answer_shape status location cookie body)

pub answer_of-stands : (bytes : List ℕ) (parts : Parts) → answer_of bytes ≡ Some parts → IsAnswer bytes parts
answer_of-stands bytes parts e =
    let status = followed (status_line bytes) with_status parts e in
    let size = followed (page_lines status.first.1) (with_size status.first.0) parts status.then in
    let location = followed (next_field size.first.1 (codes "Location: ") [])
    (with_location status.first.0 size.first.0) parts size.then in
    let cookie = followed (next_field location.first.1 (codes "Set-Cookie: ") cookie_end)
    (with_cookie status.first.0 size.first.0 location.first.0) parts location.then in
    let body = followed (behind (codes "\r\n") cookie.first.1)
    (with_body status.first.0 size.first.0 location.first.0 cookie.first.0) parts cookie.then in
    let found : Parts = record { status = status.first.0; location = location.first.0; cookie = cookie.first.0; body = body.first } in
    let sized = passed (is_size size.first.0 body.first) found parts body.then in
    let tests = both_true (nat_lt (length body.first) (2 ^ 64))
    (bytes_eq size.first.0 (decimal (length body.first))) sized.test in
    let head = status_stands bytes status.first status.was in
    let lines = size_stands status.first.1 size.first size.was in
    let one = location_stands size.first.1 location.first.0 location.first.1
    (field_stands size.first.1 (codes "Location: ") [] location.first location.was) in
    let two = cookie_stands location.first.1 cookie.first.0 cookie.first.1
    (field_stands location.first.1 (codes "Set-Cookie: ") cookie_end cookie.first cookie.was) in
    let end = behind_some (codes "\r\n") cookie.first.1 body.first body.was in
    let digits : size.first.0 ≡ decimal (length body.first) =
    (bytes_eq-Decides size.first.0 (decimal (length body.first))).0 tests.1 in
    subst (IsAnswer bytes) {x = found} sized.same (record {
      status = head.valid;
      location = one.good;
      cookie = two.good;
      size = below (length body.first) tests.0;
      written =
          (together bytes status.first.1 size.first.1 location.first.1 cookie.first.1 size.first.0 body.first status.first.0
          location.first.0 cookie.first.0 head.shape lines one.shape two.shape end digits);
    })
  where
    below : (n : ℕ) → nat_lt n (2 ^ 64) ≡ true → n < 2 ^ 64
    below n h = grind (arith, nat_tests)
