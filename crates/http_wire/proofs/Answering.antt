-- Answers that are written piece by piece.
use Rattle.std.proofs.Common.{◌≡◌, ℕ, ◌+◌, ◌<◌, ◌≤◌, List, [], ◌∷◌, ◌++◌, length, take, drop, get_or, codes, Option, None, Some, refl, sym, ap, ◌∙◌, arith, append_assoc, append-nil}
use Rattle.std.specs.Prelude.{decimal, unwrap_or}
use Rattle.std.specs.List.{flat_map}
use Rattle.std.specs.Option.{option_map, option_map_or}
use Rattle.std.proofs.lemmas.List.{take_more, length-append, take-append-drop}
use Rattle.std.proofs.lemmas.List.Concat.{flat_map-append}
use denote.Bor.{Bor}
use Rattle.httparse.specs.Ascii.{crlf_bytes}
use Rattle.http.specs.StatusCode.{reason_phrase}
use Rattle.http_wire.specs.declared.answer.TheConstants.{VERSION, LINES_TO_SIZE, LINES_FROM_SIZE}
use Rattle.http_wire.specs.declared.fixed.TheConstants.{PAGE_HEAD, PAGE_TAIL}
use Rattle.owned_values.specs.declared.attributes.Attribute.{Attribute}
use Rattle.http_wire.specs.Answers.{status_line, page_lines, field_line, location_line, cookie_line, answer, page}
use Rattle.http_wire.specs.Vouched.{escaped_name, attributes_form, vouched_answer}

-- ---- pieces

abbrev joined : List (Bor (List ℕ)) → List ℕ
joined pieces = flat_map (λ (p : Bor (List ℕ)). p.now) pieces

-- a piece that is still to come has room behind those before it
pub piece_within : (pieces : List (Bor (List ℕ))) (i : ℕ) (d : Bor (List ℕ)) → i < length pieces →
    length (flat_map (λ (p : Bor (List ℕ)). p.now) (take i pieces)) + length (get_or pieces i d).now ≤ length (flat_map (λ (p : Bor (List ℕ)). p.now) pieces)
piece_within pieces i d within =
    let all : joined pieces ≡ joined (take (i + 1) pieces) ++ joined (drop (i + 1) pieces) =
    ap joined (sym (take-append-drop (i + 1) pieces)) ∙ flat_map-append (λ (p : Bor (List ℕ)). p.now) (take (i + 1) pieces) (drop (i + 1) pieces) in
    let one : joined (take (i + 1) pieces) ≡ joined (take i pieces) ++ ((get_or pieces i d).now ++ []) =
    ap joined (take_more pieces i d within) ∙ flat_map-append (λ (p : Bor (List ℕ)). p.now) (take i pieces) (get_or pieces i d ∷ []) in
    omega (
      arith,
      ap length all,
      ap length one,
      length-append (joined (take (i + 1) pieces)) (joined (drop (i + 1) pieces)),
      length-append (joined (take i pieces)) ((get_or pieces i d).now ++ []),
      length-append (get_or pieces i d).now [],
    )

-- ---- an answer

-- the pieces of an answer up to what stands behind its own lines
abbrev head_of : List ℕ → List ℕ → List ℕ → List ℕ → List ℕ
head_of status phrase size rest =
    VERSION.now ++ (status ++ (codes " " ++ (phrase ++ (LINES_TO_SIZE.now ++ (size ++ (LINES_FROM_SIZE.now ++ rest))))))

regroup : (version status space phrase end type name colon size others rest : List ℕ) →
    (version ++ status ++ space ++ phrase ++ end) ++ (type ++ (name ++ colon ++ size ++ end) ++ others) ++ rest
    ≡ version ++ (status ++ (space ++ (phrase ++ (end ++ (type ++ (name ++ (colon ++ (size ++ (end ++ (others ++ rest))))))))))
regroup version status space phrase end type name colon size others rest = simp append_assoc

lines_group : (type size store connection : List ℕ) → type ++ size ++ store ++ connection ≡ type ++ size ++ (store ++ connection)
lines_group type size store connection = simp append_assoc

head_group : (status : ℕ) (size : ℕ) (rest : List ℕ) →
    status_line status ++ page_lines size ++ rest ≡ head_of (decimal status) (unwrap_or (reason_phrase status) []) (decimal size) rest
head_group status size rest =
    ap (λ lines. status_line status ++ lines ++ rest)
    (lines_group (field_line (codes "Content-Type") (codes "text/html; charset=utf-8")) (field_line (codes "Content-Length") (decimal size))
    (field_line (codes "Cache-Control") (codes "no-store")) (field_line (codes "Connection") (codes "close")))
    ∙ regroup (codes "HTTP/1.1 ") (decimal status) (codes " ") (unwrap_or (reason_phrase status) []) crlf_bytes
    (field_line (codes "Content-Type") (codes "text/html; charset=utf-8")) (codes "Content-Length") (codes ": ") (decimal size)
    (field_line (codes "Cache-Control") (codes "no-store") ++ field_line (codes "Connection") (codes "close")) rest

parts_group : (line lines location cookie end body : List ℕ) →
    line ++ lines ++ location ++ cookie ++ end ++ body ≡ line ++ lines ++ (location ++ (cookie ++ (end ++ body)))
parts_group line lines location cookie end body = simp append_assoc

pub whole_answer : (status : ℕ) (location cookie : Option (List ℕ)) (body : List ℕ) →
    answer status location cookie body
    ≡ head_of (decimal status) (unwrap_or (reason_phrase status) []) (decimal (length body)) (location_line location ++ (cookie_line cookie ++ (crlf_bytes ++ body)))
unfolding answer
whole_answer status location cookie body =
    parts_group (status_line status) (page_lines (length body)) (location_line location) (cookie_line cookie) crlf_bytes body
    ∙ head_group status (length body) (location_line location ++ (cookie_line cookie ++ (crlf_bytes ++ body)))

-- ---- a page

paragraph_group : (head label number space name tail : List ℕ) →
    head ++ (label ++ number ++ space ++ name) ++ tail ≡ head ++ (label ++ (number ++ (space ++ (name ++ tail))))
paragraph_group head label number space name tail = simp append_assoc

pub length_page : (label number space name : List ℕ) →
    length (page (label ++ number ++ space ++ name)) ≡ 30 + length label + length number + length space + length name + 18
length_page label number space name =
    let paragraph = label ++ number ++ space ++ name in
    omega (
      arith,
      length-append (PAGE_HEAD.now ++ paragraph) PAGE_TAIL.now,
      length-append PAGE_HEAD.now paragraph,
      length-append (label ++ number ++ space) name,
      length-append (label ++ number) space,
      length-append label number,
    )

-- the body is a part of the answer
pub body_within : (status : ℕ) (location cookie : Option (List ℕ)) (body : List ℕ) → length body ≤ length (answer status location cookie body)
unfolding answer
body_within status location cookie body =
    omega (arith, length-append (status_line status ++ page_lines (length body) ++ location_line location ++ cookie_line cookie ++ crlf_bytes) body)

-- the pieces of a page are its answer
pub page_pieces : (status number : ℕ) (status_text phrase size label number_text space name : List ℕ) →
    status_text ≡ decimal status → phrase ≡ unwrap_or (reason_phrase status) [] → number_text ≡ decimal number →
    size ≡ decimal (30 + length label + length number_text + length space + length name + 18) →
    head_of status_text phrase size (codes "\r\n" ++ (PAGE_HEAD.now ++ (label ++ (number_text ++ (space ++ (name ++ (PAGE_TAIL.now ++ [])))))))
    ≡ answer status None None (page (label ++ decimal number ++ space ++ name))
page_pieces status number status_text phrase size label number_text space name is_status is_phrase is_number is_size =
    let body = page (label ++ decimal number ++ space ++ name) in
    let same_size : size ≡ decimal (length body) =
    is_size ∙ ap decimal (sym (length_page label number_text space name)) ∙ ap (λ xs. decimal (length (page (label ++ xs ++ space ++ name)))) is_number in
    let same_body : PAGE_HEAD.now ++ (label ++ (number_text ++ (space ++ (name ++ (PAGE_TAIL.now ++ []))))) ≡ body =
    ap (λ xs. PAGE_HEAD.now ++ (label ++ (xs ++ (space ++ (name ++ PAGE_TAIL.now))))) is_number
    ∙ sym (paragraph_group PAGE_HEAD.now label (decimal number) space name PAGE_TAIL.now) in
    (λ i. head_of (is_status i) (is_phrase i) (same_size i) (codes "\r\n" ++ same_body i))
    ∙ sym (whole_answer status None None body)

-- ---- all bytes of an answer

behind_old : (old line lines : List ℕ) → old ++ (line ++ lines ++ []) ≡ old ++ line ++ lines
behind_old old line lines = simp (append_assoc, append-nil)

pub head_steps : (status size : ℕ) (status_text phrase size_text old new : List ℕ) → status_text ≡ decimal status → phrase ≡ unwrap_or (reason_phrase status) [] →
    size_text ≡ decimal size → new ≡ old ++ head_of status_text phrase size_text [] → new ≡ old ++ status_line status ++ page_lines size
head_steps status size status_text phrase size_text old new is_status is_phrase is_size is =
    is ∙ (λ i. old ++ head_of (is_status i) (is_phrase i) (is_size i) []) ∙ ap (λ xs. old ++ xs) (sym (head_group status size []))
    ∙ behind_old old (status_line status) (page_lines size)

-- the line of a field that is given or not
abbrev given_line : List ℕ → Option (Bor (List ℕ)) → List ℕ → List ℕ
given_line name value end = option_map_or (λ (text : Bor (List ℕ)). name ++ text.now ++ end) value []

same_location : (location : Option (Bor (List ℕ))) → given_line (codes "Location: ") location (codes "\r\n") ≡ location_line (option_map (λ (text : Bor (List ℕ)). text.now) location)
same_location None = refl
same_location (Some text) = refl

same_cookie : (cookie : Option (Bor (List ℕ))) → given_line (codes "Set-Cookie: ") cookie (codes "; Path=/; HttpOnly\r\n") ≡ cookie_line (option_map (λ (text : Bor (List ℕ)). text.now) cookie)
same_cookie None = refl
same_cookie (Some text) = grouped text.now (codes "; Path=/; HttpOnly") crlf_bytes
  where
    grouped : (value more end : List ℕ) → codes "Set-Cookie: " ++ value ++ (more ++ end) ≡ codes "Set-Cookie: " ++ (value ++ more) ++ end
    grouped value more end = simp append_assoc

pub answer_steps : (status : ℕ) (location cookie : Option (Bor (List ℕ))) (body none one two three four five : List ℕ) → none ≡ [] →
    one ≡ none ++ status_line status ++ page_lines (length body) → two ≡ one ++ given_line (codes "Location: ") location (codes "\r\n")
    → three ≡ two ++ given_line (codes "Set-Cookie: ") cookie (codes "; Path=/; HttpOnly\r\n") → four ≡ three ++ codes "\r\n" → five ≡ four ++ body →
    five ≡ answer status (option_map (λ (text : Bor (List ℕ)). text.now) location) (option_map (λ (text : Bor (List ℕ)). text.now) cookie) body
unfolding answer
answer_steps status location cookie body none one two three four five is_none is_one is_two is_three is_four is_five =
    let head : one ≡ status_line status ++ page_lines (length body) =
    is_one ∙ ap (λ xs. xs ++ status_line status ++ page_lines (length body)) is_none in
    is_five
    ∙ ap (λ xs. xs ++ body) (is_four ∙ ap (λ xs. xs ++ codes "\r\n") (is_three ∙ (λ i. is_two i ++ same_cookie cookie i) ∙ (λ i. head i ++ same_location location i
    ++ cookie_line (option_map (λ (text : Bor (List ℕ)). text.now) cookie))))

-- and of one that vouches for someone
vouched_group : (line lines user name attributes form end : List ℕ) →
    line ++ lines ++ user ++ name ++ (end ++ attributes) ++ form ++ (end ++ end) ≡ line ++ lines ++ (user ++ name ++ end) ++ (attributes ++ form ++ end) ++ end
vouched_group line lines user name attributes form end = simp append_assoc

pub vouched_steps : (name : List ℕ) (attributes : List Attribute) (form none one two three four five six : List ℕ) → form ≡ attributes_form attributes → none ≡ [] →
    one ≡ none ++ status_line 200 ++ page_lines 0 → two ≡ one ++ codes "Remote-User: " → three ≡ two ++ escaped_name name → four ≡ three ++ codes "\r\nRemote-Attributes: "
    → five ≡ four ++ form → six ≡ five ++ codes "\r\n\r\n" → six ≡ vouched_answer name attributes
unfolding vouched_answer
vouched_steps name attributes form none one two three four five six is_form is_none is_one is_two is_three is_four is_five is_six =
    let head : one ≡ status_line 200 ++ page_lines 0 = is_one ∙ ap (λ xs. xs ++ status_line 200 ++ page_lines 0) is_none in
    let middle : four ≡ status_line 200 ++ page_lines 0 ++ codes "Remote-User: " ++ escaped_name name ++ codes "\r\nRemote-Attributes: " =
    is_four ∙ ap (λ xs. xs ++ codes "\r\nRemote-Attributes: ") (is_three ∙ ap (λ xs. xs ++ escaped_name name) (is_two ∙ ap (λ xs. xs ++ codes "Remote-User: ") head)) in
    is_six
    ∙ ap (λ xs. xs ++ codes "\r\n\r\n") (is_five ∙ (λ i. middle i ++ is_form i))
    ∙ vouched_group (status_line 200) (page_lines 0) (codes "Remote-User: ") (escaped_name name) (codes "Remote-Attributes: ") (attributes_form attributes) crlf_bytes
