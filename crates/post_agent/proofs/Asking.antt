-- Requests are read as what they ask for.
use Rattle.std.proofs.Common.{◌≡◌, ℕ, zero, suc, ◌+◌, ◌%◌, ◌^◌, ◌<◌, ◌≤◌, Bool, true, false, cond, ◌==◌, ◌&&◌, not, nat_eq, nat_lt, nat_le, List, [], ◌∷◌, ◌++◌, length, take, reverse, codes, Option, None, Some, IfSome, IsTrue, Result, Ok, Err, refl, sym, ap, ◌∙◌, subst, arith, append_assoc, append-nil, IsUtf8, lit≤, lit<, IsAscii}
use Rattle.std.specs.Prelude.{All, decimal}
use Rattle.std.specs.Char.{is_ascii_digit, is_ascii_graphic}
use Rattle.std.specs.List.{list_all, starts_with}
use Rattle.std.specs.Option.{option_map}
use Rattle.std.specs.Str.Parse.{digits_value}
use Rattle.std.proofs.lemmas.Bool.Decides.{nat_tests}
use Rattle.std.proofs.lemmas.Fmt.{decimal_by_steps, decimal_is_IsNumeral, decimal_nonempty, length-decimal-le}
use Rattle.std.proofs.lemmas.List.{reverse-append, reverse-reverse, take_all, length-append}
use Rattle.std.proofs.lemmas.List.Elements.{All-nil, All-cons, All-append}
use Rattle.std.proofs.lemmas.List.Folds.{list_all-append}
use Rattle.std.proofs.lemmas.Str.{IsUtf8-from_ascii, is_utf8-from_IsUtf8}
use Rattle.httparse.specs.Grammar.{is_token_byte, is_uri_byte, is_value_byte, is_ows, AllPass, crlf, Field, IsField, RequestHead, print_request, skip_ows, trim_ows}
use Rattle.xml_spec.proofs.Tests.{both_true, and_true}
use Rattle.http_wire.specs.declared.limits.TheConstants.{HEAD_LIMIT, BODY_LIMIT}
use Rattle.http_wire.specs.declared.method.Method.TheVariants.{Get, Post}
use Rattle.http_wire.specs.Clients.{field, given_field}
use Rattle.http_wire.specs.Heads.{end_of_lines, head_end, IsHead, parts_of}
use Rattle.http_wire.specs.Lines.{text_of, size_within, is_length, size_of}
use Rattle.http_wire.specs.Requests.{Reads, Reading, More, Refused, reading_behind}
use Rattle.http_wire.proofs.Deciding.{reads_behind}
use Rattle.http_wire.proofs.Extending.{head_end_append}
use Rattle.xml_spec.specs.Bytes.{is_empty}
use Rattle.post_agent.specs.declared.site.Site.{Site}
use Rattle.post_agent.specs.declared.site.Site.TheVariants.{Sp, Idp}
use Rattle.post_agent.specs.Laws.{IsVisible, asked, EachRequestIsRead}
use Rattle.post_agent.specs.Requests.{form_type, get, post_head}
use Rattle.post_agent.specs.Sites.{host_of}
use Rattle.post_agent.proofs.Cutting.{is_without, take-append, drop-append}

-- ---- visible texts

implied : (p q : ℕ → Bool) → ((b : ℕ) → p b ≡ true → q b ≡ true) → (xs : List ℕ) → list_all p xs ≡ true → list_all q xs ≡ true
implied p q one [] h = refl
implied p q one (b ∷ xs) h =
    let parts = both_true (p b) (list_all p xs) h in
    and_true _ _ (one b parts.0) (implied p q one xs parts.1)

low : (b : ℕ) → is_ascii_graphic b ≡ true → 33 ≤ b
low b h = grind (arith, nat_tests)

high : (b : ℕ) → is_ascii_graphic b ≡ true → b ≤ 126
high b h = grind (arith, nat_tests)

value_byte : (b : ℕ) → 33 ≤ b → b ≤ 126 → is_value_byte b ≡ true
value_byte b l h = grind (arith, nat_tests)

uri_byte : (b : ℕ) → 33 ≤ b → b ≤ 126 → is_uri_byte b ≡ true
uri_byte b l h = grind (arith, nat_tests)

no_return : (b : ℕ) → 33 ≤ b → not (b == 13) ≡ true
no_return b l = grind (arith, nat_tests)

no_white : (b : ℕ) → 33 ≤ b → is_ows b ≡ false
no_white b l = grind (arith, nat_tests)

visible_value : (text : List ℕ) → list_all is_ascii_graphic text ≡ true → list_all is_value_byte text ≡ true
visible_value = implied is_ascii_graphic is_value_byte (λ b h. value_byte b (low b h) (high b h))

visible_uri : (text : List ℕ) → list_all is_ascii_graphic text ≡ true → list_all is_uri_byte text ≡ true
visible_uri = implied is_ascii_graphic is_uri_byte (λ b h. uri_byte b (low b h) (high b h))

visible_without : (text : List ℕ) → list_all is_ascii_graphic text ≡ true → is_without 13 text ≡ true
visible_without = implied is_ascii_graphic (λ b. not (b == 13)) (λ b h. no_return b (low b h))

visible_ascii : (text : List ℕ) → list_all is_ascii_graphic text ≡ true → IsAscii text
visible_ascii [] h i = omega arith
visible_ascii (b ∷ text) h zero = let most = high b (both_true (is_ascii_graphic b) _ h).0 in omega arith
visible_ascii (b ∷ text) h (suc i) = visible_ascii text (both_true (is_ascii_graphic b) _ h).1 i

visible_text : (text : List ℕ) → list_all is_ascii_graphic text ≡ true → IsUtf8 text
visible_text text h = IsUtf8-from_ascii text (visible_ascii text h)

all_pass : (test : ℕ → Bool) (bytes : List ℕ) → list_all test bytes ≡ true → AllPass test bytes
all_pass test [] all = All-nil (λ b. IsTrue (test b))
all_pass test (b ∷ bytes) all =
    let parts = both_true (test b) (list_all test bytes) all in
    All-cons (λ b. IsTrue (test b)) b bytes parts.0 (all_pass test bytes parts.1)

-- no white space stands at either end
skipped : (text : List ℕ) → list_all is_ascii_graphic text ≡ true → skip_ows text ≡ text
skipped [] h = refl
skipped (b ∷ text) h =
    ap (λ t. cond t (skip_ows text) (b ∷ text)) (no_white b (low b (both_true (is_ascii_graphic b) _ h).0))

visible_reverse : (text : List ℕ) → list_all is_ascii_graphic text ≡ true → list_all is_ascii_graphic (reverse text) ≡ true
visible_reverse [] h = refl
visible_reverse (b ∷ text) h =
    let parts = both_true (is_ascii_graphic b) (list_all is_ascii_graphic text) h in
    ap (list_all is_ascii_graphic) (reverse-append (b ∷ []) text)
    ∙ list_all-append is_ascii_graphic (reverse text) (b ∷ [])
    ∙ and_true _ _ (visible_reverse text parts.1) (and_true _ _ parts.0 refl)

trimmed : (text : List ℕ) → list_all is_ascii_graphic text ≡ true → trim_ows (32 ∷ text) ≡ text
unfolding trim_ows
trimmed text h =
    ap (λ xs. reverse (skip_ows (reverse xs))) (skipped text h)
    ∙ ap reverse (skipped (reverse text) (visible_reverse text h))
    ∙ reverse-reverse text

-- ---- where a head ends

-- lines, each with its end, and an empty line
abbrev written : List (List ℕ) → List ℕ → List ℕ
written [] body = 13 ∷ 10 ∷ body
written (line ∷ lines) body = line ++ 13 ∷ 10 ∷ written lines body

-- each line has a byte, and none is CR
abbrev AreLines : List (List ℕ) → Type 0
AreLines [] = Unit {0}
AreLines (line ∷ lines) = (0 < length line) × (is_without 13 line ≡ true) × AreLines lines

not_true : (t : Bool) → not t ≡ true → t ≡ false
not_true true e = absurd (cc)
not_true false e = refl

other_side : (b : ℕ) → (b == 13) ≡ false → (13 == b) ≡ false
other_side b h = grind (arith, nat_tests)

-- the bytes of a line are passed over
behind_line : (line rest : List ℕ) → is_without 13 line ≡ true → end_of_lines (line ++ rest) ≡ option_map (λ n. length line + n) (end_of_lines rest)
behind_line [] rest h = same (end_of_lines rest)
  where
    same : (o : Option ℕ) → o ≡ option_map (λ n. 0 + n) o
    same None = refl
    same (Some n) = ap Some (omega arith)
behind_line (b ∷ line) rest h =
    let parts = both_true (not (b == 13)) (is_without 13 line) h in
    let other = other_side b (not_true (b == 13) parts.0) in
    ap (λ t. cond (t && starts_with nat_eq (line ++ rest) (codes "\n\r\n")) (Some 4) (option_map suc (end_of_lines (line ++ rest)))) other
    ∙ ap (option_map suc) (behind_line line rest parts.1) ∙ more (end_of_lines rest)
  where
    more : (o : Option ℕ) → option_map suc (option_map (λ n. length line + n) o) ≡ option_map (λ n. length (b ∷ line) + n) o
    more None = refl
    more (Some n) = ap Some (omega arith)

-- the end of a line with a line behind it is no end of a head
line_behind : (c : ℕ) (rest : List ℕ) → (13 == c) ≡ false → end_of_lines (13 ∷ 10 ∷ c ∷ rest) ≡ option_map suc (option_map suc (end_of_lines (c ∷ rest)))
line_behind c rest other =
    ap (λ t. cond (t && starts_with nat_eq rest (codes "\n")) (Some 4) (option_map suc (option_map suc (end_of_lines (c ∷ rest))))) other

head_is_written : (line : List ℕ) (lines : List (List ℕ)) (body : List ℕ) → AreLines (line ∷ lines) →
    end_of_lines (written (line ∷ lines) body) ≡ Some (length (written (line ∷ lines) []))
head_is_written line [] body are =
    behind_line line (13 ∷ 10 ∷ 13 ∷ 10 ∷ body) are.1
    ∙ ap Some (sym (length-append line (13 ∷ 10 ∷ 13 ∷ 10 ∷ [])))
head_is_written line ([] ∷ lines) body are = absurd (let some = are.2.0 in omega arith)
head_is_written line ((c ∷ next) ∷ lines) body are =
    let parts = both_true (not (c == 13)) (is_without 13 next) are.2.1 in
    let other = other_side c (not_true (c == 13) parts.0) in
    let rest = next ++ 13 ∷ 10 ∷ written lines body in
    let later = written ((c ∷ next) ∷ lines) [] in
    behind_line line (13 ∷ 10 ∷ c ∷ rest) are.1
    ∙ ap (option_map (λ n. length line + n)) (line_behind c rest other
    ∙ ap (λ o. option_map suc (option_map suc o)) (head_is_written (c ∷ next) lines body are.2))
    ∙ ap Some (sym (length-append line (13 ∷ 10 ∷ later)))

written-append : (lines : List (List ℕ)) (body : List ℕ) → written lines body ≡ written lines [] ++ body
written-append [] body = refl
written-append (line ∷ lines) body =
    ap (λ xs. line ++ 13 ∷ 10 ∷ xs) (written-append lines body) ∙ sym (append_assoc line (13 ∷ 10 ∷ written lines []) body)

-- ---- the head of a request

abbrev request_tree : List ℕ → List ℕ → List Field → RequestHead
request_tree method path fields =
    record { blank = []; method = method; target = path; minor = 1; line_end = crlf; fields = fields; last = crlf }

abbrev first_line : List ℕ → List ℕ → List ℕ
first_line method path = method ++ codes " " ++ path ++ codes " HTTP/1.1"

abbrev line : List ℕ → List ℕ → List ℕ
line name value = name ++ codes ": " ++ value

abbrev cookie_lines : Option (List ℕ) → List (List ℕ)
cookie_lines None = []
cookie_lines (Some cookie) = line (codes "Cookie") cookie ∷ []

-- the lines and the fields of a request, with others behind them
abbrev lines_of : List ℕ → Site → Option (List ℕ) → List ℕ → List (List ℕ) → List (List ℕ)
lines_of method site cookie path others = first_line method path ∷ line (codes "Host") (host_of site) ∷ (cookie_lines cookie ++ others)

abbrev fields_of : Site → Option (List ℕ) → List Field → List Field
fields_of site cookie others = field (codes "Host") (host_of site) ∷ (given_field (codes "Cookie") cookie ++ others)

-- what a form has more
abbrev form_lines : ℕ → List (List ℕ)
form_lines size = line (codes "Content-Type") form_type ∷ line (codes "Content-Length") (decimal size) ∷ []

abbrev form_fields : ℕ → List Field
form_fields size = field (codes "Content-Type") form_type ∷ field (codes "Content-Length") (decimal size) ∷ []

two : (a v e t : List ℕ) → ((a ++ (v ++ e)) ++ (t ++ e)) ++ [] ++ e ≡ (a ++ v) ++ (e ++ (t ++ (e ++ e)))
two a v e t = simp (append_assoc, append-nil)

three : (a v e t u : List ℕ) → ((a ++ (v ++ e)) ++ (t ++ e)) ++ (u ++ e) ++ e ≡ (a ++ v) ++ (e ++ (t ++ (e ++ (u ++ (e ++ e)))))
three a v e t u = simp append_assoc

four : (a v e t k n : List ℕ) →
    ((a ++ (v ++ e)) ++ (t ++ e)) ++ [] ++ (k ++ e) ++ (n ++ e) ++ e ≡ (a ++ v) ++ (e ++ (t ++ (e ++ (k ++ (e ++ (n ++ (e ++ e)))))))
four a v e t k n = simp (append_assoc, append-nil)

five : (a v e t u k n : List ℕ) →
    ((a ++ (v ++ e)) ++ (t ++ e)) ++ (u ++ e) ++ (k ++ e) ++ (n ++ e) ++ e
    ≡ (a ++ v) ++ (e ++ (t ++ (e ++ (u ++ (e ++ (k ++ (e ++ (n ++ (e ++ e)))))))))
five a v e t u k n = simp append_assoc

get_written : (site : Site) (cookie : Option (List ℕ)) (path : List ℕ) →
    get site cookie path ≡ written (lines_of (codes "GET") site cookie path []) []
get_written site None path = two (codes "GET" ++ codes " " ++ path) (codes " HTTP/1.1") (codes "\r\n") (line (codes "Host") (host_of site))
get_written site (Some cookie) path =
    three (codes "GET" ++ codes " " ++ path) (codes " HTTP/1.1") (codes "\r\n") (line (codes "Host") (host_of site)) (line (codes "Cookie") cookie)

post_written : (site : Site) (cookie : Option (List ℕ)) (path : List ℕ) (size : ℕ) →
    post_head site cookie path size ≡ written (lines_of (codes "POST") site cookie path (form_lines size)) []
post_written site None path size =
    four (codes "POST" ++ codes " " ++ path) (codes " HTTP/1.1") (codes "\r\n") (line (codes "Host") (host_of site))
    (line (codes "Content-Type") form_type) (line (codes "Content-Length") (decimal size))
post_written site (Some cookie) path size =
    five (codes "POST" ++ codes " " ++ path) (codes " HTTP/1.1") (codes "\r\n") (line (codes "Host") (host_of site)) (line (codes "Cookie") cookie)
    (line (codes "Content-Type") form_type) (line (codes "Content-Length") (decimal size))

print_two : (m s p v e t : List ℕ) →
    (m ++ s ++ p ++ (v ++ e)) ++ (t ++ e) ++ [] ++ e ≡ (m ++ (s ++ p)) ++ v ++ e ++ ((t ++ e) ++ [] ++ e)
print_two m s p v e t = simp (append_assoc, append-nil)

print_three : (m s p v e t u : List ℕ) →
    (m ++ s ++ p ++ (v ++ e)) ++ (t ++ e) ++ (u ++ e) ++ e ≡ (m ++ (s ++ p)) ++ v ++ e ++ ((t ++ e) ++ ((u ++ e) ++ []) ++ e)
print_three m s p v e t u = simp (append_assoc, append-nil)

print_four : (m s p v e t k n : List ℕ) →
    (m ++ s ++ p ++ (v ++ e)) ++ (t ++ e) ++ [] ++ (k ++ e) ++ (n ++ e) ++ e
    ≡ (m ++ (s ++ p)) ++ v ++ e ++ ((t ++ e) ++ ((k ++ e) ++ ((n ++ e) ++ [])) ++ e)
print_four m s p v e t k n = simp (append_assoc, append-nil)

print_five : (m s p v e t u k n : List ℕ) →
    (m ++ s ++ p ++ (v ++ e)) ++ (t ++ e) ++ (u ++ e) ++ (k ++ e) ++ (n ++ e) ++ e
    ≡ (m ++ (s ++ p)) ++ v ++ e ++ ((t ++ e) ++ ((u ++ e) ++ ((k ++ e) ++ ((n ++ e) ++ []))) ++ e)
print_five m s p v e t u k n = simp (append_assoc, append-nil)

get_printed : (site : Site) (cookie : Option (List ℕ)) (path : List ℕ) →
    get site cookie path ≡ print_request (request_tree (codes "GET") path (fields_of site cookie []))
unfolding print_request
get_printed site None path =
    print_two (codes "GET") (codes " ") path (codes " HTTP/1.1") (codes "\r\n") (line (codes "Host") (host_of site))
get_printed site (Some cookie) path =
    print_three (codes "GET") (codes " ") path (codes " HTTP/1.1") (codes "\r\n") (line (codes "Host") (host_of site)) (line (codes "Cookie") cookie)

post_printed : (site : Site) (cookie : Option (List ℕ)) (path : List ℕ) (size : ℕ) →
    post_head site cookie path size ≡ print_request (request_tree (codes "POST") path (fields_of site cookie (form_fields size)))
unfolding print_request
post_printed site None path size =
    print_four (codes "POST") (codes " ") path (codes " HTTP/1.1") (codes "\r\n") (line (codes "Host") (host_of site))
    (line (codes "Content-Type") form_type) (line (codes "Content-Length") (decimal size))
post_printed site (Some cookie) path size =
    print_five (codes "POST") (codes " ") path (codes " HTTP/1.1") (codes "\r\n") (line (codes "Host") (host_of site)) (line (codes "Cookie") cookie)
    (line (codes "Content-Type") form_type) (line (codes "Content-Length") (decimal size))

-- ---- the digits of a size

digit_visible : (n : ℕ) → n < 10 → list_all is_ascii_graphic ((48 + n) ∷ []) ≡ true
digit_visible n below = rw (let is : is_ascii_graphic (48 + n) ≡ true = grind (arith, nat_tests) in is) refl

digits_visible : (n : ℕ) → n < 2 ^ 64 → list_all is_ascii_graphic (decimal n) ≡ true
digits_visible =
    decimal_by_steps (λ n ds. list_all is_ascii_graphic ds ≡ true) digit_visible
    (λ n ds above so_far. list_all-append is_ascii_graphic ds ((48 + n % 10) ∷ []) ∙ and_true _ _ so_far (digit_visible (n % 10) (omega arith)))

a_digit : (n : ℕ) → n < 10 → list_all is_ascii_digit ((48 + n) ∷ []) ≡ true
a_digit n below = rw (let is : is_ascii_digit (48 + n) ≡ true = grind (arith, nat_tests) in is) refl

are_digits : (n : ℕ) → n < 2 ^ 64 → list_all is_ascii_digit (decimal n) ≡ true
are_digits =
    decimal_by_steps (λ n ds. list_all is_ascii_digit ds ≡ true) a_digit
    (λ n ds above so_far. list_all-append is_ascii_digit ds ((48 + n % 10) ∷ []) ∙ and_true _ _ so_far (a_digit (n % 10) (omega arith)))

-- ---- the lines and the fields are good

host_visible : (site : Site) → list_all is_ascii_graphic (host_of site) ≡ true
host_visible Sp = refl
host_visible Idp = refl

without : (a b : List ℕ) → is_without 13 a ≡ true → is_without 13 b ≡ true → is_without 13 (a ++ b) ≡ true
without a b h k = list_all-append (λ c. not (c == 13)) a b ∙ and_true _ _ h k

good_line : (name value : List ℕ) → is_without 13 name ≡ true → list_all is_ascii_graphic value ≡ true → is_without 13 (line name value) ≡ true
good_line name value h k =
    without (name ++ codes ": ") value (without name (codes ": ") h refl) (visible_without value k)

first_is_good : (method path : List ℕ) → is_without 13 method ≡ true → list_all is_ascii_graphic path ≡ true →
    is_without 13 (first_line method path) ≡ true
first_is_good method path h k =
    without (method ++ codes " " ++ path) (codes " HTTP/1.1")
    (without (method ++ codes " ") path (without method (codes " ") h refl) (visible_without path k)) refl

cookie_is_good : (cookie : Option (List ℕ)) (others : List (List ℕ)) → IfSome cookie IsVisible → AreLines others → AreLines (cookie_lines cookie ++ others)
cookie_is_good None others is good = good
cookie_is_good (Some cookie) others is good = (omega arith, good_line (codes "Cookie") cookie refl is.visible, good)

form_is_good : (size : ℕ) → size < 2 ^ 64 → AreLines (form_lines size)
form_is_good size small =
    let digits = good_line (codes "Content-Length") (decimal size) refl (digits_visible size small) in
    (omega arith, good_line (codes "Content-Type") form_type refl refl, (omega arith, digits, tt))

are_good : (method : List ℕ) (site : Site) (cookie : Option (List ℕ)) (path : List ℕ) (others : List (List ℕ)) → 0 < length (first_line method path) →
    is_without 13 method ≡ true → IsVisible path → IfSome cookie IsVisible → AreLines others → AreLines (lines_of method site cookie path others)
are_good method site cookie path others some clean is good rest =
    let host = good_line (codes "Host") (host_of site) refl (host_visible site) in
    (some, first_is_good method path clean is.visible, (omega arith, host, cookie_is_good cookie others good rest))

value_field : (name value : List ℕ) → list_all is_token_byte name ≡ true → 0 < length name → list_all is_ascii_graphic value ≡ true → IsField (field name value)
value_field name value token some visible = record {
  name = (some, all_pass is_token_byte name token);
  raw = all_pass is_value_byte (32 ∷ value) (visible_value value visible);
}

form_is_valid : (size : ℕ) → size < 2 ^ 64 → All IsField (form_fields size)
unfolding is_token_byte
form_is_valid size small =
    All-cons IsField (field (codes "Content-Type") form_type) (field (codes "Content-Length") (decimal size) ∷ [])
    (value_field (codes "Content-Type") form_type refl (lit< tt) refl)
    (All-cons IsField (field (codes "Content-Length") (decimal size)) []
    (value_field (codes "Content-Length") (decimal size) refl (lit< tt) (digits_visible size small)) (All-nil IsField))

cookie_is_valid : (cookie : Option (List ℕ)) → IfSome cookie IsVisible → All IsField (given_field (codes "Cookie") cookie)
unfolding is_token_byte
cookie_is_valid None is = All-nil IsField
cookie_is_valid (Some cookie) is =
    All-cons IsField (field (codes "Cookie") cookie) [] (value_field (codes "Cookie") cookie refl (lit< tt) is.visible) (All-nil IsField)

are_valid : (site : Site) (cookie : Option (List ℕ)) (others : List Field) → IfSome cookie IsVisible → All IsField others → All IsField (fields_of site cookie others)
unfolding is_token_byte
are_valid site cookie others is rest =
    All-cons IsField (field (codes "Host") (host_of site)) (given_field (codes "Cookie") cookie ++ others)
    (value_field (codes "Host") (host_of site) refl (lit< tt) (host_visible site))
    (All-append IsField (given_field (codes "Cookie") cookie) others (cookie_is_valid cookie is) rest)

few_fields : (site : Site) (cookie : Option (List ℕ)) (others : List Field) → length others ≤ 2 → length (fields_of site cookie others) ≤ 64
few_fields site None others few = omega arith
few_fields site (Some cookie) others few = omega arith

-- the bytes of a head are just its tree
a_head : (bytes method path : List ℕ) (fields : List Field) → bytes ≡ print_request (request_tree method path fields) → list_all is_token_byte method ≡ true →
    0 < length method → IsVisible path → All IsField fields → length fields ≤ 64 → IsHead bytes (request_tree method path fields)
a_head bytes method path fields printed token some is valid few = record {
  read = (
    record {
      method = (some, all_pass is_token_byte method token);
      target = (is.some, all_pass is_uri_byte path (visible_uri path is.visible));
      target_text = visible_text path is.visible;
      minor = lit≤ tt;
      fields = valid;
    },
    printed ∙ sym (append-nil (print_request (request_tree method path fields))),
  );
  lines = few;
  target = is.visible;
}

-- ---- what is read of it

visible_read : (text : List ℕ) → list_all is_ascii_graphic text ≡ true → text_of (trim_ows (32 ∷ text)) ≡ Some text
visible_read text h =
    ap text_of (trimmed text h) ∙ ap (λ t. cond t (Some text) None) (is_utf8-from_IsUtf8 text (visible_text text h))

size_is_read : (size : ℕ) → size ≤ BODY_LIMIT → size_of Post [] (trim_ows (32 ∷ decimal size) ∷ []) ≡ Ok size
size_is_read size small =
    let fits : size < 2 ^ 64 = omega arith in
    let digits = decimal size in
    let some : 0 < length digits = decimal_nonempty size fits in
    let few : length digits ≤ 10 = length-decimal-le 10 size (omega arith) (omega arith) fits in
    let value : digits_value 10 digits ≡ size = (decimal_is_IsNumeral size fits).1 in
    let is : is_length digits ≡ true =
    and_true _ _ (and_true _ _ (not_empty digits some) (short (length digits) few)) (are_digits size fits) in
    ap (λ v. size_of Post [] (v ∷ [])) (trimmed digits (digits_visible size fits))
    ∙ ap (λ t. cond t (size_within (digits_value 10 digits)) (Err 400)) is
    ∙ ap size_within value
    ∙ ap (λ t. cond t (Err 413) (Ok size)) (not_above size small)
  where
    not_empty : (xs : List ℕ) → 0 < length xs → not (is_empty xs) ≡ true
    not_empty [] h = absurd (omega arith)
    not_empty (x ∷ xs) h = refl

    short : (n : ℕ) → n ≤ 10 → nat_le n 10 ≡ true
    short n h = grind (arith, nat_tests)

    not_above : (n : ℕ) → n ≤ 1048576 → nat_lt 1048576 n ≡ false
    not_above n h = grind (arith, nat_tests)

get_parts : (site : Site) (cookie : Option (List ℕ)) (path : List ℕ) → IfSome cookie IsVisible →
    reading_behind (parts_of (request_tree (codes "GET") path (fields_of site cookie []))) [] ≡ asked Get cookie path None []
get_parts site None path is = refl
get_parts site (Some cookie) path is = ap (λ found. asked Get found path None []) (visible_read cookie is.visible)

-- as many bytes as the head says
whole_body : (size : ℕ) (form : List ℕ) (cookie type : Option (List ℕ)) (path : List ℕ) → size ≡ length form →
    cond (nat_lt (length form) size) More (asked Post cookie path type (take size form)) ≡ asked Post cookie path type form
whole_body size form cookie type path same =
    ap (λ t. cond t More (asked Post cookie path type (take size form))) (not_below (length form) size (omega arith))
    ∙ ap (asked Post cookie path type) (take_all size form (omega arith))
  where
    not_below : (a b : ℕ) → b ≤ a → nat_lt a b ≡ false
    not_below a b h = grind (arith, nat_tests)

-- the request by the size that its head says
abbrev sized_by : Option (List ℕ) → Option (List ℕ) → List ℕ → Result ℕ ℕ → List ℕ → Reading
sized_by cookie type path (Err status) form = Refused status
sized_by cookie type path (Ok size) form = cond (nat_lt (length form) size) More (asked Post cookie path type (take size form))

post_parts : (site : Site) (cookie : Option (List ℕ)) (path form : List ℕ) → IfSome cookie IsVisible → length form ≤ BODY_LIMIT →
    reading_behind (parts_of (request_tree (codes "POST") path (fields_of site cookie (form_fields (length form))))) form
    ≡ asked Post cookie path (Some form_type) form
post_parts site None path form is small =
    ap (λ size. sized_by None (text_of (trim_ows (32 ∷ form_type))) path size form) (size_is_read (length form) small)
    ∙ ap (λ type. cond (nat_lt (length form) (length form)) More (asked Post None path type (take (length form) form))) (visible_read form_type refl)
    ∙ whole_body (length form) form None (Some form_type) path refl
post_parts site (Some cookie) path form is small =
    ap (λ size. sized_by (text_of (trim_ows (32 ∷ cookie))) (text_of (trim_ows (32 ∷ form_type))) path size form) (size_is_read (length form) small)
    ∙ (λ i. cond (nat_lt (length form) (length form)) More
    (asked Post (visible_read cookie is.visible i) path (visible_read form_type refl i) (take (length form) form)))
    ∙ whole_body (length form) form (Some cookie) (Some form_type) path refl

-- ---- requests

ends : (lines : List (List ℕ)) (bytes : List ℕ) → AreLines lines → 0 < length lines → bytes ≡ written lines [] → length bytes ≤ HEAD_LIMIT →
    head_end bytes ≡ Some (length bytes)
ends [] bytes are some is small = absurd (omega arith)
ends (one ∷ lines) bytes are some is small =
    ap end_of_lines (take_all HEAD_LIMIT bytes small) ∙ ap end_of_lines is ∙ head_is_written one lines [] are ∙ ap (λ xs. Some (length xs)) (sym is)

is_read : (bytes form : List ℕ) (head : RequestHead) (reading : Reading) → head_end bytes ≡ Some (length bytes) → IsHead bytes head →
    reading_behind (parts_of head) form ≡ reading → Reads (bytes ++ form) reading
is_read bytes form head reading ended is read =
    subst (Reads (bytes ++ form)) (ap (reading_behind (parts_of head)) (drop-append bytes form) ∙ read)
    (reads_behind (bytes ++ form) (length bytes) head (head_end_append bytes form (length bytes) ended)
    (subst (λ (xs : List ℕ). IsHead xs head) (sym (take-append bytes form)) is))

pub each_request_is_read : EachRequestIsRead
unfolding is_token_byte
each_request_is_read = record {
  get = λ site cookie path good is small.
      let bytes = get site cookie path in
      let fields = fields_of site cookie [] in
      let ended = ends (lines_of (codes "GET") site cookie path []) bytes
      (are_good (codes "GET") site cookie path [] (omega arith) refl is good tt) (omega arith) (get_written site cookie path) small in
      let head = a_head bytes (codes "GET") path fields (get_printed site cookie path) refl (lit< tt) is
      (are_valid site cookie [] good (All-nil IsField)) (few_fields site cookie [] (omega arith)) in
      subst (λ (xs : List ℕ). Reads xs (asked Get cookie path None [])) (append-nil bytes)
      (is_read bytes [] (request_tree (codes "GET") path fields) (asked Get cookie path None []) ended head (get_parts site cookie path good));
  post = λ site cookie path form good is short small.
      let size = length form in
      let bytes = post_head site cookie path size in
      let fields = fields_of site cookie (form_fields size) in
      let ended = ends (lines_of (codes "POST") site cookie path (form_lines size)) bytes
      (are_good (codes "POST") site cookie path (form_lines size) (omega arith) refl is good (form_is_good size (omega arith))) (omega arith)
      (post_written site cookie path size) small in
      let head = a_head bytes (codes "POST") path fields (post_printed site cookie path size) refl (lit< tt) is
      (are_valid site cookie (form_fields size) good (form_is_valid size (omega arith))) (few_fields site cookie (form_fields size) (omega arith)) in
      is_read bytes form (request_tree (codes "POST") path fields) (asked Post cookie path (Some form_type) form) ended head
      (post_parts site cookie path form good short);
}
