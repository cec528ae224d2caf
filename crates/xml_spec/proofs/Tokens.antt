-- A token is determined by the bytes that begin with it.
use Rattle.std.proofs.Common.{◌≡◌, ℕ, ◌<◌, Bool, true, false, ◌||◌, not, ◌==◌, List, [], ◌∷◌, ◌++◌, length, get_or, drop, codes, if◌then◌else◌, refl, sym, ◌∙◌, ap, append_assoc, arith}
use Rattle.xml_spec.specs.Ascii.{less_than, greater_than, ampersand}
use Rattle.xml_spec.specs.Bytes.{AllPass, begins_with}
use Rattle.xml_spec.specs.Syntax.{Reference, LessThan, GreaterThan, Ampersand, Apostrophe, QuotationMark, Decimal, Hexadecimal, print_reference, is_white, Tag, print_tag, IsTag, Characters, Refers, Section, CommentItem, ProcessingInstruction, EmptyTag, IsProcessingInstruction, Token, Alone, StartTag, EndTag, print_token, IsToken}
use Rattle.xml_spec.specs.Laws.{IsWhole}
use Rattle.xml_spec.proofs.Tests.{both_true}
use Rattle.xml_spec.proofs.Runs.{apart_at, same_run}
use Rattle.xml_spec.proofs.NameBytes.{is_name_byte, name_passes, name_begins}
use Rattle.xml_spec.proofs.References.{same_reference}
use Rattle.xml_spec.proofs.Tags.{Closes, white_is_no_name, tag_parts, same_tag}
use Rattle.xml_spec.proofs.Ends.{same_section, same_comment, same_value}

-- a byte of a run of characters
abbrev pub is_run_byte : ℕ → Bool
is_run_byte b = not (b == less_than || b == ampersand)

-- the kind of token that begins with these bytes
abbrev pub kind : List ℕ → ℕ
kind bytes =
    if get_or bytes 0 0 == 38 then 1
    else if get_or bytes 0 0 == 60 then
    (if get_or bytes 1 0 == 33 then (if get_or bytes 2 0 == 91 then 2 else 3)
    else if get_or bytes 1 0 == 63 then 4
    else if get_or bytes 1 0 == 47 then 5
    else 6)
    else 0

abbrev pub kind_of : Token → ℕ
kind_of (Alone (Characters b)) = 0
kind_of (Alone (Refers b)) = 1
kind_of (Alone (Section b)) = 2
kind_of (Alone (CommentItem b)) = 3
kind_of (Alone (ProcessingInstruction b1 b2 b3)) = 4
kind_of (EndTag b1 b2) = 5
kind_of (Alone (EmptyTag b)) = 6
kind_of (StartTag b) = 6

pub run_kind : (b : ℕ) (bytes : List ℕ) → is_run_byte b ≡ true → kind (b ∷ bytes) ≡ 0
run_kind b bytes h = grind arith

pub tag_kind : (z : List ℕ) → begins_with is_name_byte z ≡ true → kind (less_than ∷ z) ≡ 6
tag_kind [] h = refl
tag_kind (b ∷ bytes) h = grind arith

pub reference_kind : (r : Reference) (x : List ℕ) → kind (print_reference r ++ x) ≡ 1
reference_kind LessThan x = refl
reference_kind GreaterThan x = refl
reference_kind Ampersand x = refl
reference_kind Apostrophe x = refl
reference_kind QuotationMark x = refl
reference_kind (Decimal digits) x = refl
reference_kind (Hexadecimal digits) x = refl

pub characters_kind : (bytes x : List ℕ) → 0 < length bytes → AllPass is_run_byte bytes → kind (bytes ++ x) ≡ 0
characters_kind [] x h p = absurd (omega arith)
characters_kind (b ∷ bytes) x h p = run_kind b (bytes ++ x) (both_true (is_run_byte b) _ p).0

pub tag_begins : (tag : Tag) (x : List ℕ) → IsTag tag → begins_with is_name_byte (print_tag tag ++ x) ≡ true
tag_begins tag x v = ap (begins_with is_name_byte) (tag_parts tag x) ∙ name_begins tag.name _ v.name

pub token_kind : (t : Token) (x : List ℕ) → IsToken t → kind (print_token t ++ x) ≡ kind_of t
token_kind (Alone (Characters bytes)) x v = characters_kind bytes x v.0 v.1
token_kind (Alone (Refers r)) x v = reference_kind r x
token_kind (Alone (Section bytes)) x v = refl
token_kind (Alone (CommentItem bytes)) x v = refl
token_kind (Alone (ProcessingInstruction target space value)) x v = refl
token_kind (Alone (EmptyTag tag)) x v = tag_kind ((print_tag tag ++ codes "/>") ++ x)
    (ap (begins_with is_name_byte) (append_assoc (print_tag tag) (codes "/>") x) ∙ tag_begins tag (codes "/>" ++ x) v)
token_kind (StartTag tag) x v = tag_kind ((print_tag tag ++ greater_than ∷ []) ++ x)
    (ap (begins_with is_name_byte) (append_assoc (print_tag tag) (greater_than ∷ []) x) ∙ tag_begins tag (greater_than ∷ x) v)
token_kind (EndTag name space) x v = refl

-- two readings of one token
pub record SameToken (t u : Token) (x y : List ℕ) : Type 0 where
  pub whole : t ≡ u
  pub behind : x ≡ y

pub fails : (b : Bool) → not b ≡ true → b ≡ false
fails true h = absurd (let clash : false ≡ true = h in cc)
fails false h = refl

pub numbers_apart : (m n : ℕ) → (m == n) ≡ false → m ≡ n → ⊥
numbers_apart m n h e = absurd (apart_at 0 (m ∷ []) (n ∷ []) h (ap (λ k. k ∷ []) e))

pub slash_closes : (x : List ℕ) → Closes (codes "/>" ++ x)
slash_closes x = record { not_white = refl; not_name = refl }

pub sign_closes : (x : List ℕ) → Closes (greater_than ∷ x)
sign_closes x = record { not_white = refl; not_name = refl }

abbrev pub from_value : List ℕ → List ℕ → List ℕ
from_value value x = value ++ (codes "?>" ++ x)

abbrev pub from_space : List ℕ → List ℕ → List ℕ → List ℕ
from_space space value x = space ++ from_value value x

pub processing_parts : (target space value x : List ℕ) →
    print_token (Alone (ProcessingInstruction target space value)) ++ x ≡ codes "<?" ++ (target ++ from_space space value x)
processing_parts target space value x = simp append_assoc

pub value_not_white : (value x : List ℕ) → begins_with is_white value ≡ false → begins_with is_white (from_value value x) ≡ false
value_not_white [] x h = refl
value_not_white (b ∷ bytes) x h = h

pub space_stops_target : (space value x : List ℕ) → AllPass is_white space → (0 < length value → 0 < length space) →
    begins_with is_name_byte (from_space space value x) ≡ false
space_stops_target [] [] x h l = refl
space_stops_target [] (b ∷ value) x h l = absurd (let none : 0 < length {A = ℕ} [] = l (omega arith) in omega arith)
space_stops_target (b ∷ space) value x h l = white_is_no_name b (both_true (is_white b) _ h).0

pub same_processing : (t s v u p w x y : List ℕ) → IsProcessingInstruction t s v → IsProcessingInstruction u p w →
    print_token (Alone (ProcessingInstruction t s v)) ++ x ≡ print_token (Alone (ProcessingInstruction u p w)) ++ y →
    SameToken (Alone (ProcessingInstruction t s v)) (Alone (ProcessingInstruction u p w)) x y
same_processing t s v u p w x y h k e =
    let parts : codes "<?" ++ (t ++ from_space s v x) ≡ codes "<?" ++ (u ++ from_space p w y) =
    sym (processing_parts t s v x) ∙ e ∙ processing_parts u p w y in
    let inner : t ++ from_space s v x ≡ u ++ from_space p w y = ap (drop 2) parts in
    let target = same_run is_name_byte t u (from_space s v x) (from_space p w y) (name_passes t h.named.0) (name_passes u k.named.0)
    (space_stops_target s v x h.white h.apart) (space_stops_target p w y k.white k.apart) inner in
    let space = same_run is_white s p (from_value v x) (from_value w y) h.white k.white
    (value_not_white v x h.begins) (value_not_white w y k.begins) target.1 in
    let value = same_value v w x y h.closed k.closed space.1 in
    record { whole = λ i. Alone (ProcessingInstruction (target.0 i) (space.0 i) (value.0 i)); behind = value.1 }

pub end_parts : (name space x : List ℕ) → print_token (EndTag name space) ++ x ≡ codes "</" ++ (name ++ (space ++ (greater_than ∷ x)))
end_parts name space x = simp append_assoc

pub space_stops_name : (space x : List ℕ) → AllPass is_white space → begins_with is_name_byte (space ++ (greater_than ∷ x)) ≡ false
space_stops_name [] x h = refl
space_stops_name (b ∷ space) x h = white_is_no_name b (both_true (is_white b) _ h).0

pub same_end : (m p n q x y : List ℕ) → IsToken (EndTag m p) → IsToken (EndTag n q) →
    print_token (EndTag m p) ++ x ≡ print_token (EndTag n q) ++ y → SameToken (EndTag m p) (EndTag n q) x y
same_end m p n q x y v w e =
    let parts : codes "</" ++ (m ++ (p ++ (greater_than ∷ x))) ≡ codes "</" ++ (n ++ (q ++ (greater_than ∷ y))) =
    sym (end_parts m p x) ∙ e ∙ end_parts n q y in
    let inner : m ++ (p ++ (greater_than ∷ x)) ≡ n ++ (q ++ (greater_than ∷ y)) = ap (drop 2) parts in
    let name = same_run is_name_byte m n (p ++ (greater_than ∷ x)) (q ++ (greater_than ∷ y)) (name_passes m v.0) (name_passes n w.0)
    (space_stops_name p x v.1) (space_stops_name q y w.1) inner in
    let space = same_run is_white p q (greater_than ∷ x) (greater_than ∷ y) v.1 w.1 refl refl name.1 in
    record { whole = λ i. EndTag (name.0 i) (space.0 i); behind = ap (drop 1) space.1 }

pub empty_parts : (tag : Tag) (x : List ℕ) → print_token (Alone (EmptyTag tag)) ++ x ≡ less_than ∷ (print_tag tag ++ (codes "/>" ++ x))
empty_parts tag x = ap (λ z. less_than ∷ z) (append_assoc (print_tag tag) (codes "/>") x)

pub start_parts : (tag : Tag) (x : List ℕ) → print_token (StartTag tag) ++ x ≡ less_than ∷ (print_tag tag ++ (greater_than ∷ x))
start_parts tag x = ap (λ z. less_than ∷ z) (append_assoc (print_tag tag) (greater_than ∷ []) x)

pub empty_is_no_start : (tag other : Tag) (x y : List ℕ) → IsTag tag → IsTag other →
    print_token (Alone (EmptyTag tag)) ++ x ≡ print_token (StartTag other) ++ y → ⊥
empty_is_no_start tag other x y v w e =
    let inner : print_tag tag ++ (codes "/>" ++ x) ≡ print_tag other ++ (greater_than ∷ y) =
    ap (drop 1) (sym (empty_parts tag x) ∙ e ∙ start_parts other y) in
    let same = same_tag tag other (codes "/>" ++ x) (greater_than ∷ y) v w (slash_closes x) (sign_closes y) inner in
    apart_at 0 _ _ refl same.behind

pub section_parts : (bytes x : List ℕ) → print_token (Alone (Section bytes)) ++ x ≡ codes "<![CDATA[" ++ (bytes ++ (codes "]]>" ++ x))
section_parts bytes x = ap (λ z. codes "<![CDATA[" ++ z) (append_assoc bytes (codes "]]>") x)

pub comment_parts : (bytes x : List ℕ) → print_token (Alone (CommentItem bytes)) ++ x ≡ codes "<!--" ++ (bytes ++ (codes "-->" ++ x))
comment_parts bytes x = ap (λ z. codes "<!--" ++ z) (append_assoc bytes (codes "-->") x)

-- where two tokens go on as long as they can, the bytes that begin with both have one of them
pub same_token : (t u : Token) (x y : List ℕ) → IsToken t → IsToken u → IsWhole t x → IsWhole u y →
    print_token t ++ x ≡ print_token u ++ y → SameToken t u x y
same_token (Alone (Characters a)) (Alone (Characters b)) x y v w g h e = (let same = same_run is_run_byte a b x y v.1 w.1 (fails _ g) (fails _ h) e in record { whole = λ i. Alone (Characters (same.0 i)); behind = same.1 })
same_token (Alone (Characters a)) (Alone (Refers b)) x y v w g h e = absurd (numbers_apart 0 1 refl (sym (token_kind (Alone (Characters a)) x v) ∙ ap kind e ∙ token_kind (Alone (Refers b)) y w))
same_token (Alone (Characters a)) (Alone (Section b)) x y v w g h e = absurd (numbers_apart 0 2 refl (sym (token_kind (Alone (Characters a)) x v) ∙ ap kind e ∙ token_kind (Alone (Section b)) y w))
same_token (Alone (Characters a)) (Alone (CommentItem b)) x y v w g h e = absurd (numbers_apart 0 3 refl (sym (token_kind (Alone (Characters a)) x v) ∙ ap kind e ∙ token_kind (Alone (CommentItem b)) y w))
same_token (Alone (Characters a)) (Alone (ProcessingInstruction b b1 b2)) x y v w g h e = absurd (numbers_apart 0 4 refl (sym (token_kind (Alone (Characters a)) x v) ∙ ap kind e ∙ token_kind (Alone (ProcessingInstruction b b1 b2)) y w))
same_token (Alone (Characters a)) (EndTag b b1) x y v w g h e = absurd (numbers_apart 0 5 refl (sym (token_kind (Alone (Characters a)) x v) ∙ ap kind e ∙ token_kind (EndTag b b1) y w))
same_token (Alone (Characters a)) (Alone (EmptyTag b)) x y v w g h e = absurd (numbers_apart 0 6 refl (sym (token_kind (Alone (Characters a)) x v) ∙ ap kind e ∙ token_kind (Alone (EmptyTag b)) y w))
same_token (Alone (Characters a)) (StartTag b) x y v w g h e = absurd (numbers_apart 0 6 refl (sym (token_kind (Alone (Characters a)) x v) ∙ ap kind e ∙ token_kind (StartTag b) y w))
same_token (Alone (Refers a)) (Alone (Characters b)) x y v w g h e = absurd (numbers_apart 1 0 refl (sym (token_kind (Alone (Refers a)) x v) ∙ ap kind e ∙ token_kind (Alone (Characters b)) y w))
same_token (Alone (Refers a)) (Alone (Refers b)) x y v w g h e = (let same = same_reference a b x y v w e in record { whole = λ i. Alone (Refers (same.0 i)); behind = same.1 })
same_token (Alone (Refers a)) (Alone (Section b)) x y v w g h e = absurd (numbers_apart 1 2 refl (sym (token_kind (Alone (Refers a)) x v) ∙ ap kind e ∙ token_kind (Alone (Section b)) y w))
same_token (Alone (Refers a)) (Alone (CommentItem b)) x y v w g h e = absurd (numbers_apart 1 3 refl (sym (token_kind (Alone (Refers a)) x v) ∙ ap kind e ∙ token_kind (Alone (CommentItem b)) y w))
same_token (Alone (Refers a)) (Alone (ProcessingInstruction b b1 b2)) x y v w g h e = absurd (numbers_apart 1 4 refl (sym (token_kind (Alone (Refers a)) x v) ∙ ap kind e ∙ token_kind (Alone (ProcessingInstruction b b1 b2)) y w))
same_token (Alone (Refers a)) (EndTag b b1) x y v w g h e = absurd (numbers_apart 1 5 refl (sym (token_kind (Alone (Refers a)) x v) ∙ ap kind e ∙ token_kind (EndTag b b1) y w))
same_token (Alone (Refers a)) (Alone (EmptyTag b)) x y v w g h e = absurd (numbers_apart 1 6 refl (sym (token_kind (Alone (Refers a)) x v) ∙ ap kind e ∙ token_kind (Alone (EmptyTag b)) y w))
same_token (Alone (Refers a)) (StartTag b) x y v w g h e = absurd (numbers_apart 1 6 refl (sym (token_kind (Alone (Refers a)) x v) ∙ ap kind e ∙ token_kind (StartTag b) y w))
same_token (Alone (Section a)) (Alone (Characters b)) x y v w g h e = absurd (numbers_apart 2 0 refl (sym (token_kind (Alone (Section a)) x v) ∙ ap kind e ∙ token_kind (Alone (Characters b)) y w))
same_token (Alone (Section a)) (Alone (Refers b)) x y v w g h e = absurd (numbers_apart 2 1 refl (sym (token_kind (Alone (Section a)) x v) ∙ ap kind e ∙ token_kind (Alone (Refers b)) y w))
same_token (Alone (Section a)) (Alone (Section b)) x y v w g h e = (let same = same_section a b x y v w (ap (drop 9) (sym (section_parts a x) ∙ e ∙ section_parts b y)) in record { whole = λ i. Alone (Section (same.0 i)); behind = same.1 })
same_token (Alone (Section a)) (Alone (CommentItem b)) x y v w g h e = absurd (numbers_apart 2 3 refl (sym (token_kind (Alone (Section a)) x v) ∙ ap kind e ∙ token_kind (Alone (CommentItem b)) y w))
same_token (Alone (Section a)) (Alone (ProcessingInstruction b b1 b2)) x y v w g h e = absurd (numbers_apart 2 4 refl (sym (token_kind (Alone (Section a)) x v) ∙ ap kind e ∙ token_kind (Alone (ProcessingInstruction b b1 b2)) y w))
same_token (Alone (Section a)) (EndTag b b1) x y v w g h e = absurd (numbers_apart 2 5 refl (sym (token_kind (Alone (Section a)) x v) ∙ ap kind e ∙ token_kind (EndTag b b1) y w))
same_token (Alone (Section a)) (Alone (EmptyTag b)) x y v w g h e = absurd (numbers_apart 2 6 refl (sym (token_kind (Alone (Section a)) x v) ∙ ap kind e ∙ token_kind (Alone (EmptyTag b)) y w))
same_token (Alone (Section a)) (StartTag b) x y v w g h e = absurd (numbers_apart 2 6 refl (sym (token_kind (Alone (Section a)) x v) ∙ ap kind e ∙ token_kind (StartTag b) y w))
same_token (Alone (CommentItem a)) (Alone (Characters b)) x y v w g h e = absurd (numbers_apart 3 0 refl (sym (token_kind (Alone (CommentItem a)) x v) ∙ ap kind e ∙ token_kind (Alone (Characters b)) y w))
same_token (Alone (CommentItem a)) (Alone (Refers b)) x y v w g h e = absurd (numbers_apart 3 1 refl (sym (token_kind (Alone (CommentItem a)) x v) ∙ ap kind e ∙ token_kind (Alone (Refers b)) y w))
same_token (Alone (CommentItem a)) (Alone (Section b)) x y v w g h e = absurd (numbers_apart 3 2 refl (sym (token_kind (Alone (CommentItem a)) x v) ∙ ap kind e ∙ token_kind (Alone (Section b)) y w))
same_token (Alone (CommentItem a)) (Alone (CommentItem b)) x y v w g h e = (let same = same_comment a b x y v w (ap (drop 4) (sym (comment_parts a x) ∙ e ∙ comment_parts b y)) in record { whole = λ i. Alone (CommentItem (same.0 i)); behind = same.1 })
same_token (Alone (CommentItem a)) (Alone (ProcessingInstruction b b1 b2)) x y v w g h e = absurd (numbers_apart 3 4 refl (sym (token_kind (Alone (CommentItem a)) x v) ∙ ap kind e ∙ token_kind (Alone (ProcessingInstruction b b1 b2)) y w))
same_token (Alone (CommentItem a)) (EndTag b b1) x y v w g h e = absurd (numbers_apart 3 5 refl (sym (token_kind (Alone (CommentItem a)) x v) ∙ ap kind e ∙ token_kind (EndTag b b1) y w))
same_token (Alone (CommentItem a)) (Alone (EmptyTag b)) x y v w g h e = absurd (numbers_apart 3 6 refl (sym (token_kind (Alone (CommentItem a)) x v) ∙ ap kind e ∙ token_kind (Alone (EmptyTag b)) y w))
same_token (Alone (CommentItem a)) (StartTag b) x y v w g h e = absurd (numbers_apart 3 6 refl (sym (token_kind (Alone (CommentItem a)) x v) ∙ ap kind e ∙ token_kind (StartTag b) y w))
same_token (Alone (ProcessingInstruction a a1 a2)) (Alone (Characters b)) x y v w g h e = absurd (numbers_apart 4 0 refl (sym (token_kind (Alone (ProcessingInstruction a a1 a2)) x v) ∙ ap kind e ∙ token_kind (Alone (Characters b)) y w))
same_token (Alone (ProcessingInstruction a a1 a2)) (Alone (Refers b)) x y v w g h e = absurd (numbers_apart 4 1 refl (sym (token_kind (Alone (ProcessingInstruction a a1 a2)) x v) ∙ ap kind e ∙ token_kind (Alone (Refers b)) y w))
same_token (Alone (ProcessingInstruction a a1 a2)) (Alone (Section b)) x y v w g h e = absurd (numbers_apart 4 2 refl (sym (token_kind (Alone (ProcessingInstruction a a1 a2)) x v) ∙ ap kind e ∙ token_kind (Alone (Section b)) y w))
same_token (Alone (ProcessingInstruction a a1 a2)) (Alone (CommentItem b)) x y v w g h e = absurd (numbers_apart 4 3 refl (sym (token_kind (Alone (ProcessingInstruction a a1 a2)) x v) ∙ ap kind e ∙ token_kind (Alone (CommentItem b)) y w))
same_token (Alone (ProcessingInstruction a a1 a2)) (Alone (ProcessingInstruction b b1 b2)) x y v w g h e = same_processing a a1 a2 b b1 b2 x y v w e
same_token (Alone (ProcessingInstruction a a1 a2)) (EndTag b b1) x y v w g h e = absurd (numbers_apart 4 5 refl (sym (token_kind (Alone (ProcessingInstruction a a1 a2)) x v) ∙ ap kind e ∙ token_kind (EndTag b b1) y w))
same_token (Alone (ProcessingInstruction a a1 a2)) (Alone (EmptyTag b)) x y v w g h e = absurd (numbers_apart 4 6 refl (sym (token_kind (Alone (ProcessingInstruction a a1 a2)) x v) ∙ ap kind e ∙ token_kind (Alone (EmptyTag b)) y w))
same_token (Alone (ProcessingInstruction a a1 a2)) (StartTag b) x y v w g h e = absurd (numbers_apart 4 6 refl (sym (token_kind (Alone (ProcessingInstruction a a1 a2)) x v) ∙ ap kind e ∙ token_kind (StartTag b) y w))
same_token (EndTag a a1) (Alone (Characters b)) x y v w g h e = absurd (numbers_apart 5 0 refl (sym (token_kind (EndTag a a1) x v) ∙ ap kind e ∙ token_kind (Alone (Characters b)) y w))
same_token (EndTag a a1) (Alone (Refers b)) x y v w g h e = absurd (numbers_apart 5 1 refl (sym (token_kind (EndTag a a1) x v) ∙ ap kind e ∙ token_kind (Alone (Refers b)) y w))
same_token (EndTag a a1) (Alone (Section b)) x y v w g h e = absurd (numbers_apart 5 2 refl (sym (token_kind (EndTag a a1) x v) ∙ ap kind e ∙ token_kind (Alone (Section b)) y w))
same_token (EndTag a a1) (Alone (CommentItem b)) x y v w g h e = absurd (numbers_apart 5 3 refl (sym (token_kind (EndTag a a1) x v) ∙ ap kind e ∙ token_kind (Alone (CommentItem b)) y w))
same_token (EndTag a a1) (Alone (ProcessingInstruction b b1 b2)) x y v w g h e = absurd (numbers_apart 5 4 refl (sym (token_kind (EndTag a a1) x v) ∙ ap kind e ∙ token_kind (Alone (ProcessingInstruction b b1 b2)) y w))
same_token (EndTag a a1) (EndTag b b1) x y v w g h e = same_end a a1 b b1 x y v w e
same_token (EndTag a a1) (Alone (EmptyTag b)) x y v w g h e = absurd (numbers_apart 5 6 refl (sym (token_kind (EndTag a a1) x v) ∙ ap kind e ∙ token_kind (Alone (EmptyTag b)) y w))
same_token (EndTag a a1) (StartTag b) x y v w g h e = absurd (numbers_apart 5 6 refl (sym (token_kind (EndTag a a1) x v) ∙ ap kind e ∙ token_kind (StartTag b) y w))
same_token (Alone (EmptyTag a)) (Alone (Characters b)) x y v w g h e = absurd (numbers_apart 6 0 refl (sym (token_kind (Alone (EmptyTag a)) x v) ∙ ap kind e ∙ token_kind (Alone (Characters b)) y w))
same_token (Alone (EmptyTag a)) (Alone (Refers b)) x y v w g h e = absurd (numbers_apart 6 1 refl (sym (token_kind (Alone (EmptyTag a)) x v) ∙ ap kind e ∙ token_kind (Alone (Refers b)) y w))
same_token (Alone (EmptyTag a)) (Alone (Section b)) x y v w g h e = absurd (numbers_apart 6 2 refl (sym (token_kind (Alone (EmptyTag a)) x v) ∙ ap kind e ∙ token_kind (Alone (Section b)) y w))
same_token (Alone (EmptyTag a)) (Alone (CommentItem b)) x y v w g h e = absurd (numbers_apart 6 3 refl (sym (token_kind (Alone (EmptyTag a)) x v) ∙ ap kind e ∙ token_kind (Alone (CommentItem b)) y w))
same_token (Alone (EmptyTag a)) (Alone (ProcessingInstruction b b1 b2)) x y v w g h e = absurd (numbers_apart 6 4 refl (sym (token_kind (Alone (EmptyTag a)) x v) ∙ ap kind e ∙ token_kind (Alone (ProcessingInstruction b b1 b2)) y w))
same_token (Alone (EmptyTag a)) (EndTag b b1) x y v w g h e = absurd (numbers_apart 6 5 refl (sym (token_kind (Alone (EmptyTag a)) x v) ∙ ap kind e ∙ token_kind (EndTag b b1) y w))
same_token (Alone (EmptyTag a)) (Alone (EmptyTag b)) x y v w g h e = (let same = same_tag a b (codes "/>" ++ x) (codes "/>" ++ y) v w (slash_closes x) (slash_closes y) (ap (drop 1) (sym (empty_parts a x) ∙ e ∙ empty_parts b y)) in record { whole = λ i. Alone (EmptyTag (same.whole i)); behind = ap (drop 2) same.behind })
same_token (Alone (EmptyTag a)) (StartTag b) x y v w g h e = absurd (empty_is_no_start a b x y v w e)
same_token (StartTag a) (Alone (Characters b)) x y v w g h e = absurd (numbers_apart 6 0 refl (sym (token_kind (StartTag a) x v) ∙ ap kind e ∙ token_kind (Alone (Characters b)) y w))
same_token (StartTag a) (Alone (Refers b)) x y v w g h e = absurd (numbers_apart 6 1 refl (sym (token_kind (StartTag a) x v) ∙ ap kind e ∙ token_kind (Alone (Refers b)) y w))
same_token (StartTag a) (Alone (Section b)) x y v w g h e = absurd (numbers_apart 6 2 refl (sym (token_kind (StartTag a) x v) ∙ ap kind e ∙ token_kind (Alone (Section b)) y w))
same_token (StartTag a) (Alone (CommentItem b)) x y v w g h e = absurd (numbers_apart 6 3 refl (sym (token_kind (StartTag a) x v) ∙ ap kind e ∙ token_kind (Alone (CommentItem b)) y w))
same_token (StartTag a) (Alone (ProcessingInstruction b b1 b2)) x y v w g h e = absurd (numbers_apart 6 4 refl (sym (token_kind (StartTag a) x v) ∙ ap kind e ∙ token_kind (Alone (ProcessingInstruction b b1 b2)) y w))
same_token (StartTag a) (EndTag b b1) x y v w g h e = absurd (numbers_apart 6 5 refl (sym (token_kind (StartTag a) x v) ∙ ap kind e ∙ token_kind (EndTag b b1) y w))
same_token (StartTag a) (Alone (EmptyTag b)) x y v w g h e = absurd (empty_is_no_start b a y x w v (sym e))
same_token (StartTag a) (StartTag b) x y v w g h e = (let same = same_tag a b (greater_than ∷ x) (greater_than ∷ y) v w (sign_closes x) (sign_closes y) (ap (drop 1) (sym (start_parts a x) ∙ e ∙ start_parts b y)) in record { whole = λ i. StartTag (same.whole i); behind = ap (drop 1) same.behind })

pub empty_kind : (t : Token) (x : List ℕ) → print_token t ++ x ≡ [] → IsToken t → kind_of t ≡ 0
empty_kind t x e v = sym (token_kind t x v) ∙ ap kind e

-- a token has a first byte
pub token_is_not_empty : (t : Token) (x : List ℕ) → IsToken t → print_token t ++ x ≡ [] → ⊥
token_is_not_empty (Alone (Characters [])) x v e = absurd (let none : 0 < 0 = v.0 in omega arith)
token_is_not_empty (Alone (Characters (b ∷ bytes))) x v e = cc
token_is_not_empty (Alone (Refers r)) x v e = numbers_apart 1 0 refl (empty_kind (Alone (Refers r)) x e v)
token_is_not_empty (Alone (Section bytes)) x v e = cc
token_is_not_empty (Alone (CommentItem bytes)) x v e = cc
token_is_not_empty (Alone (ProcessingInstruction target space value)) x v e = cc
token_is_not_empty (Alone (EmptyTag tag)) x v e = cc
token_is_not_empty (StartTag tag) x v e = cc
token_is_not_empty (EndTag name space) x v e = cc
