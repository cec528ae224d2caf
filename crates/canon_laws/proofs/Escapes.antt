-- What each byte of a text and of a value is written as in the canonical form.
use Rattle.std.proofs.Common.{◌≡◌, ℕ, ◌<◌, Bool, true, false, cond, ◌||◌, not, ◌==◌, nat_lt, List, [], ◌∷◌, ◌++◌, codes, Option, Some, None, if◌then◌else◌, refl, sym, ◌∙◌, ap, subst, arith}
use Rattle.std.specs.Prelude.{MatchOption}
use Rattle.std.specs.List.{list_all, flat_map}
use Rattle.std.specs.Char.{encode_utf8}
use Rattle.std.proofs.Math.Utf8.{encode, encodes}
use Rattle.std.proofs.lemmas.Grind.{flat_map-append}
use Rattle.std.proofs.lemmas.List.{append-nil}
use Rattle.std.proofs.lemmas.Str.{encode_ascii}
use borrow.Author.Tests.{ltb-true, leb-true}
use Rattle.xml_spec.specs.Ascii.{tab, line_feed, carriage_return, quotation_mark, ampersand, less_than, greater_than}
use Rattle.xml_spec.specs.Characters.{is_char, IsText}
use Rattle.xml_spec.specs.Syntax.{Reference, LessThan, GreaterThan, Ampersand, QuotationMark, Hexadecimal, print_reference, character_of, IsReference}
use Rattle.xml_spec.specs.Canonical.{escape_text_byte, escape_text, escape_value_byte, escape_value}
use Rattle.xml_spec.proofs.Tests.{both_true}
use Rattle.canon_laws.proofs.Bytes.{is_high, high_encode}
use Rattle.canon_laws.proofs.Texts.{empty_text, text_append, character_text}

-- the reference that a byte of a text is written as, and that a byte of a value is
abbrev pub text_reference : ℕ → Option Reference
text_reference b =
    if b == ampersand then Some Ampersand
    else if b == less_than then Some LessThan
    else if b == greater_than then Some GreaterThan
    else if b == carriage_return then Some (Hexadecimal (codes "D"))
    else None

abbrev pub value_reference : ℕ → Option Reference
value_reference b =
    if b == ampersand then Some Ampersand
    else if b == less_than then Some LessThan
    else if b == quotation_mark then Some QuotationMark
    else if b == tab then Some (Hexadecimal (codes "9"))
    else if b == line_feed then Some (Hexadecimal (codes "A"))
    else if b == carriage_return then Some (Hexadecimal (codes "D"))
    else None

-- a byte that is written as it is
abbrev pub is_plain_text : ℕ → Bool
is_plain_text b = not (b == ampersand || b == less_than || b == greater_than || b == carriage_return)

abbrev pub is_plain_value : ℕ → Bool
is_plain_value b =
    not (b == ampersand || b == less_than || b == quotation_mark || b == tab || b == line_feed || b == carriage_return)

-- the byte is written as this reference, which stands for it
pub record StandsFor (r : Reference) (b : ℕ) (written : List ℕ) : Type 0 where
  pub valid : IsReference r
  pub means : encode_utf8 (character_of r) ≡ b ∷ []
  pub printed : written ≡ print_reference r
  pub text : IsText (print_reference r)
  pub low : b < 128

-- the byte is written as it is, or as the reference
abbrev pub IsEscape : (ℕ → Bool) → ℕ → List ℕ → Option Reference → Type 0
IsEscape plain b written reference =
    MatchOption reference ((written ≡ b ∷ []) × (plain b ≡ true)) (λ r. StandsFor r b written)

equal_bytes : (b c : ℕ) → (b == c) ≡ true → b ≡ c
equal_bytes b c h = grind arith

-- the byte of the reference alone
stands : (r : Reference) (c : ℕ) → IsReference r → encode_utf8 (character_of r) ≡ c ∷ [] → IsText (print_reference r) → nat_lt c 128 ≡ true →
    (b : ℕ) → (b == c) ≡ true → StandsFor r b (print_reference r)
stands r c valid means text low b h =
    let same : b ≡ c = equal_bytes b c h in
    let small : c < 128 = ltb-true c 128 low in
    record { valid = valid; means = means ∙ ap (λ x. x ∷ []) (sym same); printed = refl; text = text; low = omega arith }

stands_ampersand : (b : ℕ) → (b == ampersand) ≡ true → StandsFor Ampersand b (codes "&amp;")
unfolding encode
stands_ampersand = stands Ampersand ampersand tt refl (record { characters = codes "&amp;"; allowed = refl; spelled = refl }) refl

stands_less_than : (b : ℕ) → (b == less_than) ≡ true → StandsFor LessThan b (codes "&lt;")
unfolding encode
stands_less_than = stands LessThan less_than tt refl (record { characters = codes "&lt;"; allowed = refl; spelled = refl }) refl

stands_greater_than : (b : ℕ) → (b == greater_than) ≡ true → StandsFor GreaterThan b (codes "&gt;")
unfolding encode
stands_greater_than = stands GreaterThan greater_than tt refl (record { characters = codes "&gt;"; allowed = refl; spelled = refl }) refl

stands_quotation : (b : ℕ) → (b == quotation_mark) ≡ true → StandsFor QuotationMark b (codes "&quot;")
unfolding encode
stands_quotation = stands QuotationMark quotation_mark tt refl (record { characters = codes "&quot;"; allowed = refl; spelled = refl }) refl

stands_return : (b : ℕ) → (b == carriage_return) ≡ true → StandsFor (Hexadecimal (codes "D")) b (codes "&#xD;")
unfolding encode
stands_return =
    stands (Hexadecimal (codes "D")) carriage_return (ltb-true 0 1 refl, refl, refl) refl (record { characters = codes "&#xD;"; allowed = refl; spelled = refl }) refl

stands_tab : (b : ℕ) → (b == tab) ≡ true → StandsFor (Hexadecimal (codes "9")) b (codes "&#x9;")
unfolding encode
stands_tab =
    stands (Hexadecimal (codes "9")) tab (ltb-true 0 1 refl, refl, refl) refl (record { characters = codes "&#x9;"; allowed = refl; spelled = refl }) refl

stands_feed : (b : ℕ) → (b == line_feed) ≡ true → StandsFor (Hexadecimal (codes "A")) b (codes "&#xA;")
unfolding encode
stands_feed =
    stands (Hexadecimal (codes "A")) line_feed (ltb-true 0 1 refl, refl, refl) refl (record { characters = codes "&#xA;"; allowed = refl; spelled = refl }) refl

pub text_escape : (b : ℕ) → IsEscape is_plain_text b (escape_text_byte b) (text_reference b)
text_escape b = which (b == ampersand) (b == less_than) (b == greater_than) (b == carriage_return)
    (stands_ampersand b) (stands_less_than b) (stands_greater_than b) (stands_return b)
  where
    which : (one two three four : Bool) → (one ≡ true → StandsFor Ampersand b (codes "&amp;")) → (two ≡ true → StandsFor LessThan b (codes "&lt;")) →
        (three ≡ true → StandsFor GreaterThan b (codes "&gt;")) → (four ≡ true → StandsFor (Hexadecimal (codes "D")) b (codes "&#xD;")) →
        IsEscape (λ x. not (one || two || three || four)) b
        (cond one (codes "&amp;") (cond two (codes "&lt;") (cond three (codes "&gt;") (cond four (codes "&#xD;") (b ∷ [])))))
        (cond one (Some Ampersand) (cond two (Some LessThan) (cond three (Some GreaterThan) (cond four (Some (Hexadecimal (codes "D"))) None))))
    which true two three four f g h k = f refl
    which false true three four f g h k = g refl
    which false false true four f g h k = h refl
    which false false false true f g h k = k refl
    which false false false false f g h k = (refl, refl)

pub value_escape : (b : ℕ) → IsEscape is_plain_value b (escape_value_byte b) (value_reference b)
value_escape b = which (b == ampersand) (b == less_than) (b == quotation_mark) (b == tab) (b == line_feed) (b == carriage_return)
    (stands_ampersand b) (stands_less_than b) (stands_quotation b) (stands_tab b) (stands_feed b) (stands_return b)
  where
    which : (one two three four five six : Bool) → (one ≡ true → StandsFor Ampersand b (codes "&amp;")) →
        (two ≡ true → StandsFor LessThan b (codes "&lt;")) → (three ≡ true → StandsFor QuotationMark b (codes "&quot;")) →
        (four ≡ true → StandsFor (Hexadecimal (codes "9")) b (codes "&#x9;")) →
        (five ≡ true → StandsFor (Hexadecimal (codes "A")) b (codes "&#xA;")) →
        (six ≡ true → StandsFor (Hexadecimal (codes "D")) b (codes "&#xD;")) →
        IsEscape (λ x. not (one || two || three || four || five || six)) b
        (cond one (codes "&amp;") (cond two (codes "&lt;") (cond three (codes "&quot;") (cond four (codes "&#x9;")
        (cond five (codes "&#xA;") (cond six (codes "&#xD;") (b ∷ [])))))))
        (cond one (Some Ampersand) (cond two (Some LessThan) (cond three (Some QuotationMark) (cond four (Some (Hexadecimal (codes "9")))
        (cond five (Some (Hexadecimal (codes "A"))) (cond six (Some (Hexadecimal (codes "D"))) None))))))
    which true two three four five six f g h k l m = f refl
    which false true three four five six f g h k l m = g refl
    which false false true four five six f g h k l m = h refl
    which false false false true five six f g h k l m = k refl
    which false false false false true six f g h k l m = l refl
    which false false false false false true f g h k l m = m refl
    which false false false false false false f g h k l m = (refl, refl)

-- a byte that is none of ASCII is written as it is
high_written : (plain : ℕ → Bool) (b : ℕ) (written : List ℕ) (reference : Option Reference) → IsEscape plain b written reference →
    is_high b ≡ true → written ≡ b ∷ []
high_written plain b written None e h = e.0
high_written plain b written (Some r) e h = absurd (let high = leb-true 128 b h in let low = e.low in omega arith)

-- one of ASCII is written as a text
low_written : (plain : ℕ → Bool) (b : ℕ) (written : List ℕ) (reference : Option Reference) → IsEscape plain b written reference →
    IsText (b ∷ []) → IsText written
low_written plain b written None e t = subst IsText (sym e.0) t
low_written plain b written (Some r) e t = subst IsText (sym e.printed) e.text

-- bytes that are each written as they are
all_written : (write : ℕ → List ℕ) (bytes : List ℕ) → ((b : ℕ) → is_high b ≡ true → write b ≡ b ∷ []) → list_all is_high bytes ≡ true →
    flat_map write bytes ≡ bytes
all_written write [] f h = refl
all_written write (b ∷ bytes) f h =
    let parts = both_true (is_high b) (list_all is_high bytes) h in
    ap (λ z. z ++ flat_map write bytes) (f b parts.0) ∙ ap (λ z. b ∷ z) (all_written write bytes f parts.1)

-- what texts are written as, byte by byte, is a text where that holds of each byte of ASCII
pub record Escaping (write : ℕ → List ℕ) : Type 0 where
  pub high : (b : ℕ) → is_high b ≡ true → write b ≡ b ∷ []
  pub low : (b : ℕ) → IsText (b ∷ []) → IsText (write b)

character_written : (write : ℕ → List ℕ) → Escaping write → (c : ℕ) → is_char c ≡ true → (b : Bool) → nat_lt c 128 ≡ b → IsText (flat_map write (encode c))
character_written write e c h true l =
    let alone : encode c ≡ c ∷ [] = encode_ascii c (ltb-true c 128 l) in
    subst (λ bytes. IsText (flat_map write bytes)) (sym alone)
    (subst IsText (sym (append-nil (write c))) (e.low c (subst IsText alone (character_text c h))))
character_written write e c h false l = subst IsText (sym (all_written write (encode c) e.high (high_encode c l))) (character_text c h)

characters_written : (write : ℕ → List ℕ) → Escaping write → (cs : List ℕ) → list_all is_char cs ≡ true → IsText (flat_map write (encodes cs))
characters_written write e [] h = empty_text
characters_written write e (c ∷ cs) h =
    let parts = both_true (is_char c) (list_all is_char cs) h in
    subst IsText (sym (flat_map-append write (encode c) (encodes cs)))
    (text_append (flat_map write (encode c)) (flat_map write (encodes cs)) (character_written write e c parts.0 (nat_lt c 128) refl) (characters_written write e cs parts.1))

pub written_text : (write : ℕ → List ℕ) → Escaping write → (bytes : List ℕ) → IsText bytes → IsText (flat_map write bytes)
written_text write e bytes t = subst (λ x. IsText (flat_map write x)) (sym t.spelled) (characters_written write e t.characters t.allowed)

pub escaped_text : (bytes : List ℕ) → IsText bytes → IsText (escape_text bytes)
escaped_text bytes t =
    written_text escape_text_byte
    (record {
      high = λ b. high_written is_plain_text b (escape_text_byte b) (text_reference b) (text_escape b);
      low = λ b. low_written is_plain_text b (escape_text_byte b) (text_reference b) (text_escape b);
    }) bytes t

pub escaped_value : (bytes : List ℕ) → IsText bytes → IsText (escape_value bytes)
escaped_value bytes t =
    written_text escape_value_byte
    (record {
      high = λ b. high_written is_plain_value b (escape_value_byte b) (value_reference b) (value_escape b);
      low = λ b. low_written is_plain_value b (escape_value_byte b) (value_reference b) (value_escape b);
    }) bytes t
