-- What a signature is made of can be written: its base64, and a reference to an ID.
use Rattle.std.proofs.Common.{◌≡◌, ℕ, zero, suc, ◌+◌, ◌*◌, ◌/◌, ◌%◌, ◌<◌, Bool, true, false, ◌&&◌, ◌||◌, nat_le, List, [], ◌∷◌, ◌++◌, replicate, length, slice_index, Bor, Option, Some, None, unwrap_or, cond, refl, sym, ap, ◌∙◌, arith}
use Rattle.std.specs.List.{list_all, AllByRecursion}
use Rattle.std.specs.Option.{option_map}
use Rattle.std.specs.Char.{encode_utf8}
use Rattle.std.specs.Str.{bytes_eq, encode_utf8_all}
use Rattle.std.proofs.lemmas.Bool.{leb-true, le-leb}
use Rattle.std.proofs.lemmas.Str.{encode_ascii}
use Rattle.std.proofs.lemmas.List.Folds.{list_all-append}
use Rattle.base64.specs.Engines.{standard}
use Rattle.base64.specs.GeneralPurpose.{encode_of, IsBytes}
use Rattle.base64.specs.Rfc4648.{encode_symbols, padding_len}
use Rattle.base64.specs.Tables.{is_printable, is_alphabet}
use Rattle.base64.specs.declared.engine.general_purpose.GeneralPurpose.{GeneralPurpose}
use Rattle.base64.proofs.Tables.{is_alphabet_printable}
use Rattle.xml_spec.specs.Characters.{IsText, is_char}
use Rattle.xml_spec.proofs.Tests.{both_true, and_true}
use Rattle.xml_spec.specs.Tree.{Attribute}
use Rattle.element_make.specs.Made.{IsMadeAttribute, value_of, MadeNodes, NothingMade, MadeElement, MadeText, IsAny}
use Rattle.sig_reference.specs.Signing.{begins_with_issuer}
use Rattle.sig_reference.specs.Signature.{number_sign}

-- what holds of each symbol of an alphabet holds of all that are written of bytes
module _ (p : ℕ → Bool) (table : List ℕ) (each : (i : ℕ) → i < 64 → p (slice_index table i) ≡ true) where
  pub symbols : (m : List ℕ) → IsBytes m → list_all p (encode_symbols table m) ≡ true
  unfolding encode_symbols
  symbols [] is = refl
  symbols (a ∷ []) is =
      let one : a < 256 = is 0 in
      and_true _ _ (each (a / 4) (omega arith)) (and_true _ _ (each (a % 4 * 16) (omega arith)) refl)
  symbols (a ∷ b ∷ []) is =
      let one : a < 256 = is 0 in
      let two : b < 256 = is 1 in
      and_true _ _ (each (a / 4) (omega arith)) (and_true _ _ (each (a % 4 * 16 + b / 16) (omega arith))
      (and_true _ _ (each (b % 16 * 4) (omega arith)) refl))
  symbols (a ∷ b ∷ c ∷ rest) is =
      let one : a < 256 = is 0 in
      let two : b < 256 = is 1 in
      let three : c < 256 = is 2 in
      and_true _ _ (each (a / 4) (omega arith)) (and_true _ _ (each (a % 4 * 16 + b / 16) (omega arith))
      (and_true _ _ (each (b % 16 * 4 + c / 64) (omega arith)) (and_true _ _ (each (c % 64) (omega arith))
      (symbols rest (λ i. is (suc (suc (suc i))))))))

  pub padded : (pad n : ℕ) → p pad ≡ true → list_all p (replicate n pad) ≡ true
  padded pad zero h = refl
  padded pad (suc n) h = and_true (p pad) (list_all p (replicate n pad)) h (padded pad n h)

-- the symbols of base64 can be printed
printable_symbol : (e : GeneralPurpose) (i : ℕ) → i < 64 → is_printable (slice_index e.encode_table i) ≡ true
printable_symbol e i below =
    let alphabet = both_true (is_alphabet e.encode_table e.padding.value) _ (both_true _ _ e.tables).0 in
    is_alphabet_printable e.encode_table e.padding.value i alphabet.0 below

or_later : (a b : Bool) → b ≡ true → (a || b) ≡ true
or_later true b h = refl
or_later false b h = h

or_first : (a b : Bool) → a ≡ true → (a || b) ≡ true
or_first true b h = refl
or_first false b h = absurd (let clash : false ≡ true = h in cc)

-- printable characters can be written
pub printable_text : (text : List ℕ) → list_all is_printable text ≡ true → IsText text
printable_text text h = record { characters = text; allowed = allowed text h; spelled = spelled text h }
  where
    one_allowed : (b : ℕ) → is_printable b ≡ true → is_char b ≡ true
    one_allowed b p =
        let range = both_true (nat_le 32 b) (nat_le b 126) p in
        let most = leb-true b 126 range.1 in
        or_later (nat_le 0x9 b && nat_le b 0x9) _ (or_later (nat_le 0xA b && nat_le b 0xA) _ (or_later (nat_le 0xD b && nat_le b 0xD) _
        (or_first (nat_le 0x20 b && nat_le b 0xD7FF) _ (and_true _ _ range.0 (le-leb b 0xD7FF (omega arith))))))

    allowed : (text : List ℕ) → list_all is_printable text ≡ true → list_all is_char text ≡ true
    allowed [] h = refl
    allowed (b ∷ text) h =
        let parts = both_true (is_printable b) (list_all is_printable text) h in
        and_true (is_char b) (list_all is_char text) (one_allowed b parts.0) (allowed text parts.1)

    spelled : (text : List ℕ) → list_all is_printable text ≡ true → text ≡ encode_utf8_all text
    spelled [] h = refl
    spelled (b ∷ text) h =
        let parts = both_true (is_printable b) (list_all is_printable text) h in
        let range = both_true (nat_le 32 b) (nat_le b 126) parts.0 in
        let most = leb-true b 126 range.1 in
        ap (λ xs. b ∷ xs) (spelled text parts.1) ∙ ap (λ xs. xs ++ encode_utf8_all text) (sym (encode_ascii b (omega arith)))

-- the base64 of bytes can be written
pub base64_text : (bytes : List ℕ) → IsBytes bytes → IsText (encode_of standard bytes)
base64_text bytes is =
    let each = printable_symbol standard in
    printable_text (encode_of standard bytes)
    (list_all-append is_printable (encode_symbols standard.encode_table bytes) _
    ∙ and_true _ _ (symbols is_printable standard.encode_table each bytes is) (padded is_printable standard.encode_table each 61 (padding_len (length bytes)) refl))

-- a reference to an ID that can be written
pub reference_text : (id : List ℕ) → IsText id → IsText (number_sign ∷ id)
unfolding encode_utf8
reference_text id is = record {
  characters = number_sign ∷ is.characters;
  allowed = is.allowed;
  spelled = ap (λ xs. number_sign ∷ xs) is.spelled;
}

no_text : IsText []
no_text = record { characters = []; allowed = refl; spelled = refl }

-- the value of an attribute of a made element can be written
pub value_text : (name : List ℕ) (attributes : List Attribute) → AllByRecursion IsMadeAttribute attributes →
    IsText (unwrap_or (value_of name attributes) [])
value_text name [] made = no_text
value_text name (a ∷ attributes) made = which (bytes_eq a.name name) (value_text name attributes made.1)
  where
    which : (b : Bool) → IsText (unwrap_or (value_of name attributes) []) →
        IsText (unwrap_or (cond b (Some a.value) (value_of name attributes)) [])
    which true later = made.0.value
    which false later = later

-- a text that was lent, or an empty one in its place
pub lent_value : (found : Option (Bor (List ℕ))) (other given : Bor (List ℕ)) (value : Option (List ℕ)) →
    option_map (λ (b : Bor (List ℕ)). b.now) found ≡ value → given ≡ unwrap_or found other → other.now ≡ [] → given.now ≡ unwrap_or value []
lent_value None other given value is e none = ap (λ (b : Bor (List ℕ)). b.now) e ∙ none ∙ ap (λ v. unwrap_or v []) is
lent_value (Some b) other given value is e none = ap (λ (b : Bor (List ℕ)). b.now) e ∙ ap (λ v. unwrap_or v []) is

-- an element in front of which stands an Issuer has a kid
pub some_kid : (nodes : MadeNodes) → begins_with_issuer nodes ≡ true → IsAny nodes
some_kid NothingMade h = absurd (let clash : false ≡ true = h in cc)
some_kid (MadeElement ns local attributes kids rest) h = tt
some_kid (MadeText text rest) h = absurd (let clash : false ≡ true = h in cc)
