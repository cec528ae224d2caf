-- The users of a file hold texts.
use Rattle.std.proofs.Common.{◌≡◌, ◌≢◌, ℕ, suc, ◌+◌, ◌≤◌, ◌/◌, Bool, true, false, cond, not, ◌==◌, ◌||◌, nat_le, List, [], ◌∷◌, ◌++◌, length, Option, None, Some, IfSome, Ok, codes, encode_utf8, encode_utf8_all, nat_lt, refl, sym, ap, subst, arith}
use Rattle.std.specs.Prelude.{ok_or, option_and_then}
use lib.Utf8.{encode, next}
use Rattle.std.specs.List.{AllByRecursion, list_all}
use Rattle.std.specs.Str.{bytes_eq}
use Rattle.std.proofs.lemmas.Bool.{cond_both}
use Rattle.std.proofs.lemmas.Bool.Decides.{nat_tests}
use Rattle.xml_spec.specs.Ascii.{space_character}
use Rattle.xml_spec.specs.Bytes.{is_empty}
use Rattle.xml_spec.specs.Characters.{is_char, IsText}
use Rattle.xml_spec.proofs.Tests.{and_true, both_true}
use Rattle.saml_tree.proofs.Lists.{all_push}
use Rattle.owned_values.specs.declared.attributes.Attribute.{Attribute}
use Rattle.text_lines.specs.Lines.{Said, Says, NoText, is_text, is_passed_over, lines, said_from, said, and_then, with_lines, SaysText}
use Rattle.text_lines.specs.Words.{Parts, parts_of, with_first, words_of}
use Rattle.text_lines.proofs.Texts.{tested_text}
use Rattle.provider_config.specs.Shared.{AreTexts}
use Rattle.provider_config.proofs.TextWords.{words_are_texts}
use Rattle.user_store.specs.Line.{line_of, attribute_of, user_of, rounds_of, bytes_of, value_of}
use Rattle.user_store.specs.Store.{has_user, with_attribute, with_user, with_line, with_text, users}
use Rattle.user_store.specs.declared.user.User.{User}
use Rattle.user_store.specs.declared.users.TheConstants.{MAX_USERS}
use Rattle.idp_rules.specs.Config.{IsTextAttribute, IsTextUser}
use Rattle.idp_setup.proofs.Somewhere.{where_some, unless_some, either_some, then_some, then_any, map_some}

-- PARTS OF A TEXT

other_byte : (b c : ℕ) → b ≢ c → (b == c) ≡ false
other_byte b c h = grind (arith, nat_tests)

abbrev has_no_space : List ℕ → Bool
has_no_space bytes = list_all (λ b. not (b == space_character)) bytes

abbrev in_front : List ℕ → Parts → Parts
in_front bytes parts = record { first = bytes ++ parts.first; rest = parts.rest }

parts_behind : (bytes rest : List ℕ) → has_no_space bytes ≡ true → parts_of (bytes ++ rest) ≡ in_front bytes (parts_of rest)
parts_behind [] rest none = refl
parts_behind (b ∷ bytes) rest none =
    let parts = both_true (not (b == space_character)) (has_no_space bytes) none in
    by_test (b == space_character) parts.0 (parts_behind bytes rest parts.1)
  where
    by_test : (t : Bool) → not t ≡ true → parts_of (bytes ++ rest) ≡ in_front bytes (parts_of rest) →
        cond t (record { first = []; rest = Some (bytes ++ rest) }) (with_first b (parts_of (bytes ++ rest))) ≡ in_front (b ∷ bytes) (parts_of rest)
    by_test true h same = absurd (cc)
    by_test false h same = ap (with_first b) same

high_byte : (b : ℕ) (bytes : List ℕ) → 128 ≤ b → has_no_space bytes ≡ true → has_no_space (b ∷ bytes) ≡ true
high_byte b bytes high none = and_true (not (b == space_character)) (has_no_space bytes) (ap not (other_byte b 32 (omega arith))) none

-- the bytes of a character that is no space
no_space_in : (c : ℕ) → c ≢ 32 → has_no_space (encode_utf8 c) ≡ true
unfolding encode
no_space_in c other =
    cond_both (nat_lt c 128) (c ∷ []) _ (λ bytes. has_no_space bytes ≡ true) (λ _. and_true (not (c == space_character)) true (ap not (other_byte c 32 other)) refl)
    (λ _. cond_both (nat_lt c 2048) ((192 + c / 64) ∷ next c ∷ []) _ (λ bytes. has_no_space bytes ≡ true)
    (λ _. high_byte (192 + c / 64) (next c ∷ []) (omega arith) (high_byte (next c) [] (omega arith) refl))
    (λ _. cond_both (nat_lt c 65536) ((224 + c / 4096) ∷ next (c / 64) ∷ next c ∷ []) _ (λ bytes. has_no_space bytes ≡ true)
    (λ _.
    high_byte (224 + c / 4096) (next (c / 64) ∷ next c ∷ []) (omega arith)
    (high_byte (next (c / 64)) (next c ∷ []) (omega arith) (high_byte (next c) [] (omega arith) refl)))
    (λ _.
    high_byte (240 + c / 262144) (next (c / 4096) ∷ next (c / 64) ∷ next c ∷ []) (omega arith)
    (high_byte (next (c / 4096)) (next (c / 64) ∷ next c ∷ []) (omega arith)
    (high_byte (next (c / 64)) (next c ∷ []) (omega arith) (high_byte (next c) [] (omega arith) refl))))))

record IsTextParts (parts : Parts) : Type 0 where
  first : IsText parts.first
  rest : IfSome parts.rest IsText

text_with : (c : ℕ) → is_char c ≡ true → (word : List ℕ) → IsText word → IsText (encode_utf8 c ++ word)
text_with c allowed word text = record {
  characters = c ∷ text.characters;
  allowed = and_true (is_char c) (list_all is_char text.characters) allowed text.allowed;
  spelled = ap (λ bytes. encode_utf8 c ++ bytes) text.spelled;
}

parts_of_characters : (cs : List ℕ) → list_all is_char cs ≡ true → IsTextParts (parts_of (encode_utf8_all cs))
unfolding encode
parts_of_characters [] allowed = record { first = record { characters = []; allowed = refl; spelled = refl }; rest = tt }
parts_of_characters (c ∷ cs) allowed =
    let parts = both_true (is_char c) (list_all is_char cs) allowed in
    by_space (c == 32) refl (parts_of_characters cs parts.1) parts.0 parts.1
  where
    same : (c == 32) ≡ true → c ≡ 32
    same h = grind (arith, nat_tests)

    differ : (c == 32) ≡ false → c ≢ 32
    differ h = grind (arith, nat_tests)

    by_space : (t : Bool) → (c == 32) ≡ t → IsTextParts (parts_of (encode_utf8_all cs)) → is_char c ≡ true → list_all is_char cs ≡ true →
        IsTextParts (parts_of (encode_utf8 c ++ encode_utf8_all cs))
    by_space true is texts one others =
        subst (λ (k : ℕ). IsTextParts (parts_of (encode_utf8 k ++ encode_utf8_all cs))) (sym (same is))
        (record { first = record { characters = []; allowed = refl; spelled = refl }; rest = record { characters = cs; allowed = others; spelled = refl } })
    by_space false is texts one others =
        subst IsTextParts (sym (parts_behind (encode_utf8 c) (encode_utf8_all cs) (no_space_in c (differ is))))
        (record { first = text_with c one (parts_of (encode_utf8_all cs)).first texts.first; rest = texts.rest })

parts_are_texts : (line : List ℕ) → IsText line → IsTextParts (parts_of line)
parts_are_texts line is = subst (λ (bytes : List ℕ). IsTextParts (parts_of bytes)) (sym is.spelled) (parts_of_characters is.characters is.allowed)

-- THE USERS

abbrev AreTextUsers : List User → Type 0
AreTextUsers found = AllByRecursion IsTextUser found

with_user_is : (user : User) (before : List User) → AreTextUsers before → IsTextUser user → IfSome (with_user user before) AreTextUsers
with_user_is user before texts is =
    unless_some AreTextUsers (nat_le MAX_USERS (length before) || has_user before user.name) (Some (before ++ user ∷ [])) (all_push IsTextUser before user texts is)

with_attribute_is : (attribute : Attribute) (before : List User) → AreTextUsers before → IsTextAttribute attribute → IfSome (with_attribute attribute before) AreTextUsers
with_attribute_is attribute [] texts is = tt
with_attribute_is attribute (user ∷ []) texts is =
    (record { name = texts.0.name; attributes = all_push IsTextAttribute user.attributes attribute texts.0.attributes is }, tt)
with_attribute_is attribute (user ∷ next ∷ others) texts is =
    map_some AreTextUsers AreTextUsers (λ found. user ∷ found) (with_attribute attribute (next ∷ others))
    (with_attribute_is attribute (next ∷ others) texts.1 is) (λ found are. (texts.0, are))

-- A LINE

-- a line of a file of users, which has no name outside of its crate
abbrev TakenBy : {X Y Z : Type 0} → (X → Y → Z) → Type 0
TakenBy {X} {Y} f = Y

abbrev Line : Type 0
Line = TakenBy with_line

-- with what it says users that hold texts still do
abbrev IsTextLine : Line → Type 0
IsTextLine line = (before : List User) → AreTextUsers before → IfSome (with_line before line) AreTextUsers

user_is : (words : List (List ℕ)) → AreTexts words → IfSome (user_of words) IsTextLine
user_is (key ∷ name ∷ rounds ∷ salt ∷ value ∷ []) texts =
    where_some IsTextLine (bytes_eq key (codes "user")) _
    (then_any IsTextLine _ (rounds_of rounds) (λ count.
    then_any IsTextLine _ (bytes_of salt) (λ salted.
    then_any IsTextLine _ (value_of value) (λ tag before are. with_user_is _ before are (record { name = texts.1.0; attributes = tt })))))
user_is [] texts = tt
user_is (a ∷ []) texts = tt
user_is (a ∷ b ∷ []) texts = tt
user_is (a ∷ b ∷ c ∷ []) texts = tt
user_is (a ∷ b ∷ c ∷ d ∷ []) texts = tt
user_is (a ∷ b ∷ c ∷ d ∷ e ∷ f ∷ words) texts = tt

attribute_is : (behind : List ℕ) → IsText behind → IfSome (attribute_of behind) IsTextLine
attribute_is behind is =
    let parts = parts_are_texts behind is in
    unless_some IsTextLine (is_empty (parts_of behind).first) _
    (map_some IsText IsTextLine _ (parts_of behind).rest parts.rest
    (λ value text before are. with_attribute_is _ before are (record { name = parts.first; values = (text, tt) })))

line_is : (text : List ℕ) → IsText text → IfSome (line_of text) IsTextLine
line_is text is =
    either_some IsTextLine (bytes_eq (parts_of text).first (codes "attr")) (option_and_then attribute_of (parts_of text).rest) (option_and_then user_of (words_of text))
    (then_some IsText IsTextLine attribute_of (parts_of text).rest (parts_are_texts text is).rest attribute_is)
    (then_some AreTexts IsTextLine user_of (words_of text) (words_are_texts text is) user_is)

-- WHAT IS SAID

with_line_is : (before : List User) (line : Option Line) → AreTextUsers before → IfSome line IsTextLine →
    IfSome (option_and_then (with_line before) line) AreTextUsers
with_line_is before None texts is = tt
with_line_is before (Some line) texts is = is before texts

all_said : (number : ℕ) (left : List (List ℕ)) → AllByRecursion SaysText (said_from number left)
all_said number [] = tt
all_said number (line ∷ others) = which (is_text line) refl (is_passed_over line) (all_said (suc number) others)
  where
    which : (text : Bool) → is_text line ≡ text → (passed : Bool) → AllByRecursion SaysText (said_from (suc number) others) →
        AllByRecursion SaysText (cond (not text) (NoText number ∷ []) (cond passed (said_from (suc number) others) (Says number line ∷ said_from (suc number) others)))
    which false e passed texts = (tt, tt)
    which true e true texts = texts
    which true e false texts = (tested_text line e, texts)

-- what follows where the line was good
next_users : (next : Option (List User)) (number : ℕ) (others : List Said) (found : List User) → IfSome next AreTextUsers →
    ((before : List User) → AreTextUsers before → with_lines with_text before others ≡ Ok found → AreTextUsers found) →
    and_then (λ before. with_lines with_text before others) (ok_or next number) ≡ Ok found → AreTextUsers found
next_users None number others found texts later e = absurd (cc)
next_users (Some before) number others found texts later e = later before texts e

users_behind : (before : List User) (says : List Said) (found : List User) → AreTextUsers before → AllByRecursion SaysText says →
    with_lines with_text before says ≡ Ok found → AreTextUsers found
users_behind before [] found texts said e = let same : before ≡ found = cc in subst AreTextUsers same texts
users_behind before (NoText number ∷ others) found texts said e = absurd (cc)
users_behind before (Says number text ∷ others) found texts said e =
    next_users (with_text number text before) number others found (with_line_is before (line_of text) texts (line_is text said.0))
    (λ next are. users_behind next others found are said.1) e

pub users_are_texts : (text : List ℕ) (found : List User) → users text ≡ Ok found → AllByRecursion IsTextUser found
users_are_texts text found e = users_behind [] (said text) found tt (all_said 1 (lines text)) e
