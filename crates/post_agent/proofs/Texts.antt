-- Texts in pages, and texts of bytes.
use Rattle.std.proofs.Common.{◌≡◌, ◌≢◌, ℕ, zero, suc, ◌-◌, ◌<◌, Bool, true, false, cond, nat_eq, nat_lt, List, [], ◌∷◌, ◌++◌, length, take, drop, get_or, codes, Option, None, Some, IfSome, MatchOption, Ok, refl, sym, ap, ◌∙◌, subst, arith, append_assoc, IsUtf8}
use Rattle.std.specs.Prelude.{option_and_then}
use Rattle.std.specs.List.{starts_with}
use Rattle.std.specs.Option.{option_map}
use Rattle.std.specs.Result.{result_ok}
use Rattle.std.specs.Str.{is_utf8}
use Rattle.std.proofs.lemmas.Bool.Decides.{nat_tests}
use Rattle.std.proofs.lemmas.List.{take_all, length-drop}
use Rattle.std.proofs.lemmas.Str.{IsUtf8-from_is_utf8, is_utf8-from_IsUtf8}
use denote.Bor.{Bor}
use Rattle.base64.specs.Engines.{standard}
use Rattle.base64.specs.GeneralPurpose.{IsBytes, decode_of}
use Rattle.xml_spec.proofs.Tests.{and_true}
use Rattle.post_binding.specs.Html.{read_text, read_behind}
use Rattle.post_agent.proofs.Cutting.{other_byte}
use Rattle.post_agent.specs.Reading.{first_of, behind_reference, are_bytes, as_bytes, decoded}

-- ---- references

-- bytes of a reference that were read already
skipped : (n : ℕ) (text : List ℕ) → read_behind n text ≡ read_text (drop n text)
skipped zero text = refl
skipped (suc n) [] = refl
skipped (suc n) (b ∷ text) = skipped n text

abbrev character_of : ℕ × List ℕ → Option (List ℕ)
character_of first = option_map (λ rest. first.0 ∷ rest) (read_text first.1)

-- the text behind an ampersand, by which of the references comes
abbrev Read : List ℕ → Bool → Bool → Bool → Bool → Bool → Type 0
Read text amp lt gt quot apos =
    option_and_then (λ (reference : List ℕ × ℕ). option_map (λ rest. reference.1 ∷ rest)
    (read_behind (length reference.0 - 1) text))
    (cond amp (Some (codes "&amp;", 38)) (cond lt (Some (codes "&lt;", 60)) (cond gt (Some (codes "&gt;", 62))
    (cond quot (Some (codes "&quot;", 34)) (cond apos (Some (codes "&#39;", 39)) None)))))
    ≡ option_and_then character_of
    (first_of (option_map (λ rest. (38, rest)) (cond amp (Some (drop 4 text)) None))
    (first_of (option_map (λ rest. (60, rest)) (cond lt (Some (drop 3 text)) None))
    (first_of (option_map (λ rest. (62, rest)) (cond gt (Some (drop 3 text)) None))
    (first_of (option_map (λ rest. (34, rest)) (cond quot (Some (drop 5 text)) None))
    (option_map (λ rest. (39, rest)) (cond apos (Some (drop 4 text)) None))))))

read_each : (text : List ℕ) (amp lt gt quot apos : Bool) → Read text amp lt gt quot apos
read_each text true lt gt quot apos = ap (option_map (λ rest. 38 ∷ rest)) (skipped 4 text)
read_each text false true gt quot apos = ap (option_map (λ rest. 60 ∷ rest)) (skipped 3 text)
read_each text false false true quot apos = ap (option_map (λ rest. 62 ∷ rest)) (skipped 3 text)
read_each text false false false true apos = ap (option_map (λ rest. 34 ∷ rest)) (skipped 5 text)
read_each text false false false false true = ap (option_map (λ rest. 39 ∷ rest)) (skipped 4 text)
read_each text false false false false false = refl

abbrev starts : List ℕ → List ℕ → Bool
starts text front = starts_with nat_eq text front

behind_ampersand : (text : List ℕ) → read_text (38 ∷ text) ≡ option_and_then character_of (behind_reference (38 ∷ text))
behind_ampersand text =
    read_each text (starts text (codes "amp;")) (starts text (codes "lt;")) (starts text (codes "gt;"))
    (starts text (codes "quot;")) (starts text (codes "#39;"))

-- what stands behind a reference is shorter
abbrev Shorter : List ℕ → Option (ℕ × List ℕ) → Type 0
Shorter text o = IfSome o (λ first. length first.1 < length text)

one_shorter : (character n : ℕ) (text : List ℕ) (t : Bool) (other : Option (ℕ × List ℕ)) → Shorter (38 ∷ text) other →
    Shorter (38 ∷ text) (first_of (option_map (λ rest. (character, rest)) (cond t (Some (drop n text)) None)) other)
one_shorter character n text true other h = omega (arith, length-drop n text)
one_shorter character n text false other h = h

last_shorter : (character n : ℕ) (text : List ℕ) (t : Bool) →
    Shorter (38 ∷ text) (option_map (λ rest. (character, rest)) (cond t (Some (drop n text)) None))
last_shorter character n text true = omega (arith, length-drop n text)
last_shorter character n text false = tt

reference_is_shorter : (text : List ℕ) → Shorter (38 ∷ text) (behind_reference (38 ∷ text))
reference_is_shorter text =
    one_shorter 38 4 text (starts text (codes "amp;")) _
    (one_shorter 60 3 text (starts text (codes "lt;")) _ (one_shorter 62 3 text (starts text (codes "gt;")) _
    (one_shorter 34 5 text (starts text (codes "quot;")) _ (last_shorter 39 4 text (starts text (codes "#39;"))))))

abbrev Pair : Type 0
Pair = ℕ × Bor (List ℕ)

pub at_reference : (text : List ℕ) (o : Option Pair) →
    option_map (λ (f : Pair). (f.0, f.1.now)) o ≡ behind_reference text → get_or text 0 0 ≡ 38 → 0 < length text →
    MatchOption o (read_text text ≡ None)
    (λ (f : Pair). (read_text text ≡ option_map (λ rest. f.0 ∷ rest) (read_text f.1.now))
    × (length f.1.now < length text))
at_reference [] o found first some = absurd (omega arith)
at_reference (b ∷ text) o found first some =
    subst (λ (c : ℕ). option_map (λ (f : Pair). (f.0, f.1.now)) o ≡ behind_reference (c ∷ text) →
    MatchOption o (read_text (c ∷ text) ≡ None)
    (λ (f : Pair). (read_text (c ∷ text) ≡ option_map (λ rest. f.0 ∷ rest) (read_text f.1.now))
    × (length f.1.now < length (c ∷ text))))
    (sym first) (by_option o) found
  where
    by_option : (o : Option Pair) → option_map (λ (f : Pair). (f.0, f.1.now)) o ≡ behind_reference (38 ∷ text) →
        MatchOption o (read_text (38 ∷ text) ≡ None)
        (λ (f : Pair). (read_text (38 ∷ text) ≡ option_map (λ rest. f.0 ∷ rest) (read_text f.1.now))
        × (length f.1.now < length (38 ∷ text)))
    by_option None e = behind_ampersand text ∙ ap (option_and_then character_of) (sym e)
    by_option (Some f) e = (
      behind_ampersand text
          ∙ ap (option_and_then character_of) (sym e),
      subst (Shorter (38 ∷ text)) (sym e)
          (reference_is_shorter text),
    )

pub plain_character : (text : List ℕ) → 0 < length text → get_or text 0 0 ≢ 38 →
    (read_text text ≡ option_map (λ rest. get_or text 0 0 ∷ rest) (read_text (take (length text - 1) (drop 1 text))))
    × (length (take (length text - 1) (drop 1 text)) < length text)
plain_character [] some other = absurd (omega arith)
plain_character (b ∷ text) some other =
    let rest_is : take (length (b ∷ text) - 1) text ≡ text = take_all (length (b ∷ text) - 1) text (omega arith) in (
      rw (other_byte b 38 other, rest_is),
      rw rest_is (omega arith),
    )

-- what is found so far, and one more in front of the rest
pub one_found : {X : Type 0} (found : List X) (x : X) (all rest more : Option (List X)) →
    all ≡ option_map (λ xs. found ++ xs) more → more ≡ option_map (λ xs. x ∷ xs) rest →
    all ≡ option_map (λ xs. (found ++ x ∷ []) ++ xs) rest
one_found found x all None more is first = is ∙ ap (option_map (λ xs. found ++ xs)) first
one_found found x all (Some xs) more is first =
    is ∙ ap (option_map (λ xs. found ++ xs)) first ∙ ap Some (sym (append_assoc found (x ∷ []) xs))

-- ---- bytes

are_bytes-true : (bytes : List ℕ) → IsBytes bytes → are_bytes bytes ≡ true
are_bytes-true [] is = refl
are_bytes-true (b ∷ bytes) is =
    let low : nat_lt b 256 ≡ true = le-ltb' b (is 0) in
    and_true _ _ low (are_bytes-true bytes (λ i. is (suc i)))
  where
    le-ltb' : (c : ℕ) → c < 256 → nat_lt c 256 ≡ true
    le-ltb' c h = grind (arith, nat_tests)

pub is_decoded : (symbols message copy : List ℕ) → decode_of standard symbols ≡ Ok message → IsBytes message →
    copy ≡ message → Some copy ≡ decoded symbols
is_decoded symbols message copy decodes is same =
    ap Some same ∙ ap (λ t. cond t (Some message) None) (sym (are_bytes-true message is))
    ∙ ap (λ r. option_and_then as_bytes (result_ok r)) (sym decodes)
