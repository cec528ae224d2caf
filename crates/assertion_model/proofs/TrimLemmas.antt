-- White space that is cut off the ends of a text leaves whole characters.
use Rattle.std.proofs.Common.{◌≡◌, ℕ, ◌<◌, Bool, true, false, cond, nat_lt, List, [], ◌∷◌, ◌++◌, append_assoc, append-nil, length, reverse, ◌⊎◌, inl, inr, refl, sym, ap, ◌∙◌, subst, arith}
use Rattle.std.specs.List.{list_all}
use Rattle.std.proofs.Math.Utf8.{encode, encodes}
use Rattle.std.proofs.lemmas.Bool.{ltb-true}
use Rattle.std.proofs.lemmas.List.{length-reverse, reverse-append, reverse-reverse}
use Rattle.std.proofs.lemmas.List.Folds.{list_all-append}
use Rattle.std.proofs.lemmas.Str.{encode_ascii}
use Rattle.xml_spec.specs.Characters.{is_char, IsText}
use Rattle.xml_spec.specs.Syntax.{is_white}
use Rattle.xml_spec.proofs.NameBytes.{is_high, high_encode, encode_is_not_empty}
use Rattle.xml_spec.proofs.Tests.{both_true, and_true}
use Rattle.canon_laws.proofs.Texts.{empty_text, text_append, character_text}
use Rattle.tree_read.specs.Texts.{behind_white, trimmed}

-- the bytes of a character, in one order or the other: the character itself, or some of which none is ASCII
abbrev IsUnit : ℕ → List ℕ → Type 0
IsUnit c bytes = (bytes ≡ c ∷ []) ⊎ ((0 < length bytes) × (list_all is_high bytes ≡ true))

unit_of : (c : ℕ) → IsUnit c (encode c)
unit_of c = which (nat_lt c 128) refl
  where
    which : (low : Bool) → nat_lt c 128 ≡ low → IsUnit c (encode c)
    which true h = inl (encode_ascii c (ltb-true c 128 h))
    which false h = inr (encode_is_not_empty c, high_encode c h)

all_reversed : (p : ℕ → Bool) (xs : List ℕ) → list_all p xs ≡ true → list_all p (reverse xs) ≡ true
all_reversed p [] h = refl
all_reversed p (x ∷ xs) h =
    let parts = both_true (p x) (list_all p xs) h in
    ap (list_all p) (reverse-append (x ∷ []) xs) ∙ list_all-append p (reverse xs) (x ∷ [])
    ∙ and_true _ _ (all_reversed p xs parts.1) (and_true _ _ parts.0 refl)

unit_reversed : (c : ℕ) (bytes : List ℕ) → IsUnit c bytes → IsUnit c (reverse bytes)
unit_reversed c bytes (inl one) = inl (ap reverse one)
unit_reversed c bytes (inr high) = inr (omega (arith, length-reverse bytes, high.0), all_reversed is_high bytes high.1)

high_is_not_white : (b : ℕ) → is_high b ≡ true → is_white b ≡ false
high_is_not_white b h = grind arith

-- what stands in front of the rest is passed over, or stays with it
abbrev IsCutWhole : List ℕ → List ℕ → Type 0
IsCutWhole bytes rest = (behind_white (bytes ++ rest) ≡ behind_white rest) ⊎ (behind_white (bytes ++ rest) ≡ bytes ++ rest)

high_stays : (bytes rest : List ℕ) → 0 < length bytes → list_all is_high bytes ≡ true → behind_white (bytes ++ rest) ≡ bytes ++ rest
high_stays [] rest some h = absurd (omega arith)
high_stays (b ∷ bytes) rest some h =
    ap (λ white. cond white (behind_white (bytes ++ rest)) (b ∷ (bytes ++ rest))) (high_is_not_white b (both_true (is_high b) _ h).0)

unit_cut : (c : ℕ) (bytes rest : List ℕ) → IsUnit c bytes → IsCutWhole bytes rest
unit_cut c bytes rest (inl one) = subst (λ x. IsCutWhole x rest) (sym one) (which (is_white c))
  where
    which : (white : Bool) → (cond white (behind_white rest) (c ∷ rest) ≡ behind_white rest) ⊎ (cond white (behind_white rest) (c ∷ rest) ≡ c ∷ rest)
    which true = inl refl
    which false = inr refl
unit_cut c bytes rest (inr high) = inr (high_stays bytes rest high.0 high.1)

-- AT THE FRONT

front_cut : (cs : List ℕ) → list_all is_char cs ≡ true → IsText (behind_white (encodes cs))
front_cut [] h = empty_text
front_cut (c ∷ cs) h = elim (unit_cut c (encode c) (encodes cs) (unit_of c)) [
  | inl past ↦ subst IsText (sym past) (front_cut cs (both_true (is_char c) _ h).1)
  | inr stays ↦ subst IsText (sym stays) (record { characters = c ∷ cs; allowed = h; spelled = refl })
]

-- AT THE END

-- the bytes of characters, each turned round
abbrev backwards : List ℕ → List ℕ
backwards [] = []
backwards (c ∷ cs) = reverse (encode c) ++ backwards cs

backwards_append : (cs ds : List ℕ) → backwards (cs ++ ds) ≡ backwards cs ++ backwards ds
backwards_append [] ds = refl
backwards_append (c ∷ cs) ds =
    ap (λ z. reverse (encode c) ++ z) (backwards_append cs ds) ∙ sym (append_assoc (reverse (encode c)) (backwards cs) (backwards ds))

turned : (cs : List ℕ) → reverse (encodes cs) ≡ backwards (reverse cs)
turned [] = refl
turned (c ∷ cs) =
    reverse-append (encode c) (encodes cs) ∙ ap (λ z. z ++ reverse (encode c)) (turned cs)
    ∙ ap (λ z. backwards (reverse cs) ++ z) (sym (append-nil (reverse (encode c))))
    ∙ sym (backwards_append (reverse cs) (c ∷ [])) ∙ ap backwards (sym (reverse-append (c ∷ []) cs))

text_of_turned : (cs : List ℕ) → list_all is_char cs ≡ true → IsText (reverse (backwards cs))
text_of_turned [] h = empty_text
text_of_turned (c ∷ cs) h =
    let parts = both_true (is_char c) (list_all is_char cs) h in
    subst IsText (sym (reverse-append (reverse (encode c)) (backwards cs) ∙ ap (λ z. reverse (backwards cs) ++ z) (reverse-reverse (encode c))))
    (text_append (reverse (backwards cs)) (encode c) (text_of_turned cs parts.1) (character_text c parts.0))

turned_cut : (cs : List ℕ) → list_all is_char cs ≡ true → IsText (reverse (behind_white (backwards cs)))
turned_cut [] h = empty_text
turned_cut (c ∷ cs) h = elim (unit_cut c (reverse (encode c)) (backwards cs) (unit_reversed c (encode c) (unit_of c))) [
  | inl past ↦ subst (λ z. IsText (reverse z)) (sym past) (turned_cut cs (both_true (is_char c) _ h).1)
  | inr stays ↦ subst (λ z. IsText (reverse z)) (sym stays) (text_of_turned (c ∷ cs) h)
]

end_cut : (bytes : List ℕ) → IsText bytes → IsText (reverse (behind_white (reverse bytes)))
end_cut bytes t =
    subst (λ z. IsText (reverse (behind_white z))) (sym (ap reverse t.spelled ∙ turned t.characters))
    (turned_cut (reverse t.characters) (all_reversed is_char t.characters t.allowed))

-- AT BOTH ENDS

pub trimmed_text : (bytes : List ℕ) → IsText bytes → IsText (trimmed bytes)
trimmed_text bytes t =
    end_cut (behind_white bytes) (subst (λ z. IsText (behind_white z)) (sym t.spelled) (front_cut t.characters t.allowed))
