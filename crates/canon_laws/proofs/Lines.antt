-- The ends of lines, and white space, of a text that is a text, a value and an instruction.
use Rattle.std.proofs.Common.{◌≡◌, ℕ, ◌≤◌, Bool, true, false, cond, ◌&&◌, ◌||◌, not, ◌==◌, nat_lt, nat_eq, List, [], ◌∷◌, ◌++◌, codes, map, IsTrue, IsFalse, refl, sym, ◌∙◌, ap, subst, arith}
use Rattle.std.specs.List.{list_all, starts_with}
use Rattle.std.specs.Char.{encode_utf8}
use Rattle.std.proofs.Math.Utf8.{encode, encodes}
use Rattle.std.proofs.lemmas.Str.{encode_ascii}
use Rattle.std.proofs.lemmas.List.Concat.{flat_map_single}
use borrow.Author.Tests.{leb-true, ltb-true}
use Rattle.xml_spec.specs.Ascii.{tab, line_feed, carriage_return, space_character}
use Rattle.xml_spec.specs.Bytes.{begins_with, has}
use Rattle.xml_spec.specs.Characters.{is_char, IsText}
use Rattle.xml_spec.specs.Syntax.{is_white}
use Rattle.xml_spec.specs.Meaning.{line_ends_after, line_ends, as_blank}
use Rattle.xml_spec.proofs.Tests.{both_true, and_true}
use Rattle.xml_spec.proofs.Ends.{neither}
use Rattle.canon_laws.proofs.Tests.{second_fails, either_fails}
use Rattle.canon_laws.proofs.Bytes.{is_high, high_encode}
use Rattle.canon_laws.proofs.Texts.{empty_text, text_append, character_text}
use Rattle.canon_laws.proofs.Escapes.{written_text}

feed_text : IsText (line_feed ∷ [])
unfolding encode_utf8
feed_text = record { characters = line_feed ∷ []; allowed = refl; spelled = refl }

pub space_text : IsText (space_character ∷ [])
unfolding encode_utf8
space_text = record { characters = space_character ∷ []; allowed = refl; spelled = refl }

-- a byte of ASCII, with a text behind it, whichever way it is read
low_line : (return : Bool) (b : ℕ) (r : List ℕ) → IsText (b ∷ []) → ((flag : Bool) → IsText (line_ends_after flag r)) →
    IsText (line_ends_after return (b ∷ r))
low_line return b r t f = which (b == carriage_return) (return && b == line_feed)
  where
    which : (one two : Bool) → IsText (cond one (line_feed ∷ line_ends_after true r) (cond two (line_ends_after false r) (b ∷ line_ends_after false r)))
    which true two = text_append (line_feed ∷ []) (line_ends_after true r) feed_text (f true)
    which false true = f false
    which false false = text_append (b ∷ []) (line_ends_after false r) t (f false)

high_is_no_return : (b : ℕ) → is_high b ≡ true → (b == carriage_return) ≡ false
high_is_no_return b h = let high : 128 ≤ b = leb-true 128 b h in grind arith

high_is_no_feed : (b : ℕ) → is_high b ≡ true → (b == line_feed) ≡ false
high_is_no_feed b h = let high : 128 ≤ b = leb-true 128 b h in grind arith

-- a byte from 128 on stands as it is
high_line : (return : Bool) (b : ℕ) (r : List ℕ) → is_high b ≡ true → line_ends_after return (b ∷ r) ≡ b ∷ line_ends_after false r
high_line return b r h = rw (high_is_no_return b h, second_fails return (b == line_feed) (high_is_no_feed b h)) refl

high_lines : (return : Bool) (high r : List ℕ) → list_all is_high high ≡ true → ((flag : Bool) → IsText (line_ends_after flag r)) →
    ((z : List ℕ) → IsText z → IsText (high ++ z)) → IsText (line_ends_after return (high ++ r))
high_lines return [] r h f g = f return
high_lines return (b ∷ high) r h f g =
    let parts = both_true (is_high b) (list_all is_high high) h in
    subst IsText (sym (high_line return b (high ++ r) parts.0 ∙ ap (λ z. b ∷ z) (kept high r parts.1))) (g (line_ends_after false r) (f false))
  where
    kept : (bytes x : List ℕ) → list_all is_high bytes ≡ true → line_ends_after false (bytes ++ x) ≡ bytes ++ line_ends_after false x
    kept [] x k = refl
    kept (c ∷ bytes) x k =
        let more = both_true (is_high c) (list_all is_high bytes) k in
        high_line false c (bytes ++ x) more.0 ∙ ap (λ z. c ∷ z) (kept bytes x more.1)

lines_of_characters : (return : Bool) (cs : List ℕ) → list_all is_char cs ≡ true → IsText (line_ends_after return (encodes cs))
lines_of_characters return [] h = empty_text
lines_of_characters return (c ∷ cs) h = which (nat_lt c 128) refl (λ flag. lines_of_characters flag cs (both_true (is_char c) (list_all is_char cs) h).1)
  where
    own : IsText (encode c)
    own = character_text c (both_true (is_char c) (list_all is_char cs) h).0

    which : (low : Bool) → nat_lt c 128 ≡ low → ((flag : Bool) → IsText (line_ends_after flag (encodes cs))) →
        IsText (line_ends_after return (encode c ++ encodes cs))
    which true low f =
        let alone : encode c ≡ c ∷ [] = encode_ascii c (ltb-true c 128 low) in
        subst (λ z. IsText (line_ends_after return (z ++ encodes cs))) (sym alone) (low_line return c (encodes cs) (subst IsText alone own) f)
    which false high f = high_lines return (encode c) (encodes cs) (high_encode c high) f (λ z t. text_append (encode c) z own t)

-- a text whose ends of lines are read is a text
pub lines_text : (bytes : List ℕ) → IsText bytes → IsText (line_ends bytes)
lines_text bytes t = subst (λ z. IsText (line_ends z)) (sym t.spelled) (lines_of_characters false t.characters t.allowed)

blank_high : (b : ℕ) → is_high b ≡ true → as_blank b ∷ [] ≡ b ∷ []
blank_high b h =
    let high : 128 ≤ b = leb-true 128 b h in
    let no_tab : (b == tab) ≡ false = grind arith in
    rw (no_tab, high_is_no_feed b h) refl

blank_low : (b : ℕ) → IsText (b ∷ []) → IsText (as_blank b ∷ [])
blank_low b t = which (b == tab || b == line_feed)
  where
    which : (white : Bool) → IsText (cond white space_character b ∷ [])
    which true = space_text
    which false = t

-- a text whose white space is read as in a value is a text
pub blanks_text : (bytes : List ℕ) → IsText bytes → IsText (map as_blank bytes)
blanks_text bytes t =
    subst IsText (flat_map_single as_blank bytes)
    (written_text (λ b. as_blank b ∷ []) (record { high = blank_high; low = blank_low }) bytes t)

keeps : (b : ℕ) (bytes : List ℕ) (one two : Bool) → (b == carriage_return) ≡ one → list_all (λ c. not (c == carriage_return)) (line_ends_after true bytes) ≡ true →
    list_all (λ c. not (c == carriage_return)) (line_ends_after false bytes) ≡ true →
    list_all (λ c. not (c == carriage_return)) (cond one (line_feed ∷ line_ends_after true bytes) (cond two (line_ends_after false bytes) (b ∷ line_ends_after false bytes))) ≡ true
keeps b bytes true two h f g = f
keeps b bytes false true h f g = g
keeps b bytes false false h f g = and_true _ _ (ap not h) g

-- no carriage return is left
no_return : (return : Bool) (bytes : List ℕ) → IsTrue (list_all (λ b. not (b == carriage_return)) (line_ends_after return bytes))
no_return return [] = refl
no_return return (b ∷ bytes) =
    keeps b bytes (b == carriage_return) (return && b == line_feed) refl (no_return true bytes) (no_return false bytes)

pub no_return_left : (bytes : List ℕ) → IsTrue (list_all (λ b. not (b == carriage_return)) (line_ends bytes))
no_return_left bytes = no_return false bytes

-- what begins with no white space still does
pub begins_still : (bytes : List ℕ) → IsFalse (begins_with is_white bytes) → IsFalse (begins_with is_white (line_ends bytes))
begins_still [] h = refl
begins_still (b ∷ bytes) h =
    let no_return : (b == carriage_return) ≡ false = grind arith in
    rw no_return h

-- no end of an instruction comes up
closed_on : (b : ℕ) (bytes : List ℕ) → has (codes "?>") (b ∷ bytes) ≡ false → has (codes "?>") (line_ends_after false bytes) ≡ false →
    has (codes "?>") (b ∷ line_ends_after false bytes) ≡ false
closed_on b [] h later = h
closed_on b (c ∷ bytes) h later = which (c == carriage_return) later
  where
    which : (one : Bool) → has (codes "?>") (cond one (line_feed ∷ line_ends_after true bytes) (c ∷ line_ends_after false bytes)) ≡ false →
        has (codes "?>") (b ∷ cond one (line_feed ∷ line_ends_after true bytes) (c ∷ line_ends_after false bytes)) ≡ false
    which true behind = either_fails _ _ (second_fails (63 == b) _ refl) behind
    which false behind = either_fails _ _ (neither (starts_with nat_eq (b ∷ c ∷ bytes) (codes "?>")) (has (codes "?>") (c ∷ bytes)) h).0 behind

closed_after : (return : Bool) (bytes : List ℕ) → IsFalse (has (codes "?>") bytes) → IsFalse (has (codes "?>") (line_ends_after return bytes))
closed_after return [] h = refl
closed_after return (b ∷ bytes) h =
    let behind = (neither (starts_with nat_eq (b ∷ bytes) (codes "?>")) (has (codes "?>") bytes) h).1 in
    which (b == carriage_return) (return && b == line_feed) (closed_after true bytes behind) (closed_after false bytes behind)
  where
    which : (one two : Bool) → has (codes "?>") (line_ends_after true bytes) ≡ false → has (codes "?>") (line_ends_after false bytes) ≡ false →
        has (codes "?>") (cond one (line_feed ∷ line_ends_after true bytes) (cond two (line_ends_after false bytes) (b ∷ line_ends_after false bytes))) ≡ false
    which true two after before = after
    which false true after before = before
    which false false after before = closed_on b bytes h before

pub closed_still : (bytes : List ℕ) → IsFalse (has (codes "?>") bytes) → IsFalse (has (codes "?>") (line_ends bytes))
closed_still bytes h = closed_after false bytes h
