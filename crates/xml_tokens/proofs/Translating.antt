-- Line ends are translated, and white space in values made spaces, piece by piece.
use Rattle.std.proofs.Common.{◌≡◌, ℕ, Bool, true, false, cond, ◌&&◌, ◌==◌, List, [], ◌∷◌, ◌++◌, map, take, Option, Some, None, unwrap_or, Result, Ok, Err, is_ok, OnOk, OnErr, refl, sym, ◌∙◌, ap, append_assoc, append-nil, arith}
use Rattle.std.proofs.lemmas.List.{append_cancel_left}
use Rattle.std.specs.Option.{MatchOption}
use denote.Ref.{Bor}
use Rattle.xml_spec.specs.Bytes.{has}
use Rattle.xml_spec.specs.Meaning.{line_ends_after, line_ends, as_blank}
use Rattle.xml_spec.proofs.Ends.{neither}
use Rattle.xml_tokens.specs.Lexing.{CutAt}
use Rattle.xml_tokens.proofs.Finding.{front_has_none}
use Rattle.xml_tokens.proofs.TextParts.{IsPutSoFar, more_put, all_put, kept_put}

not_equal : (b n : ℕ) → (b ≡ n → ⊥) → (b == n) ≡ false
not_equal b n h = grind arith

not_return : (b : ℕ) → ((13 == b) && true) ≡ false → (b == 13) ≡ false
not_return b h = grind arith

-- a byte that is no CR stays where no CR stands before it
other_byte : (b : ℕ) (bytes : List ℕ) → (b == 13) ≡ false → line_ends (b ∷ bytes) ≡ b ∷ line_ends bytes
other_byte b bytes h = ap (λ t. cond t (10 ∷ line_ends_after true bytes) (b ∷ line_ends bytes)) h

-- what has no CR stays
line_stays : (line rest : List ℕ) → has (13 ∷ []) line ≡ false → line_ends (line ++ rest) ≡ line ++ line_ends rest
line_stays [] rest h = refl
line_stays (b ∷ line) rest h =
    let parts = neither ((13 == b) && true) (has (13 ∷ []) line) h in
    other_byte b (line ++ rest) (not_return b parts.0) ∙ ap (λ z. b ∷ z) (line_stays line rest parts.1)

-- behind a CR, what does not begin with LF is translated as ever
after_return : (x : List ℕ) → ((y : List ℕ) → ¬ (x ≡ 10 ∷ y)) → line_ends_after true x ≡ line_ends x
after_return [] h = refl
after_return (b ∷ x) h =
    ap (λ t. cond (b == 13) (10 ∷ line_ends_after true x) (cond t (line_ends_after false x) (b ∷ line_ends_after false x)))
    (not_equal b 10 (λ (e : b ≡ 10). h x (ap (λ c. c ∷ x) e)))

-- a line end of either form, and what is left behind it
pub end_of_line : (behind : List ℕ) (b next : Bor (List ℕ)) (r : Option (Bor (List ℕ))) → b.now ≡ behind →
    MatchOption r ((x : List ℕ) → ¬ (behind ≡ 10 ∷ x)) (λ y. behind ≡ 10 ∷ y.now) → next ≡ unwrap_or r b →
    line_ends (13 ∷ behind) ≡ 10 ∷ line_ends next.now
end_of_line behind b next None e h n =
    ap (λ z. 10 ∷ z) (after_return behind h ∙ ap line_ends (sym e ∙ ap (λ (x : Bor (List ℕ)). x.now) (sym n)))
end_of_line behind b next (Some y) e h n =
    ap (λ z. line_ends (13 ∷ z)) h ∙ ap (λ (x : Bor (List ℕ)). 10 ∷ line_ends x.now) (sym n)

-- a line, and then its end
pub line_translated : (rest line behind next : List ℕ) → CutAt (13 ∷ []) rest line behind → line_ends (13 ∷ behind) ≡ 10 ∷ line_ends next →
    line_ends rest ≡ line ++ (10 ∷ line_ends next)
line_translated rest line behind next cut ends =
    ap line_ends cut.split ∙ line_stays line (13 ∷ behind) (front_has_none (13 ∷ []) rest line behind cut) ∙ ap (λ z. line ++ z) ends

-- one more line was put, or a part of it
pub line_put : (text rest line behind next before out new : List ℕ) → CutAt (13 ∷ []) rest line behind → line_ends (13 ∷ behind) ≡ 10 ∷ line_ends next →
    IsPutSoFar (line_ends text) (line_ends rest) before out → new ≡ (out ++ line) ++ 10 ∷ [] → IsPutSoFar (line_ends text) (line_ends next) before new
line_put text rest line behind next before out new cut ends h e =
    more_put (line_ends text) (10 ∷ line_ends next) before (out ++ line) (10 ∷ []) (line_ends next) new
    (more_put (line_ends text) (line_ends rest) before out line (10 ∷ line_ends next) (out ++ line) h
    (line_translated rest line behind next cut ends) refl) refl e

pub line_begun : (text rest line behind next before out new : List ℕ) → CutAt (13 ∷ []) rest line behind → line_ends (13 ∷ behind) ≡ 10 ∷ line_ends next →
    IsPutSoFar (line_ends text) (line_ends rest) before out → new ≡ out ++ line → (k : ℕ) × (new ≡ before ++ take k (line_ends text))
line_begun text rest line behind next before out new cut ends h e =
    kept_put (line_ends text) (10 ∷ line_ends next) before (out ++ line) new
    (more_put (line_ends text) (line_ends rest) before out line (10 ∷ line_ends next) (out ++ line) h
    (line_translated rest line behind next cut ends) refl) e

-- the last line has no CR
pub last_line : (rest : List ℕ) → ((front behind : List ℕ) → ¬ (rest ≡ front ++ ((13 ∷ []) ++ behind))) → line_ends rest ≡ rest
last_line [] h = refl
last_line (b ∷ rest) h =
    other_byte b rest (not_equal b 13 (λ (e : b ≡ 13). h [] rest (ap (λ c. c ∷ rest) e)))
    ∙ ap (λ z. b ∷ z) (last_line rest (λ front behind e. h (b ∷ front) behind (ap (λ z. b ∷ z) e)))

-- the last line was put, or nothing more
pub last_put : {T E : Type 0} (r : Result T E) (text rest before out new : List ℕ) → new ≡ cond (is_ok r) (out ++ rest) out → line_ends rest ≡ rest →
    IsPutSoFar (line_ends text) (line_ends rest) before out → OnOk r (new ≡ before ++ line_ends text)
last_put (Ok x) text rest before out new e last h =
    all_put (line_ends text) [] before new
    (more_put (line_ends text) (line_ends rest) before out rest [] new h (last ∙ sym (append-nil rest)) e) refl
last_put (Err x) text rest before out new e last h = tt

pub last_failed : {T E : Type 0} (r : Result T E) (text rest before out new : List ℕ) → new ≡ cond (is_ok r) (out ++ rest) out →
    IsPutSoFar (line_ends text) (line_ends rest) before out → OnErr r ((k : ℕ) × (new ≡ before ++ take k (line_ends text)))
last_failed (Ok x) text rest before out new e h = tt
last_failed (Err x) text rest before out new e h = kept_put (line_ends text) (line_ends rest) before out new h e

-- what stands behind the text in one list stands behind its rest in the other
pub record IsStripped (text rest left more : List ℕ) : Type 0 where
  pub from : (x : List ℕ) → more ≡ line_ends rest ++ x → left ≡ line_ends text ++ x
  pub to : (x : List ℕ) → left ≡ line_ends text ++ x → more ≡ line_ends rest ++ x

pub line_stripped : (text rest line behind next left more ended later : List ℕ) → CutAt (13 ∷ []) rest line behind →
    line_ends (13 ∷ behind) ≡ 10 ∷ line_ends next → IsStripped text rest left more → more ≡ line ++ ended → ended ≡ 10 ∷ later →
    IsStripped text next left later
line_stripped text rest line behind next left more ended later cut ends h e f =
    let is : line_ends rest ≡ (line ++ 10 ∷ []) ++ line_ends next =
    line_translated rest line behind next cut ends ∙ sym (append_assoc line (10 ∷ []) (line_ends next)) in
    let has : more ≡ (line ++ 10 ∷ []) ++ later = e ∙ ap (λ z. line ++ z) f ∙ sym (append_assoc line (10 ∷ []) later) in
    record {
      from = λ x g. h.from x (has ∙ ap (λ z. (line ++ 10 ∷ []) ++ z) g ∙ sym (append_assoc (line ++ 10 ∷ []) (line_ends next) x) ∙ ap (λ z. z ++ x) (sym is));
      to = λ x g. append_cancel_left (line ++ 10 ∷ []) later (line_ends next ++ x)
          (sym has ∙ h.to x g ∙ ap (λ z. z ++ x) is ∙ append_assoc (line ++ 10 ∷ []) (line_ends next) x);
    }

pub other_line : (text rest line behind next left more : List ℕ) → CutAt (13 ∷ []) rest line behind → line_ends (13 ∷ behind) ≡ 10 ∷ line_ends next →
    IsStripped text rest left more → ((x : List ℕ) → ¬ (more ≡ line ++ x)) → (x : List ℕ) → ¬ (left ≡ line_ends text ++ x)
other_line text rest line behind next left more cut ends h none x e =
    none ((10 ∷ line_ends next) ++ x)
    (h.to x e ∙ ap (λ z. z ++ x) (line_translated rest line behind next cut ends) ∙ append_assoc line (10 ∷ line_ends next) x)

pub other_end : (text rest line behind next left more ended : List ℕ) → CutAt (13 ∷ []) rest line behind → line_ends (13 ∷ behind) ≡ 10 ∷ line_ends next →
    IsStripped text rest left more → more ≡ line ++ ended → ((x : List ℕ) → ¬ (ended ≡ 10 ∷ x)) → (x : List ℕ) → ¬ (left ≡ line_ends text ++ x)
other_end text rest line behind next left more ended cut ends h e none x g =
    none (line_ends next ++ x)
    (append_cancel_left line ended (10 ∷ (line_ends next ++ x))
    (sym e ∙ h.to x g ∙ ap (λ z. z ++ x) (line_translated rest line behind next cut ends) ∙ append_assoc line (10 ∷ line_ends next) x))

pub last_stripped : (text rest left more : List ℕ) (o : Option (Bor (List ℕ))) → IsStripped text rest left more → line_ends rest ≡ rest →
    MatchOption o ((x : List ℕ) → ¬ (more ≡ rest ++ x)) (λ behind. more ≡ rest ++ behind.now) →
    MatchOption o ((x : List ℕ) → ¬ (left ≡ line_ends text ++ x)) (λ behind. left ≡ line_ends text ++ behind.now)
last_stripped text rest left more None h last m = λ x e. m x (h.to x e ∙ ap (λ z. z ++ x) last)
last_stripped text rest left more (Some behind) h last m = h.from behind.now (m ∙ ap (λ z. z ++ behind.now) (sym last))

-- what stands behind the line end that begins with a CR
pub split_by_return : (behind : List ℕ) → (next : List ℕ) × (line_ends (13 ∷ behind) ≡ 10 ∷ line_ends next)
split_by_return [] = ([], refl)
split_by_return (b ∷ behind) = by_test (b == 10) refl
  where
    is_feed : (b : ℕ) → (b == 10) ≡ true → b ≡ 10
    is_feed b e = grind arith

    feed_is : (b : ℕ) → b ≡ 10 → (b == 10) ≡ true
    feed_is b e = grind arith

    by_test : (t : Bool) → (b == 10) ≡ t → (next : List ℕ) × (line_ends (13 ∷ (b ∷ behind)) ≡ 10 ∷ line_ends next)
    by_test true e = (behind, ap (λ c. line_ends (13 ∷ (c ∷ behind))) (is_feed b e))
    by_test false e = (
      b ∷ behind,
      ap (λ z. 10 ∷ z) (after_return (b ∷ behind) (λ y k. let head : b ≡ 10 = cc in
          absurd (let clash : true ≡ false = sym (feed_is b head) ∙ e in cc))),
    )

-- in a value
abbrev pub blanks : List ℕ → List ℕ
blanks bytes = map as_blank (line_ends bytes)
