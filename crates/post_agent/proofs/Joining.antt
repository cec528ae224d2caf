-- One part after another.
use Rattle.std.proofs.Common.{◌≡◌, ℕ, suc, ◌+◌, ◌<◌, Bool, true, false, nat_eq, List, [], ◌∷◌, ◌++◌, length, drop, get_or, codes, None, Some, refl, sym, ap, ◌∙◌, arith, append_assoc, append-nil}
use Rattle.std.specs.List.{flat_map}
use Rattle.std.specs.Str.{bytes_eq}
use Rattle.std.proofs.lemmas.Bool.Decides.{nat_tests}
use Rattle.std.proofs.lemmas.Slice.Eq.{bytes_eq-Decides}
use Rattle.std.proofs.Math.Seq.{drop-cons}
use denote.Bor.{Bor}
use Rattle.http_wire.specs.Answers.{field_line, page}
use Rattle.post_agent.specs.Cuts.{behind}
use Rattle.post_agent.proofs.Cutting.{behind_front, behind_some}

-- a form behind a head, its type and its size
pub post_steps : (head kind size digits form start one two three four : List ℕ) → start ≡ head → one ≡ start ++ kind →
    two ≡ one ++ field_line (codes "Content-Length") digits →
    digits ≡ size → three ≡ two ++ codes "\r\n" → four ≡ three ++ form →
    four ≡ head ++ kind ++ field_line (codes "Content-Length") size ++ codes "\r\n" ++ form
post_steps head kind size digits form start one two three four is_start is_one is_two is_digits is_three is_four =
    is_four
    ∙ ap (λ xs. xs ++ form) (is_three
    ∙ ap (λ xs. xs ++ codes "\r\n") (is_two
    ∙ ap (λ xs. xs ++ field_line (codes "Content-Length") digits) (is_one ∙ ap (λ xs. xs ++ kind) is_start)
    ∙ ap (λ xs. head ++ kind ++ field_line (codes "Content-Length") xs) is_digits))

-- ---- pieces

abbrev joined : List (Bor (List ℕ)) → List ℕ
joined pieces = flat_map (λ (p : Bor (List ℕ)). p.now) pieces

-- the piece at a place, and those behind it
pub piece_at : (pieces : List (Bor (List ℕ))) (i : ℕ) (d : Bor (List ℕ)) → i < length pieces →
    joined (drop i pieces) ≡ (get_or pieces i d).now ++ joined (drop (i + 1) pieces)
piece_at pieces i d within =
    ap joined (drop-cons pieces i d within)
    ∙ (let next : suc i ≡ i + 1 = omega arith in ap (λ n. (get_or pieces i d).now ++ joined (drop n pieces)) next)

same_front : (front xs ys : List ℕ) → bytes_eq (front ++ xs) (front ++ ys) ≡ bytes_eq xs ys
same_front [] xs ys = refl
same_front (b ∷ front) xs ys = rw (same_byte b) (same_front front xs ys)
  where
    same_byte : (c : ℕ) → nat_eq c c ≡ true
    same_byte c = grind (arith, nat_tests)

pub piece_more : (bytes rest others : List ℕ) (pieces : List (Bor (List ℕ))) (i : ℕ) (d : Bor (List ℕ)) →
    i < length pieces →
    bytes_eq bytes (joined pieces) ≡ bytes_eq rest (joined (drop i pieces)) →
    Some others ≡ behind (get_or pieces i d).now rest →
    bytes_eq bytes (joined pieces) ≡ bytes_eq others (joined (drop (i + 1) pieces))
piece_more bytes rest others pieces i d within so_far found =
    let piece = (get_or pieces i d).now in
    so_far ∙ ap (bytes_eq rest) (piece_at pieces i d within)
    ∙ ap (λ xs. bytes_eq xs (piece ++ joined (drop (i + 1) pieces))) (behind_some piece rest others (sym found))
    ∙ same_front piece others (joined (drop (i + 1) pieces))

pub piece_fails : (bytes rest : List ℕ) (pieces : List (Bor (List ℕ))) (i : ℕ) (d : Bor (List ℕ)) → i < length pieces →
    bytes_eq bytes (joined pieces) ≡ bytes_eq rest (joined (drop i pieces)) →
    None ≡ behind (get_or pieces i d).now rest →
    false ≡ bytes_eq bytes (joined pieces)
piece_fails bytes rest pieces i d within so_far found =
    let piece = (get_or pieces i d).now in
    let others = joined (drop (i + 1) pieces) in
    sym (so_far ∙ ap (bytes_eq rest) (piece_at pieces i d within)
    ∙ by_test piece others (bytes_eq rest (piece ++ others)) refl found)
  where
    by_test : (piece others : List ℕ) (t : Bool) → bytes_eq rest (piece ++ others) ≡ t → None ≡ behind piece rest →
        bytes_eq rest (piece ++ others) ≡ false
    by_test piece others false h none = h
    by_test piece others true h none =
        let same : rest ≡ piece ++ others = (bytes_eq-Decides rest (piece ++ others)).0 h in
        let there : behind piece rest ≡ Some others = ap (behind piece) same ∙ behind_front piece others in
        absurd (cc)

-- the pieces of the page of a verdict
pub refusal_pieces : (digits name : List ℕ) →
    codes "<!DOCTYPE html><html><body><p>Refused: " ++
    (digits ++ (codes " " ++ (name ++ (codes "</p></body></html>" ++ []))))
    ≡ page (codes "Refused: " ++ digits ++ codes " " ++ name)
refusal_pieces digits name =
    ap (λ xs. codes "<!DOCTYPE html><html><body><p>Refused: " ++ xs)
    (grouped digits (codes " ") name (codes "</p></body></html>"))
  where
    grouped : (a b c d : List ℕ) → a ++ (b ++ (c ++ (d ++ []))) ≡ ((a ++ b) ++ c) ++ d
    grouped a b c d = simp (append_assoc, append-nil)
