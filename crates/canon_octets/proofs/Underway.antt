-- Bytes of which a part was appended so far.
use Rattle.std.proofs.Common.{◌≡◌, ℕ, List, [], ◌++◌, length, take, refl, sym, ap, ◌∙◌, subst, append_assoc}
use Rattle.std.proofs.lemmas.List.{append-nil, take_at}
use Rattle.canon_octets.specs.Places.{IsAppending, AppendsPart}
use Rattle.canon_octets.proofs.Appending.{part_of_first, part_of_second}

-- from the start to now all was appended but the rest
pub record IsUnderway {S : Type 0} (R : S → S → List ℕ → Type 0) (start now : S) (rest whole : List ℕ) : Type 0 where
  pub done : List ℕ
  pub appended : R start now done
  pub adds_up : done ++ rest ≡ whole

module _ {S : Type 0} {R : S → S → List ℕ → Type 0} (law : IsAppending R) where
  -- nothing was appended yet
  pub underway : (start : S) (whole : List ℕ) → IsUnderway R start start whole whole
  underway start whole = record { done = []; appended = law.nothing start; adds_up = refl }

  -- one more piece
  pub further : (start now next : S) (piece more rest whole : List ℕ) → rest ≡ piece ++ more → IsUnderway R start now rest whole → R now next piece →
      IsUnderway R start next more whole
  further start now next piece more rest whole split so_far put = record {
    done = so_far.done ++ piece;
    appended = law.joined start now next so_far.done piece so_far.appended put;
    adds_up = append_assoc so_far.done piece more ∙ ap (λ xs. so_far.done ++ xs) (sym split) ∙ so_far.adds_up;
  }

  -- no more is to come
  pub complete : (start now : S) (rest whole : List ℕ) → rest ≡ [] → IsUnderway R start now rest whole → R start now whole
  complete start now rest whole none so_far =
      subst (R start now) (sym (append-nil so_far.done) ∙ ap (λ xs. so_far.done ++ xs) (sym none) ∙ so_far.adds_up) so_far.appended

  -- a piece is the last
  pub completed : (start now next : S) (rest whole : List ℕ) → IsUnderway R start now rest whole → R now next rest → R start next whole
  completed start now next rest whole so_far put =
      subst (R start next) so_far.adds_up (law.joined start now next so_far.done rest so_far.appended put)

  -- a part of the next piece
  pub broken_off : (start now next : S) (piece more rest whole : List ℕ) → rest ≡ piece ++ more → IsUnderway R start now rest whole →
      AppendsPart R now next piece → AppendsPart R start next whole
  broken_off start now next piece more rest whole split so_far part =
      subst (AppendsPart R start next) (ap (λ xs. so_far.done ++ xs) (sym split) ∙ so_far.adds_up)
      (part_of_second law start now next so_far.done (piece ++ more) so_far.appended (part_of_first law now next piece more part))

  -- and of the last
  pub last_broken_off : (start now next : S) (rest whole : List ℕ) → IsUnderway R start now rest whole →
      AppendsPart R now next rest → AppendsPart R start next whole
  last_broken_off start now next rest whole so_far part =
      subst (AppendsPart R start next) so_far.adds_up (part_of_second law start now next so_far.done rest so_far.appended part)

  -- nothing more was appended
  pub stopped : (start now : S) (rest whole : List ℕ) → IsUnderway R start now rest whole → AppendsPart R start now whole
  stopped start now rest whole so_far = (
    length so_far.done,
    subst (R start now) (sym (take_at so_far.done rest (length so_far.done) refl) ∙ ap (take (length so_far.done)) so_far.adds_up) so_far.appended,
  )

-- the rest in other words
pub same_rest : {S : Type 0} (R : S → S → List ℕ → Type 0) (start now : S) (rest other whole : List ℕ) → rest ≡ other →
    IsUnderway R start now rest whole → IsUnderway R start now other whole
same_rest R start now rest other whole same so_far = subst (λ (xs : List ℕ). IsUnderway R start now xs whole) same so_far
