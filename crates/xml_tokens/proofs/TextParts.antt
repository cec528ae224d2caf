-- How a text is read part by part.
use Rattle.std.proofs.Common.{◌≡◌, ℕ, List, [], ◌++◌, length, take, drop, refl, sym, ap, ◌∙◌, append_assoc, append-nil}
use Rattle.std.proofs.Math.Seq.{take-append_seam}
use Rattle.std.proofs.lemmas.List.{append_cancel_left, take-append-drop}

-- how far what is meant has been put
pub record IsPutSoFar (all rest before out : List ℕ) : Type 0 where
  pub done : List ℕ
  pub put : out ≡ before ++ done
  pub left : all ≡ done ++ rest

pub none_put : (all before : List ℕ) → IsPutSoFar all all before before
none_put all before = record { done = []; put = sym (append-nil before); left = refl }

pub more_put : (all rest before out meant behind new : List ℕ) → IsPutSoFar all rest before out → rest ≡ meant ++ behind → new ≡ out ++ meant →
    IsPutSoFar all behind before new
more_put all rest before out meant behind new h e n = record {
  done = h.done ++ meant;
  put = n ∙ ap (λ (x : List ℕ). x ++ meant) h.put ∙ append_assoc before h.done meant;
  left = h.left ∙ ap (λ (x : List ℕ). h.done ++ x) e ∙ sym (append_assoc h.done meant behind);
}

pub all_put : (all rest before out : List ℕ) → IsPutSoFar all rest before out → rest ≡ [] → out ≡ before ++ all
all_put all rest before out h e =
    h.put ∙ ap (λ (x : List ℕ). before ++ x) (sym (h.left ∙ ap (λ (x : List ℕ). h.done ++ x) e ∙ append-nil h.done))

-- a part of what comes next was put, and then the memory ran out
pub part_put : (all rest before out meant behind new : List ℕ) → IsPutSoFar all rest before out → rest ≡ meant ++ behind →
    (k : ℕ) × (new ≡ out ++ take k meant) → (n : ℕ) × (new ≡ before ++ take n all)
part_put all rest before out meant behind new h e part =
    let cut = take part.0 meant in (
      length (h.done ++ cut),
      part.1 ∙ ap (λ (x : List ℕ). x ++ cut) h.put ∙ append_assoc before h.done cut
          ∙ ap (λ (x : List ℕ). before ++ x) (sym (ap (take (length (h.done ++ cut))) whole ∙ take-append_seam (h.done ++ cut) (drop part.0 meant ++ behind))),
    )
  where
    whole : all ≡ (h.done ++ take part.0 meant) ++ (drop part.0 meant ++ behind)
    whole =
        h.left
        ∙ ap (λ (x : List ℕ). h.done ++ x) (e ∙ ap (λ (x : List ℕ). x ++ behind) (sym (take-append-drop part.0 meant)) ∙ append_assoc (take part.0 meant) (drop part.0 meant) behind)
        ∙ sym (append_assoc h.done (take part.0 meant) (drop part.0 meant ++ behind))

-- what is put so far is a part
pub kept_put : (all rest before out new : List ℕ) → IsPutSoFar all rest before out → new ≡ out → (n : ℕ) × (new ≡ before ++ take n all)
kept_put all rest before out new h e =
    (length h.done, e ∙ h.put ∙ ap (λ (x : List ℕ). before ++ x) (sym (ap (take (length h.done)) h.left ∙ take-append_seam h.done rest)))

-- what is meant is compared with a text
pub record IsComparedSoFar (all rest text left : List ℕ) : Type 0 where
  pub from : rest ≡ left → all ≡ text
  pub to : all ≡ text → rest ≡ left

pub more_compared : (all rest text left meant behind more : List ℕ) → IsComparedSoFar all rest text left → rest ≡ meant ++ behind → left ≡ meant ++ more →
    IsComparedSoFar all behind text more
more_compared all rest text left meant behind more h e l = record {
  from = λ same. h.from (e ∙ ap (λ (x : List ℕ). meant ++ x) same ∙ sym l);
  to = λ same. append_cancel_left meant behind more (sym e ∙ h.to same ∙ l);
}

pub differs : (all rest text left meant behind : List ℕ) → IsComparedSoFar all rest text left → rest ≡ meant ++ behind →
    ((x : List ℕ) → ¬ (left ≡ meant ++ x)) → all ≡ text → ⊥
differs all rest text left meant behind h e none same = none behind (sym (h.to same) ∙ e)
