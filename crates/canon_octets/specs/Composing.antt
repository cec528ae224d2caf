-- The places here keep what a place has to keep.
use Rattle.std.specs.Prelude.{◌≡◌, ℕ, List, ◌++◌}
use Rattle.std.proofs.Common.{sym, ap, ◌∙◌, subst, append_assoc}
use Rattle.std.proofs.lemmas.List.{append-nil}
use Rattle.canon_octets.specs.Places.{IsAppending}

-- a place that is seen as the bytes that it has
pub appends_to_view : {S : Type 0} → (view : S → List ℕ) → IsAppending {S = S} (λ before after bytes. view after ≡ view before ++ bytes)
appends_to_view view = record {
  nothing = λ place. sym (append-nil (view place));
  joined =
      λ before between after front back first then.
      then ∙ ap (λ xs. xs ++ back) first ∙ append_assoc (view before) front back;
}

-- a place that takes so many bytes, and is known by those that were put into it
pub appends_by_taking : {S : Type 0} → (taken : S → ℕ → List ℕ → Type 0) →
    IsAppending {S = S} (λ before after bytes. (limit : ℕ) (front : List ℕ) →
    taken before limit front → taken after limit (front ++ bytes))
appends_by_taking taken = record {
  nothing = λ place limit front has. subst (taken place limit) (sym (append-nil front)) has;
  joined =
      λ before between after front back first then limit bytes has.
      subst (taken after limit) (append_assoc bytes front back) (then limit (bytes ++ front) (first limit bytes has));
}

-- the same under a key
pub appends_by_taking_under : {S K : Type 0} → (taken : S → ℕ → K → List ℕ → Type 0) →
    IsAppending {S = S} (λ before after bytes. (limit : ℕ) (key : K) (front : List ℕ) →
    taken before limit key front → taken after limit key (front ++ bytes))
appends_by_taking_under taken = record {
  nothing = λ place limit key front has. subst (taken place limit key) (sym (append-nil front)) has;
  joined =
      λ before between after front back first then limit key bytes has.
      subst (taken after limit key) (append_assoc bytes front back)
      (then limit key (bytes ++ front) (first limit key bytes has));
}
