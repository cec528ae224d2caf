-- The files that lines name, one after the other.
use Rattle.std.proofs.Common.{◌≡◌, ℕ, ◌+◌, ◌<◌, Bool, true, false, cond, ◌||◌, List, [], ◌∷◌, length, drop, get_or, Option, inr, refl, sym, ap, subst, ◌∙◌, arith}
use Rattle.std.specs.Prelude.{count_by}
use Rattle.std.specs.List.{list_any}
use Rattle.std.proofs.lemmas.List.{drop_more}
use Rattle.std.proofs.lemmas.List.Sums.{sum_by-cons}
use Rattle.saml_outside.specs.Files.{File}
use Rattle.sp_setup.specs.Files.{Reading, only, ◌>>=◌, in_order}

-- ---- a loop over lines

-- what the lines from a place on come to, behind what was read before, is what all of them come to
pub record LeadsToAll {L X : Type 0} (of_line : L → X → Reading X) (told : Option (List File)) (lines left : List L) (start before : X) : Type 0 where
  pub gives : (after : X) → (in_order of_line left before).gives told after → (in_order of_line lines start).gives told after
  pub fails : (file : List ℕ) (line : ℕ) → (in_order of_line left before).fails told file line → (in_order of_line lines start).fails told file line

-- the lines from a place on: the one there, and those behind it
next_left : {L : Type 0} (lines : List L) (i : ℕ) (item : L) → i < length lines → item ≡ get_or lines i item → item ∷ drop (i + 1) lines ≡ drop i lines
next_left {L} lines i item within is = ap (λ (x : L). x ∷ drop (i + 1) lines) is ∙ sym (drop_more lines i item within)

module _ {L X : Type 0} (of_line : L → X → Reading X) (told : Option (List File)) (lines : List L) (start : X) where
  pub leads_on : (i : ℕ) (item : L) (before middle : X) → i < length lines → item ≡ get_or lines i item → LeadsToAll of_line told lines (drop i lines) start before →
      (of_line item before).gives told middle → LeadsToAll of_line told lines (drop (i + 1) lines) start middle
  leads_on i item before middle within is leads adds = record {
    gives = λ after h.
        leads.gives after (subst (λ (left : List L). (in_order of_line left before).gives told after) (next_left lines i item within is) (middle, adds, h));
    fails = λ file line h.
        leads.fails file line (subst (λ (left : List L). (in_order of_line left before).fails told file line) (next_left lines i item within is) (inr (middle, adds, h)));
  }

  -- all were read
  pub read_all : (left : List L) (before : X) → left ≡ [] → LeadsToAll of_line told lines left start before → (in_order of_line lines start).gives told before
  read_all left before none leads =
      leads.gives before (subst (λ (left : List L). (in_order of_line left before).gives told before) (sym none) refl)

-- ---- what all lines do

-- what each line keeps is kept
pub kept : {L X : Type 0} (of_line : L → X → Reading X) (told : Option (List File)) (P : X → Type 0) →
    ((line : L) (before after : X) → (of_line line before).gives told after → P before → P after) →
    (lines : List L) (before after : X) → (in_order of_line lines before).gives told after → P before → P after
kept of_line told P each [] before after h p = subst P (sym h) p
kept of_line told P each (line ∷ others) before after (middle, adds, rest) p =
    kept of_line told P each others middle after rest (each line before middle adds p)

swapped : (a b c : Bool) → ((a || b) || c) ≡ (b || (a || c))
swapped true true c = refl
swapped true false c = refl
swapped false b c = refl

-- what a line of a kind says is there behind all
module _ {L X : Type 0} (of_line : L → X → Reading X) (told : Option (List File)) (is_kind : L → Bool) (is_read : X → Bool)
    (more : (line : L) (before after : X) → (of_line line before).gives told after → is_read after ≡ (is_kind line || is_read before)) where
  all_more : (lines : List L) (before after : X) → (in_order of_line lines before).gives told after → (list_any is_kind lines || is_read before) ≡ is_read after
  all_more [] before after h = sym (ap is_read h)
  all_more (line ∷ others) before after (middle, adds, rest) =
      swapped (is_kind line) (list_any is_kind others) (is_read before)
      ∙ ap (λ b. list_any is_kind others || b) (sym (more line before middle adds))
      ∙ all_more others middle after rest

  pub named_is_read : (lines : List L) (before after : X) → (in_order of_line lines before).gives told after → list_any is_kind lines ≡ true → is_read after ≡ true
  named_is_read lines before after h named = sym (all_more lines before after h) ∙ ap (λ b. b || is_read before) named

-- how many lines of a kind there are
module _ {L X : Type 0} (of_line : L → X → Reading X) (told : Option (List File)) (is_kind : L → Bool) (count : X → ℕ)
    (more : (line : L) (before after : X) → (of_line line before).gives told after → count after ≡ count before + cond (is_kind line) 1 0) where
  pub count_all : (lines : List L) (before after : X) → (in_order of_line lines before).gives told after → count after ≡ count before + count_by is_kind lines
  count_all [] before after h = omega (arith, ap count h)
  count_all (line ∷ others) before after (middle, adds, rest) =
      omega (arith, more line before middle adds, count_all others middle after rest, sum_by-cons (λ (l : L). cond (is_kind l) 1 0) line others)
