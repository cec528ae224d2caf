-- Records with marks that say which are kept.
use Rattle.std.proofs.Common.{◌≡◌, Bool, true, false, ◌||◌, List, [], ◌∷◌, ◌++◌, refl, sym, ap, ◌∙◌}
use Rattle.std.specs.List.{list_any}
use Rattle.std.proofs.lemmas.Bool.{false≢true, or_from, or_parts, false_from_ne_true}
use Rattle.record_ledger.specs.Rules.{RecordRules}
use Rattle.record_ledger.specs.Marks.{Each, Marked, all, kept, KeepsAll, AreClosed}
use Rattle.record_ledger.proofs.Words.{each_push}

module _ {R : Type 0} where
  pub all_push : (marks : List (Marked R)) (m : Marked R) → all (marks ++ m ∷ []) ≡ all marks ++ m.1 ∷ []
  all_push [] m = refl
  all_push (n ∷ marks) m = ap (λ rest. n.1 ∷ rest) (all_push marks m)

  pub kept_push : (marks : List (Marked R)) (r : R) → kept (marks ++ (true, r) ∷ []) ≡ kept marks ++ r ∷ []
  kept_push [] r = refl
  kept_push ((true, x) ∷ marks) r = ap (λ rest. x ∷ rest) (kept_push marks r)
  kept_push ((false, x) ∷ marks) r = kept_push marks r

  pub left_push : (marks : List (Marked R)) (r : R) → kept (marks ++ (false, r) ∷ []) ≡ kept marks
  left_push [] r = refl
  left_push ((true, x) ∷ marks) r = ap (λ rest. x ∷ rest) (left_push marks r)
  left_push ((false, x) ∷ marks) r = left_push marks r

  -- a test that keeps all that pass finds one among the kept just where it finds one among all
  pub any_same : (test : R → Bool) (marks : List (Marked R)) → KeepsAll test marks → list_any test (kept marks) ≡ list_any test (all marks)
  any_same test [] keeps = refl
  any_same test ((true, r) ∷ marks) keeps = ap (λ b. test r || b) (any_same test marks keeps.1)
  any_same test ((false, r) ∷ marks) keeps =
      let not_here : test r ≡ false = false_from_ne_true (test r) (λ here. false≢true (keeps.0 here)) in
      any_same test marks keeps.1 ∙ sym (ap (λ b. b || list_any test (all marks)) not_here)

  pub none_kept : (test : R → Bool) (marks : List (Marked R)) → list_any test (all marks) ≡ false → list_any test (kept marks) ≡ false
  none_kept test [] none = refl
  none_kept test ((true, r) ∷ marks) none =
      let both = or_parts (test r) (list_any test (all marks)) none in
      or_from (test r) (list_any test (kept marks)) both.0 (none_kept test marks both.1)
  none_kept test ((false, r) ∷ marks) none = none_kept test marks (or_parts (test r) (list_any test (all marks)) none).1

module _ {R : Type 0} (rules : RecordRules R) where
  -- one record more that is kept just where those are that it names
  pub closed_push : (earlier : List (Marked R)) (m : Marked R) → AreClosed rules earlier
      → Each (λ (e : Marked R). rules.names m.1 e.1 ≡ true → m.0 ≡ e.0) earlier → AreClosed rules (earlier ++ m ∷ [])
  closed_push [] m closed own = (tt, tt)
  closed_push (e ∷ earlier) m closed own = (
    each_push (λ (n : Marked R). rules.names n.1 e.1 ≡ true → n.0 ≡ e.0) earlier m closed.0 own.0,
    closed_push earlier m closed.1 own.1,
  )
