-- Records with marks that say which are kept.
use Rattle.std.specs.Prelude.{◌≡◌, Bool, true, List, [], ◌∷◌, if◌then◌else◌}
use Rattle.record_ledger.specs.Rules.{RecordRules, AreRecords}

-- what holds of each
abbrev pub Each : {X : Type 0} → (X → Type 0) → List X → Type 0
Each P [] = Unit {0}
Each P (x ∷ xs) = P x × Each P xs

-- a record, behind whether it is kept
abbrev pub Marked : Type 0 → Type 0
Marked R = Bool × R

-- all of them, and those that are kept
abbrev pub all : {R : Type 0} → List (Marked R) → List R
all [] = []
all (m ∷ marks) = m.1 ∷ all marks

abbrev pub kept : {R : Type 0} → List (Marked R) → List R
kept [] = []
kept (m ∷ marks) = if m.0 then m.1 ∷ kept marks else kept marks

-- each that passes is kept
abbrev pub KeepsAll : {R : Type 0} → (R → Bool) → List (Marked R) → Type 0
KeepsAll {R} test = Each (λ (m : Marked R). test m.1 ≡ true → m.0 ≡ true)

module _ {R : Type 0} (rules : RecordRules R) where
  -- of a record and of each that names it, both are kept or neither
  abbrev pub NamersOf : Marked R → List (Marked R) → Type 0
  NamersOf m = Each (λ (n : Marked R). rules.names n.1 m.1 ≡ true → n.0 ≡ m.0)

  -- The marks are closed: of two records of which the later names the earlier, both are kept or neither.
  abbrev pub AreClosed : List (Marked R) → Type 0
  AreClosed [] = Unit {0}
  AreClosed (m ∷ marks) = NamersOf m marks × AreClosed marks

  -- A record stays one of the ledger where some of the ledger's records before it are left out, but none that it names,
  -- and each together with those that it names and those that name it.
  abbrev pub StaysRecord : Type 0
  StaysRecord =
      (marks : List (Marked R)) (r : R) → AreRecords rules (all marks) → AreClosed marks
      → KeepsAll (rules.names r) marks → rules.is_record (all marks) r ≡ true → rules.is_record (kept marks) r ≡ true
