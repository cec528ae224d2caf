-- Places that take bytes one piece after another.
use Rattle.std.specs.Prelude.{ℕ, List, [], ◌++◌, take}

-- what a relation between an earlier and a later state of a place has to keep, that says which bytes were appended
-- from the one to the other: nothing is appended where the place is left as it is, and bytes that are appended one after
-- the other are appended together
pub record IsAppending {S : Type 0} (appends : S → S → List ℕ → Type 0) : Type 0 where
  pub nothing : (place : S) → appends place place []
  pub joined : (before between after : S) (front back : List ℕ) → appends before between front → appends between after back →
      appends before after (front ++ back)

-- a part of the bytes was appended, from the first on
abbrev pub AppendsPart : {S : Type 0} → (S → S → List ℕ → Type 0) → S → S → List ℕ → Type 0
AppendsPart appends before after bytes = (n : ℕ) × appends before after (take n bytes)
