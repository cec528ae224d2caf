-- What is passed on to a sink through a buffer.
use Rattle.std.specs.Prelude.{◌≡◌, ℕ, ◌≤◌, Bool, true, false, List, ◌++◌, Option}
use Rattle.saml_outside.specs.Counts.{Rose}
use Rattle.saml_outside.specs.Sinks.{then_bytes}

-- a sink, by what it has taken, where it tells that, and by its count of faults
pub record SinkView : Type 0 where
  pub taken : Option (List ℕ)
  pub faults : ℕ

-- a sink with the bytes that are kept for it, and whether it has failed
pub record Passing : Type 0 where
  pub sink : SinkView
  pub kept : List ℕ
  pub failed : Bool

-- These bytes were put since the sink was as it was at first: a part of them was passed on, and the rest is kept. Where the sink
-- failed the rest may be lost, and its count rose.
pub record HasPut (first : SinkView) (bytes : List ℕ) (now : Passing) : Type 0 where
  pub sent : List ℕ
  pub rest : List ℕ
  pub split : bytes ≡ sent ++ rest
  pub taken : now.sink.taken ≡ then_bytes first.taken sent
  pub kept : now.failed ≡ false → now.kept ≡ rest
  pub never_falls : first.faults ≤ now.sink.faults
  pub rose : now.failed ≡ true → Rose first.faults now.sink.faults

abbrev pub passing_of : {K : Type 0} → (K → Option (List ℕ)) → (K → ℕ) → K → List ℕ → Bool → Passing
passing_of taken faults_of sink kept failed = record { sink = record { taken = taken sink; faults = faults_of sink }; kept = kept; failed = failed }

-- these bytes were put from the one state to the other
abbrev pub Appends : Passing → Passing → List ℕ → Type 0
Appends before after bytes = (first : SinkView) (front : List ℕ) → HasPut first front before → HasPut first (front ++ bytes) after
