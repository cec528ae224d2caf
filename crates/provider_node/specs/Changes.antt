-- What a request may do to a ledger that stays whole.
use Rattle.std.specs.Prelude.{◌≡◌, ◌⊎◌, ℕ}
use Rattle.record_ledger.specs.Rules.{RecordRules}
use Rattle.record_ledger.specs.Ledger.{Held, held_with}
use Rattle.record_ledger.specs.Compacting.{Compacts}

module _ {R : Type 0} (rules : RecordRules R) (IsRight : Held R → R → Type 0) (now : ℕ) (found new : Held R) where
  -- nothing, a compaction, or a record behind either, of which this is said over the ledger that it is added to
  pub data Changes : Type 0 where
    Nothing : new ≡ found → Changes
    Anew : Compacts rules now found new → Changes
    More : (held : Held R) (r : R)
        → (held ≡ found) ⊎ Compacts rules now found held → new ≡ held_with r held → IsRight held r → Changes
