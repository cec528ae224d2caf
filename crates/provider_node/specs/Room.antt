-- Room for what is recorded over a ledger.
use Rattle.std.specs.Prelude.{◌≡◌, ◌⊎◌, ℕ}
use Rattle.record_ledger.specs.Rules.{RecordRules}
use Rattle.record_ledger.specs.Ledger.{Held}
use Rattle.record_ledger.specs.Compacting.{Compacts}
use Rattle.provider_node.specs.Step.{HasPlace}

-- what is recorded, by the ledger over which it is
module _ {R : Type 0} (rules : RecordRules R) (found : Held R) (now : ℕ) (recorded : Held R → R) where
  -- There is room for it: there is a place for it at once, or behind one compaction at the moment.
  abbrev pub HasRoom : Type 0
  HasRoom = HasPlace rules found (recorded found)
      ⊎ ((held : Held R) → Compacts rules now found held → HasPlace rules held (recorded held))

  -- It is recorded over the ledger that was found or, where there was no place for it, over what one compaction made of
  -- this.
  abbrev pub IsRecordedOver : Held R → Type 0
  IsRecordedOver held = (held ≡ found) ⊎ (¬ (HasPlace rules found (recorded found)) × Compacts rules now found held)
