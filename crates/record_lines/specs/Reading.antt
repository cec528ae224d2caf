-- The lines of the records that payloads are.
use Rattle.std.specs.Prelude.{ℕ, List, []}
use Rattle.std.specs.List.{flat_map}
use Rattle.std.specs.Option.{option_map_or}
use Rattle.record_ledger.specs.Rules.{RecordRules}

module _ {R : Type 0} (rules : RecordRules R) (line : R → List ℕ) where
  -- the line of the record that a payload is, and nothing where it is none
  abbrev pub line_read : ℕ → List ℕ → List ℕ
  line_read version payload = option_map_or line (rules.found version payload) []

  abbrev pub lines_read : ℕ → List (List ℕ) → List ℕ
  lines_read version payloads = flat_map (line_read version) payloads
