-- The lines that are read are those of the records.
use Rattle.std.specs.Prelude.{◌≡◌, ℕ, List, [], Option, Some, Ok}
use Rattle.std.specs.List.{flat_map}
use Rattle.std.specs.Option.{option_map_or}
use Rattle.std.proofs.Common.{sym, ap, ◌∙◌}
use Rattle.std.proofs.lemmas.List.Folds.{flat_map-map}
use Rattle.record_ledger.specs.Rules.{RecordRules, records_of}
use Rattle.record_ledger.proofs.Records.{records_of-are}
use Rattle.record_lines.specs.Judging.{lines}
use Rattle.record_lines.specs.Reading.{lines_read}

pub lines-read : {R : Type 0} (rules : RecordRules R) (line : R → List ℕ) (version : ℕ) (payloads : List (List ℕ)) (records : List R) → records_of rules version payloads ≡ Ok records
    → lines_read rules line version payloads ≡ lines line records
lines-read {R} rules line version payloads records are =
    let shown : Option R → List ℕ = λ o. option_map_or line o [] in
    sym (flat_map-map shown (rules.found version) payloads) ∙ ap (flat_map shown) (records_of-are rules version records payloads are).1 ∙ flat_map-map shown Some records
