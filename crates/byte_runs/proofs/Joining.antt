-- Runs side by side.
use Rattle.std.proofs.Common.{ℕ, ◌+◌, List, Bool, take, drop, rules}
use Rattle.std.proofs.lemmas.List.Folds.{list_all-append}
use Rattle.std.proofs.Math.Seq.{take-add}
use Rattle.xml_spec.specs.Bytes.{AllPass}

-- a run, and a run of what stands behind it
pub joined : (test : ℕ → Bool) (bytes : List ℕ) (i n : ℕ) → AllPass test (take i bytes) → AllPass test (take n (drop i bytes)) →
    AllPass test (take (i + n) bytes)
joined test bytes i n front back = rw (take-add i n bytes, list_all-append test (take i bytes) (take n (drop i bytes))) (search rules)
