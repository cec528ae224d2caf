-- The index of a scope, as a function from a prefix's bytes.
use Rattle.std.specs.Prelude.{ℕ, List, Option, String}
use Rattle.std.specs.declared.alloc.Global.{Global}
use Rattle.std.specs.BTreeMap.{BTreeMap, get_by_text}
use Rattle.std.specs.Map.{update}
use Rattle.std.specs.Str.{bytes_eq}

-- the number of each prefix in force
abbrev pub Index : Type 0
Index = BTreeMap (String Global) ℕ

-- what the index has at a prefix
abbrev pub found : Index → List ℕ → Option ℕ
found m prefix = get_by_text m prefix

-- what the index has at a prefix q, once it has `value` at `prefix`
abbrev pub found_after : Index → List ℕ → Option ℕ → List ℕ → Option ℕ
found_after m prefix value q = update bytes_eq (found m) prefix value q
