-- The table as a contract sees it.
use Rattle.std.specs.Prelude.{ℕ, List}
use Rattle.std.specs.Ordering.{nat_cmp}
use Rattle.std.specs.FinMap.{FinMap}

-- the connections that are kept: under the number of each all bytes that it has brought since it was started
abbrev pub Table : Type 0
Table = FinMap nat_cmp (List ℕ)
