-- The places of rows that come in the order of their keys.
use Rattle.std.specs.Prelude.{ℕ}

-- how many places there are, and how many more fit in without memory
pub record RowPlacesView : Type 0 where
  pub count : ℕ
  pub spare : ℕ
