-- How the definitions see the values of the lines of one name.
use Rattle.std.specs.Prelude.{◌≡◌, ℕ, List, length, nat_lt, IfSome}
use Rattle.std.specs.Option.{option_map}
use Rattle.httparse.specs.Spans.{IsWithin, span_bytes}
use Rattle.http_wire.specs.declared.lines.Values.{Values}
use Rattle.http_wire.specs.Lines.{first_of}

-- these are the values, of which the place of the first in the bytes was kept, and whether there are others
pub record AreValues (bytes : List ℕ) (kept : Values) (values : List (List ℕ)) : Type 0 where
  pub within : IfSome kept.first (IsWithin (length bytes))
  pub first : option_map (span_bytes bytes) kept.first ≡ first_of values
  pub repeated : kept.repeated ≡ nat_lt 1 (length values)
