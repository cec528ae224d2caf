-- What a call that reads gives.
use Rattle.std.specs.Prelude.{◌≡◌, Option, None, Some, Result, MatchResult}
use Rattle.tree_read.specs.Faults.{IsShapeFault}
use Rattle.tree_read.specs.declared.fault.ShapeFault.{ShapeFault}

-- it is what the definition gives, and the shape is another one only where the definition gives nothing
abbrev pub Reads : {X : Type 0} → Result X ShapeFault → Option X → Type 0
Reads result expected = MatchResult result (λ x. expected ≡ Some x) (λ fault. IsShapeFault fault (expected ≡ None))
