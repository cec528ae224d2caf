-- The relation between what a call returned and what a definition gives.
use Rattle.std.specs.Prelude.{◌≡◌, Option, None, Some, Result, Ok, Err}

-- A refusal with this fault is right where the definition gives that fault. A refusal for want of memory, which has no
-- fault, is always allowed.
abbrev pub Refuses : {Y F : Type 0} → Option F → Result Y F → Type 0
Refuses None expected = Unit {0}
Refuses (Some fault) expected = expected ≡ Err fault

-- What the call returned is what the definition gives, unless memory ran out. `view` is how the definition sees the
-- value of an Ok. `fault_of` is the fault that an error of the call stands for, and None where it stands for want of
-- memory.
abbrev pub Gives : {X Y E F : Type 0} → (X → Y) → (E → Option F) → Result X E → Result Y F → Type 0
Gives view fault_of (Ok value) expected = expected ≡ Ok (view value)
Gives view fault_of (Err error) expected = Refuses (fault_of error) expected
