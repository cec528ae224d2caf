-- Laws of what a call gives.
use Rattle.std.proofs.Common.{◌≡◌, Option, None, Some, Result, Ok, Err, refl}
use Rattle.owned_values.specs.Gives.{Gives, Refuses}

refuses_fault : {Y F : Type 0} (found : Option F) (fault : F) (expected : Result Y F) → found ≡ Some fault → Refuses found expected → expected ≡ Err fault
refuses_fault None fault expected same h = cc
refuses_fault (Some other) fault expected same h = cc

refuses_memory : {Y F : Type 0} (found : Option F) (value : Y) (expected : Result Y F) → expected ≡ Ok value → Refuses found expected → found ≡ None
refuses_memory None value expected same h = refl
refuses_memory (Some other) value expected same h = cc

pub values : {X Y E F : Type 0} (view : X → Y) (fault_of : E → Option F) (expected : Result Y F) (a b : X) → Gives view fault_of (Ok a) expected → Gives view fault_of (Ok b) expected → view a ≡ view b
values view fault_of expected a b one other = cc

pub faults : {X Y E F : Type 0} (view : X → Y) (fault_of : E → Option F) (expected : Result Y F) (e : E) (fault : F) → fault_of e ≡ Some fault → Gives view fault_of (Err e) expected → expected ≡ Err fault
faults view fault_of expected e fault same h = refuses_fault (fault_of e) fault expected same h

pub refuses : {X Y E F : Type 0} (view : X → Y) (fault_of : E → Option F) (expected : Result Y F) (a : X) (e : E) → Gives view fault_of (Ok a) expected → Gives view fault_of (Err e) expected → fault_of e ≡ None
refuses view fault_of expected a e value h = refuses_memory (fault_of e) (view a) expected value h
