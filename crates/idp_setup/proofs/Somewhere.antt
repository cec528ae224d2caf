-- What holds where there is something.
use Rattle.std.proofs.Common.{Bool, true, false, cond, Option, None, Some, IfSome}
use Rattle.std.specs.Prelude.{option_and_then}
use Rattle.std.specs.Option.{option_map}

pub where_some : {X : Type 0} (P : X → Type 0) (b : Bool) (o : Option X) → IfSome o P → IfSome (cond b o None) P
where_some P true o h = h
where_some P false o h = tt

pub unless_some : {X : Type 0} (P : X → Type 0) (b : Bool) (o : Option X) → IfSome o P → IfSome (cond b None o) P
unless_some P true o h = tt
unless_some P false o h = h

pub either_some : {X : Type 0} (P : X → Type 0) (b : Bool) (one other : Option X) → IfSome one P → IfSome other P → IfSome (cond b one other) P
either_some P true one other h k = h
either_some P false one other h k = k

pub then_some : {X Y : Type 0} (P : X → Type 0) (Q : Y → Type 0) (f : X → Option Y) (o : Option X) → IfSome o P → ((x : X) → P x → IfSome (f x) Q) →
    IfSome (option_and_then f o) Q
then_some P Q f None h g = tt
then_some P Q f (Some x) h g = g x h

pub then_any : {X Y : Type 0} (Q : Y → Type 0) (f : X → Option Y) (o : Option X) → ((x : X) → IfSome (f x) Q) → IfSome (option_and_then f o) Q
then_any Q f None g = tt
then_any Q f (Some x) g = g x

pub map_some : {X Y : Type 0} (P : X → Type 0) (Q : Y → Type 0) (f : X → Y) (o : Option X) → IfSome o P → ((x : X) → P x → Q (f x)) →
    IfSome (option_map f o) Q
map_some P Q f None h g = tt
map_some P Q f (Some x) h g = g x h
