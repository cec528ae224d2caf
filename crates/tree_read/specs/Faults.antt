-- What a refusal says.
use Rattle.std.specs.Prelude.{Option, None, Some}
use Rattle.tree_read.specs.declared.fault.OtherShape.{OtherShape}
use Rattle.tree_read.specs.declared.fault.ShapeFault.{ShapeFault}
use Rattle.tree_read.specs.declared.fault.ShapeFault.TheVariants as faults

-- A refusal with a fault is right only where the cause of that fault holds. Want of memory, which is no fault, is always
-- allowed.
abbrev pub IsCaused : {F : Type 0} → Option F → (F → Type 0) → Type 0
IsCaused None cause = Unit {0}
IsCaused (Some fault) cause = cause fault

-- the fault that an error of reading stands for
abbrev pub shape_fault : ShapeFault → Option OtherShape
shape_fault faults.WrongShape = Some (record {})
shape_fault faults.NoMemory = None

-- the shape is another one only where this holds
abbrev pub IsShapeFault : ShapeFault → Type 0 → Type 0
IsShapeFault error cause = IsCaused (shape_fault error) (λ _. cause)
