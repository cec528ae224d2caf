-- What a refusal of an assertion says.
use Rattle.std.specs.Prelude.{Option, None, Some}
use Rattle.tree_read.specs.Faults.{IsCaused}
use Rattle.tree_read.specs.declared.fault.OtherShape.{OtherShape}
use Rattle.tree_read.specs.declared.fault.ShapeFault.{ShapeFault}
use Rattle.tree_read.specs.declared.fault.ShapeFault.TheVariants as shapes
use Rattle.assertion_model.specs.declared.fault.LoginFault.{LoginFault}
use Rattle.assertion_model.specs.declared.fault.LoginFault.TheVariants as logins

-- what the fault of a part is of the whole
abbrev pub of_shape : ShapeFault → LoginFault
of_shape shapes.WrongShape = logins.BadAssertion
of_shape shapes.NoMemory = logins.NoMemory

-- the fault that an error of reading stands for
abbrev pub login_fault : LoginFault → Option OtherShape
login_fault logins.BadAssertion = Some (record {})
login_fault logins.NoMemory = None

-- the assertion is bad only where this holds
abbrev pub IsLoginFault : LoginFault → Type 0 → Type 0
IsLoginFault error cause = IsCaused (login_fault error) (λ _. cause)
