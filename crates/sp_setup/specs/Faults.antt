-- What a fault of setting up says.
use Rattle.std.specs.Prelude.{◌≡◌, ℕ, List}
use Rattle.saml_outside.specs.Counts.{Rose}
use Rattle.saml_outside.specs.declared.stop.ReadStop.{ReadStop}
use Rattle.saml_outside.specs.declared.stop.ReadStop.TheVariants as stops
use Rattle.sp_setup.specs.declared.fault.SetupFault.{SetupFault}
use Rattle.sp_setup.specs.declared.fault.SetupFault.TheVariants as faults

abbrev pub of_stop : ReadStop → SetupFault
of_stop stops.ReadFault = faults.ReadFault
of_stop stops.NoMemory = faults.NoMemory

-- A file and a line of it are told only where this holds of them, and a reading that failed only where the count of faults
-- rose. Want of memory is always allowed.
abbrev pub IsFaultOf : (List ℕ → ℕ → Type 0) → ℕ → ℕ → SetupFault → Type 0
IsFaultOf IsRight before now (faults.BadFile file line) = IsRight file line
IsFaultOf IsRight before now faults.ReadFault = Rose before now
IsFaultOf IsRight before now faults.NoMemory = Unit {0}

-- this file and line are told, or there was no memory for it
abbrev pub IsBad : List ℕ → ℕ → SetupFault → Type 0
IsBad file line (faults.BadFile told number) = (told ≡ file) × (number ≡ line)
IsBad file line faults.ReadFault = ⊥
IsBad file line faults.NoMemory = Unit {0}
