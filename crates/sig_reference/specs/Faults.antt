-- What the fault of a part of a signature is of the whole.
use Rattle.tree_read.specs.declared.fault.ShapeFault.{ShapeFault}
use Rattle.tree_read.specs.declared.fault.ShapeFault.TheVariants as shapes
use Rattle.sig_reference.specs.declared.fault.SigFault.{SigFault}
use Rattle.sig_reference.specs.declared.fault.SigFault.TheVariants as signatures

abbrev pub of_signature : ShapeFault → SigFault
of_signature shapes.WrongShape = signatures.BadSignatureForm
of_signature shapes.NoMemory = signatures.NoMemory
