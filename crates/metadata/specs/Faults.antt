-- What a refusal says.
use Rattle.std.specs.Prelude.{◌≡◌, ◌≢◌, ℕ, List, Option, None, Some, Result, Err}
use Rattle.xml_spec.specs.Tree.{Nodes}
use Rattle.saml_tree.specs.Documents.{IsSpelled}
use Rattle.saml_tree.specs.Documents as trees
use Rattle.saml_tree.specs.declared.node.TreeFault.TheVariants as tree_faults
use Rattle.metadata.specs.declared.peer.Role.{Role}
use Rattle.metadata.specs.declared.peer.Peer.{Peer}
use Rattle.metadata.specs.declared.fault.MetaFault.{MetaFault}
use Rattle.metadata.specs.declared.fault.MetaFault.TheVariants as faults
use Rattle.metadata.specs.Metadata.{peer_of}

-- the fault that an error stands for; want of memory is none
abbrev pub fault_of : MetaFault → Option MetaFault
fault_of faults.NoMemory = None
fault_of fault = Some fault

-- the text is a document whose root says this
pub record IsRead (text : List ℕ) (role : Role) (said : Result Peer MetaFault) : Type 0 where
  pub tree : Nodes
  pub spelled : IsSpelled text tree
  pub is : peer_of tree 0 role ≡ said

-- the text is refused: it is no document that is read, or what its root says is a fault
abbrev pub IsRefused : List ℕ → Role → MetaFault → Type 0
IsRefused text role (faults.Tree fault) = (fault ≢ tree_faults.NoMemory) × trees.IsRefused text fault
IsRefused text role faults.WrongShape = IsRead text role (Err faults.WrongShape)
IsRefused text role faults.NoPostService = IsRead text role (Err faults.NoPostService)
IsRefused text role faults.NoMemory = Unit {0}
