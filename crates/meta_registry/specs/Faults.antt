-- What a text is that was read as an aggregate, and what a refusal says.
use Rattle.std.specs.Prelude.{◌≡◌, ◌≢◌, ℕ, List, Option, None, Some, map, IsSome}
use Rattle.xml_spec.specs.Tree.{Nodes}
use Rattle.saml_tree.specs.Documents.{IsSpelled}
use Rattle.saml_tree.specs.Documents as trees
use Rattle.saml_tree.specs.declared.node.TreeFault.{TreeFault}
use Rattle.saml_tree.specs.declared.node.TreeFault.TheVariants as tree_faults
use Rattle.sig_reference.specs.Form.{Parts}
use Rattle.sig_reference.specs.Signature.{VouchesFirst, IsFirstUnvouched}
use Rattle.sig_reference.specs.declared.fault.SigFault.{SigFault}
use Rattle.sig_reference.specs.declared.fault.SigFault.TheVariants as sig_faults
use Rattle.meta_registry.specs.declared.fault.PeerFault.{PeerFault}
use Rattle.meta_registry.specs.declared.fault.PeerFault.TheVariants as peer_faults
use Rattle.meta_registry.specs.declared.fault.RegistryFault.{RegistryFault}
use Rattle.meta_registry.specs.declared.fault.RegistryFault.TheVariants as faults
use Rattle.meta_registry.specs.Aggregate.{valid_until, descriptors, entry_of, RegistryView}

-- what an error of the reader is of the whole; want of memory stays what it is
abbrev pub of_tree : TreeFault → RegistryFault
of_tree tree_faults.NoMemory = faults.NoMemory
of_tree fault = faults.Tree fault

-- the same of an error of the check of the signature
abbrev pub of_signature : SigFault → RegistryFault
of_signature sig_faults.NoMemory = faults.NoMemory
of_signature fault = faults.Signature fault

-- the fault that an error of asking for a provider stands for; want of memory is none
abbrev pub peer_fault : PeerFault → Option PeerFault
peer_fault peer_faults.NoMemory = None
peer_fault fault = Some fault

-- Element e of the tree is an aggregate, for which the signature in front vouches with the key (SAML Metadata, 3.1), and this is
-- kept of it.
pub record IsRegistryOf (key : List ℕ) (tree : Nodes) (e : ℕ) (registry : RegistryView) : Type 0 where
  pub until : valid_until tree e ≡ Some registry.valid_until
  pub parts : Parts
  pub vouches : VouchesFirst key tree e parts
  pub entries : registry.entries ≡ map (entry_of tree) (descriptors tree e)

-- the first of these conditions that does not hold of element e
abbrev pub IsNoRegistry : List ℕ → Nodes → ℕ → RegistryFault → Type 0
IsNoRegistry key tree e (faults.Tree fault) = ⊥
IsNoRegistry key tree e faults.WrongShape = valid_until tree e ≡ None
IsNoRegistry key tree e (faults.Signature fault) =
    IsSome (valid_until tree e) × (fault ≢ sig_faults.NoMemory) × IsFirstUnvouched key tree e fault
IsNoRegistry key tree e faults.NoMemory = Unit {0}

-- the text is a document whose root is such an aggregate
pub record IsRead (text key : List ℕ) (registry : RegistryView) : Type 0 where
  pub tree : Nodes
  pub spelled : IsSpelled text tree
  pub root : IsRegistryOf key tree 0 registry

-- the text is refused: it is no document that is read, or its root is no such aggregate
abbrev pub IsRefused : List ℕ → List ℕ → RegistryFault → Type 0
IsRefused text key (faults.Tree fault) = (fault ≢ tree_faults.NoMemory) × trees.IsRefused text fault
IsRefused text key faults.NoMemory = Unit {0}
IsRefused text key fault = (tree : Nodes) × IsSpelled text tree × IsNoRegistry key tree 0 fault
