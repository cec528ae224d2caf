-- The descriptor of a provider in a signed aggregate: SAML Metadata, 2.3.1, 2.3.2 and 3.1.
use Rattle.std.specs.Prelude.{◌≡◌, ℕ, List, [], ◌∷◌, codes, length, filter, Result, Err}
use Rattle.xml_spec.specs.Tree.{Nodes}
use Rattle.saml_tree.specs.Elements.{IsElement}
use Rattle.tree_read.specs.Texts.{attribute_text}
use Rattle.sig_reference.specs.Form.{Parts}
use Rattle.sig_reference.specs.Signature.{VouchesFirst}
use Rattle.sig_reference.specs.Vouching.{IsIn}
use Rattle.metadata.specs.Metadata.{peer_of}
use Rattle.metadata.specs.declared.peer.Role.{Role}
use Rattle.metadata.specs.declared.peer.Peer.{Peer}
use Rattle.meta_registry.specs.declared.fault.PeerFault.{PeerFault}
use Rattle.meta_registry.specs.declared.fault.PeerFault.TheVariants.{NotListed}
use Rattle.meta_registry.specs.Aggregate.{descriptors, answer_of}
use Rattle.owned_values.specs.Options.{is_there}

-- 2.3.1 and 2.3.2: the descriptors of the provider of this name that aggregate e lists
abbrev pub listed : Nodes → ℕ → List ℕ → List ℕ
listed tree e entity = filter (λ d. is_there entity (attribute_text tree d (codes "entityID"))) (descriptors tree e)

-- what descriptors say, of which there has to be just one
abbrev pub answer_at : Nodes → Role → List ℕ → Result Peer PeerFault
answer_at tree role (d ∷ []) = answer_of (peer_of tree d role)
answer_at tree role found = Err (NotListed (length found))

-- The root of the tree is vouched for with the key by the signature in front, and it lists one descriptor of the provider, which is
-- this element. It lies inside the root and not in that Signature, so that the signature covers all of it.
pub record IsListed (key : List ℕ) (tree : Nodes) (entity : List ℕ) (d : ℕ) : Type 0 where
  pub parts : Parts
  pub vouches : VouchesFirst key tree 0 parts
  pub one : listed tree 0 entity ≡ d ∷ []
  pub element : IsElement tree d
  pub inside : (n : ℕ) → IsIn tree d n → IsIn tree 0 n
  pub outside : (n : ℕ) → IsIn tree d n → ¬ (IsIn tree parts.signature n)
