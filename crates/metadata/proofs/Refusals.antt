-- What is said of the root of a document is said of the text.
use Rattle.std.proofs.Common.{◌≡◌, ℕ, List, [], ◌∷◌, Option, Some, None, Result, Ok, Err, IfOk, IfErr, sym, ap, ◌∙◌}
use Rattle.owned_values.specs.Gives.{Gives}
use Rattle.xml_spec.specs.Tree.{Nodes}
use Rattle.saml_names.specs.Names.{md}
use Rattle.saml_tree.specs.Documents.{IsSpelled}
use Rattle.saml_tree.specs.declared.node.TreeFault.{TreeFault}
use Rattle.tree_read.specs.Children.{children}
use Rattle.metadata.specs.declared.peer.Role.{Role}
use Rattle.metadata.specs.declared.peer.Peer.{Peer}
use Rattle.metadata.specs.declared.fault.MetaFault.{MetaFault}
use Rattle.metadata.specs.declared.fault.MetaFault.TheVariants as faults
use Rattle.metadata.specs.Metadata.{with_service, described, entity, descriptor, sign_on, logout, not_empty, address, peer_of}
use Rattle.metadata.specs.Faults.{fault_of, IsRead, IsRefused}

-- an element says nothing of how its document is read
no_tree_service : (name : List ℕ) (service other : Option (List ℕ)) (fault : TreeFault) → with_service name service other ≡ Err (faults.Tree fault) → ⊥
no_tree_service name None other fault e = let clash : Err faults.NoPostService ≡ Err (faults.Tree fault) = e in cc
no_tree_service name (Some service) other fault e =
    let clash : Ok (record { entity = name; service = service; logout = other }) ≡ Err (faults.Tree fault) = e in cc

no_tree : (tree : Nodes) (role : Role) (name : Option (List ℕ)) (descriptors : List ℕ) (fault : TreeFault) →
    described tree role name descriptors ≡ Err (faults.Tree fault) → ⊥
no_tree tree role None descriptors fault e = let clash : Err faults.WrongShape ≡ Err (faults.Tree fault) = e in cc
no_tree tree role (Some name) [] fault e = let clash : Err faults.WrongShape ≡ Err (faults.Tree fault) = e in cc
no_tree tree role (Some name) (d ∷ []) fault e =
    no_tree_service name (not_empty (address tree d (sign_on role))) (address tree d logout) fault e
no_tree tree role (Some name) (d ∷ other ∷ others) fault e = let clash : Err faults.WrongShape ≡ Err (faults.Tree fault) = e in cc

module _ (text : List ℕ) (role : Role) (tree : Nodes) (k : ℕ) (spelled : IsSpelled text tree) (first : k ≡ 0) where
  of_root : (said : Result Peer MetaFault) → peer_of tree k role ≡ said → IsRead text role said
  of_root said e = record { tree = tree; spelled = spelled; is = ap (λ n. peer_of tree n role) (sym first) ∙ e }

  pub peer_read : (r : Result Peer MetaFault) → Gives (λ p. p) fault_of r (peer_of tree k role) → IfOk r (λ peer. IsRead text role (Ok peer))
  peer_read (Ok peer) gives = of_root (Ok peer) gives
  peer_read (Err fault) gives = tt

  pub peer_refused : (r : Result Peer MetaFault) → Gives (λ p. p) fault_of r (peer_of tree k role) → IfErr r (IsRefused text role)
  peer_refused (Ok peer) gives = tt
  peer_refused (Err (faults.Tree fault)) gives =
      absurd (no_tree tree role (entity tree k) (children tree k (md (descriptor role))) fault gives)
  peer_refused (Err faults.WrongShape) gives = of_root (Err faults.WrongShape) gives
  peer_refused (Err faults.NoPostService) gives = of_root (Err faults.NoPostService) gives
  peer_refused (Err faults.NoMemory) gives = tt
