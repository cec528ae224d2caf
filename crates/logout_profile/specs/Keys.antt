-- Under which keys a peer's messages are taken: SAML Profiles, 4.4.4.1 ("The requester MUST authenticate itself to the responder and
-- ensure message integrity, either by signing the message or using a binding-specific mechanism"), and SAML Core, 5.4.
use Rattle.std.specs.Prelude.{◌≡◌, ◌≢◌, ◌⊎◌, List, [], ◌∷◌, ℕ, Option}
use Rattle.std.specs.Option.{option_to_list}
use Rattle.xml_spec.specs.Tree.{Nodes}
use Rattle.sig_reference.specs.Form.{Parts}
use Rattle.sig_reference.specs.Signature.{Vouches, IsUnvouched}
use Rattle.sig_reference.specs.declared.fault.SigFault.{SigFault}
use Rattle.sig_reference.specs.declared.fault.SigFault.TheVariants.{TagDiffers}
use Rattle.peer_keys.specs.declared.peers.LogoutPeer.{LogoutPeer}

-- the key that is shared with the peer for its messages, and then the second one, where there is one
abbrev pub keys_of : LogoutPeer → Option (List ℕ) → List (List ℕ)
keys_of peer second = peer.key_in ∷ option_to_list second

-- The signature of the root vouches for it under this key, the first of the keys that makes its tag.
abbrev pub IsVouched : List (List ℕ) → Nodes → List ℕ → Type 0
IsVouched [] tree key = ⊥
IsVouched (first ∷ others) tree key =
    ((first ≡ key) × ((parts : Parts) × Vouches key tree 0 parts)) ⊎ (IsUnvouched first tree 0 TagDiffers × IsVouched others tree key)

-- why none does: the fault under the first key or, where that key does not make the tag, the fault under the others
abbrev pub IsNotVouched : List (List ℕ) → Nodes → SigFault → Type 0
IsNotVouched [] tree fault = fault ≡ TagDiffers
IsNotVouched (first ∷ others) tree fault =
    (IsUnvouched first tree 0 fault × (fault ≢ TagDiffers)) ⊎ (IsUnvouched first tree 0 TagDiffers × IsNotVouched others tree fault)
