-- Peers by their names.
use Rattle.std.specs.Prelude.{ℕ, suc, Bool, true, ◌&&◌, not, List, [], ◌∷◌, Option, None, Some, if◌then◌else◌}
use Rattle.std.specs.List.{list_any}
use Rattle.std.specs.Option.{option_map}
use Rattle.std.specs.Str.{bytes_eq}
use Rattle.peer_keys.specs.declared.peers.LogoutPeer.{LogoutPeer}

-- the place of the first peer with a name
abbrev pub place_of : (entity : List ℕ) → List LogoutPeer → Option ℕ
place_of entity [] = None
place_of entity (peer ∷ peers) = if bytes_eq peer.peer.entity entity then Some 0 else option_map suc (place_of entity peers)

-- SAML Metadata, 2.3.2: a name stands for one provider, so no two peers have the same
abbrev pub differ : List LogoutPeer → Bool
differ [] = true
differ (peer ∷ peers) = not (list_any (λ other. bytes_eq other.peer.entity peer.peer.entity) peers) && differ peers
