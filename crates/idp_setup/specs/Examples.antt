-- The definitions at worked examples.
use Rattle.std.specs.Prelude.{◌≡◌, ℕ, List, true, false, None, Some, codes, refl}
use Rattle.peer_keys.specs.declared.peers.LogoutPeer.{LogoutPeer}
use Rattle.idp_setup.specs.Setup.{doubled_with, no_peers, with_peer}

-- the first line of a doubled name stays
lines : (doubled_with None 7 true ≡ Some 7) × (doubled_with (Some 5) 7 true ≡ Some 5) × (doubled_with (Some 5) 7 false ≡ Some 5) × (doubled_with None 7 false ≡ None)
lines = (refl, refl, refl, refl)

named : List ℕ → LogoutPeer
named entity =
    record { peer = record { entity = entity; service = codes "s"; logout = None }; key_in = codes "i"; key_out = codes "o" }

-- the line of the later of two peers with one name
doubled : ((with_peer 9 (named (codes "a")) (with_peer 8 (named (codes "b")) (with_peer 7 (named (codes "a")) no_peers))).doubled ≡ Some 9)
    × ((with_peer 8 (named (codes "b")) (with_peer 7 (named (codes "a")) no_peers)).doubled ≡ None)
unfolding named
doubled = (refl, refl)
