use Rattle.std.proofs.Common.{◌≡◌}
use Rattle.peer_keys.specs.Peers.{place_of}
use Rattle.peer_keys.proofs.Placing.{place_behind}
use Rattle.peer_keys.proofs.peers.place_of.Given as goal

abbrev pub invariant-loop-place : goal.invariant-loop-place
invariant-loop-place l = place_behind l.entity l.place l.peers ≡ place_of l.entity l.peers
