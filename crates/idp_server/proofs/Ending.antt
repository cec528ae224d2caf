-- What follows for a message of a logout that was posted.
use Rattle.std.specs.Prelude.{slice_get}
use Rattle.std.proofs.Common.{◌≡◌, ℕ, List, Option, None, Some, sym, subst}
use Rattle.http_wire.specs.Requests.{Request}
use Rattle.peer_keys.specs.Peers.{place_of}
use Rattle.peer_keys.specs.declared.peers.LogoutPeer.{LogoutPeer}
use Rattle.protocol_messages.specs.declared.logout.LogoutRequest.{LogoutRequest}
use Rattle.logout_profile.specs.Verdict.{IsAccepted}
use Rattle.logout_profile.specs.declared.logout.Logout.TheVariants as messages
use Rattle.idp_rules.specs.Config.{logout}
use Rattle.idp_rules.specs.declared.config.IdpConfig.{IdpConfig}
use Rattle.idp_server.specs.Step.{AsksToEnd, IsPeer}
use Rattle.idp_server.proofs.Peers.{place_names}

-- ---- the peer of a request

-- a request is of the peer at its place
abbrev pub IsAtItsPlace : Type 0
IsAtItsPlace =
    (peers : List LogoutPeer) (second : Option (List ℕ)) (address : List ℕ) (skew now : ℕ) (body : List ℕ)
    (request : LogoutRequest) (place : ℕ) (relay : Option (List ℕ))
    → (is : IsAccepted peers second address skew now body (messages.Ask request place relay)) → place ≡ is.place

-- the peer that asks to end sessions
pub asking_peer : IsAtItsPlace → (setup : IdpConfig) (request : Request) (now : ℕ) (asked : LogoutRequest)
    (peer : LogoutPeer) (relay : Option (List ℕ)) → AsksToEnd setup request now asked peer relay
    → IsPeer setup peer.peer.entity peer
asking_peer law setup request now asked peer relay asks =
    let o = asks.obeyed in
    let place = law setup.peers None (logout setup) setup.skew now request.body asked asks.place relay o in
    let at : slice_get setup.peers o.place ≡ Some peer =
    subst (λ (p : ℕ). slice_get setup.peers p ≡ Some peer) place asks.there in
    let named = place_names _ setup.peers o.place peer o.known.stands at in
    (o.place, subst (λ (e : List ℕ). place_of e setup.peers ≡ Some o.place) (sym named) o.known.stands, at)
