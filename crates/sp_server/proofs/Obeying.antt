-- A form that is obeyed, over peers, keys and addresses that are the same.
use Rattle.std.specs.Prelude.{Option}
use Rattle.std.proofs.Common.{◌≡◌, ℕ, List, [], ◌∷◌, subst}
use Rattle.peer_keys.specs.declared.peers.LogoutPeer.{LogoutPeer}
use Rattle.logout_profile.specs.declared.logout.Logout.{Logout}
use Rattle.logout_profile.specs.Verdict.{IsAccepted}

pub obeyed_of : (one peer : LogoutPeer) (key second : Option (List ℕ)) (here address : List ℕ) (skew now : ℕ)
    (body : List ℕ) (logout : Logout) → one ≡ peer → key ≡ second → here ≡ address
    → IsAccepted (one ∷ []) key here skew now body logout → IsAccepted (peer ∷ []) second address skew now body logout
obeyed_of one peer key second here address skew now body logout same_peer same_key same_place is =
    subst (λ (a : List ℕ). IsAccepted (peer ∷ []) second a skew now body logout) same_place
    (subst (λ (s : Option (List ℕ)). IsAccepted (peer ∷ []) s here skew now body logout) same_key
    (subst (λ (p : LogoutPeer). IsAccepted (p ∷ []) key here skew now body logout) same_peer is))
