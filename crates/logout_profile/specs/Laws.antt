-- What the laws of the verdict say.
use Rattle.std.specs.Prelude.{ℕ, List, Option}
use Rattle.peer_keys.specs.declared.peers.LogoutPeer.{LogoutPeer}
use Rattle.verdict_codes.specs.declared.codes.Verdict.{Verdict}
use Rattle.logout_profile.specs.declared.logout.Logout.{Logout}
use Rattle.logout_profile.specs.Verdict.{IsRefused, IsAccepted}

-- Each form asks or replies something of a logout, or it is refused with a verdict: it can't be that neither holds. (The logic has no
-- law of the excluded middle, and which bytes spell a tree is a relation, so it is not said which of the two holds.)
abbrev pub EachLogoutFormIsJudged : Type 0
EachLogoutFormIsJudged =
    (peers : List LogoutPeer) (second : Option (List ℕ)) (address : List ℕ) (skew now : ℕ) (body : List ℕ)
    → ((logout : Logout) → ¬ (IsAccepted peers second address skew now body logout))
    → ¬ ((verdict : Verdict) → ¬ (IsRefused peers second address skew now body verdict))
