-- What the laws of the verdict say.
use Rattle.std.specs.Prelude.{ℕ, List}
use Rattle.peer_keys.specs.declared.peers.LogoutPeer.{LogoutPeer}
use Rattle.verdict_codes.specs.declared.codes.Verdict.{Verdict}
use Rattle.idp_rules.specs.declared.asked.Asked.{Asked}
use Rattle.idp_rules.specs.Asking.{IsAsked}
use Rattle.idp_rules.specs.Verdict.{IsRefused}

-- Each form asks for a login, or it is refused with a verdict: it can't be that neither holds. (The logic has no law of the excluded
-- middle, and which bytes spell a tree is a relation, so it is not said which of the two holds.)
abbrev pub EachRequestIsJudged : Type 0
EachRequestIsJudged =
    (peers : List LogoutPeer) (address body : List ℕ) → ((asked : Asked) → ¬ (IsAsked peers address body asked))
    → ¬ ((verdict : Verdict) → ¬ (IsRefused peers address body verdict))
