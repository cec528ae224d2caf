-- The identity provider, as a service provider takes part in a logout with it: SAML Profiles, 4.4.
use Rattle.std.specs.Prelude.{ℕ, List, [], ◌∷◌, Option, None, Some}
use Rattle.peer_keys.specs.declared.peers.LogoutPeer.{LogoutPeer}
use Rattle.verdict_codes.specs.declared.codes.Verdict.{Verdict}
use Rattle.logout_answers.specs.Answers as answers
use Rattle.logout_profile.specs.declared.logout.Logout.{Logout}
use Rattle.logout_profile.specs.Verdict.{IsRefused, IsAccepted}
use Rattle.sp_rules.specs.declared.config.SpConfig.{SpConfig}
use Rattle.sp_rules.specs.Keys.{Key, usable}

-- the bytes of the first of some keys, or those where there is none; and those of the second
abbrev pub first_bytes : (otherwise : List ℕ) → List Key → List ℕ
first_bytes otherwise [] = otherwise
first_bytes otherwise (key ∷ keys) = key.bytes

abbrev pub second_bytes : List Key → Option (List ℕ)
second_bytes [] = None
second_bytes (key ∷ []) = None
second_bytes (key ∷ other ∷ keys) = Some other.bytes

-- the identity provider at a moment: the first key that counts then is that of its messages; a second one may count
-- beside it
abbrev pub idp_at : SpConfig → ℕ → LogoutPeer
idp_at config now =
    record { peer = config.idp; key_in = first_bytes config.key_in (usable config now); key_out = config.key_out }

abbrev pub second_key : SpConfig → ℕ → Option (List ℕ)
second_key config now = second_bytes (usable config now)

-- SAML Metadata, 2.4.2: the Location of the provider's SingleLogoutService
abbrev pub logout_address : SpConfig → List ℕ
logout_address config = answers.logout_address config.base

-- what the form that is posted there asks or replies of a logout, or what it is refused for
abbrev pub IsObeyed : SpConfig → (now : ℕ) → (body : List ℕ) → Logout → Type 0
IsObeyed config now body logout =
    IsAccepted (idp_at config now ∷ []) (second_key config now) (logout_address config) config.skew now body logout

abbrev pub IsNotObeyed : SpConfig → (now : ℕ) → (body : List ℕ) → Verdict → Type 0
IsNotObeyed config now body verdict =
    IsRefused (idp_at config now ∷ []) (second_key config now) (logout_address config) config.skew now body verdict
