-- Whether an assertion is meant for a service provider, here and now: SAML Profiles, 4.1.4.2 and 4.1.4.3. Moments and the skew
-- between the providers' clocks are in milliseconds.
use Rattle.std.specs.Prelude.{ℕ, ◌+◌, Bool, true, false, not, ◌&&◌, List, [], ◌∷◌, ◌++◌, codes, Option, None, Some, nat_lt, nat_le}
use Rattle.std.specs.List.{list_all, list_any}
use Rattle.std.specs.Str.{bytes_eq}
use Rattle.protocol_messages.specs.declared.response.ResponseHead.{ResponseHead}
pub use Rattle.protocol_messages.specs.Messages.{is_destination}
pub use Rattle.owned_values.specs.Options.{is_if_any}
use Rattle.assertion_model.specs.declared.login.Login.{Login}
use Rattle.sp_rules.specs.declared.config.SpConfig.{SpConfig}

-- where responses go: the provider's AssertionConsumerService
abbrev pub consumer : SpConfig → List ℕ
consumer config = config.base ++ codes "/acs"

-- 4.1.4.2: the Issuer is the identity provider, and so is that of the Response where it has one
abbrev pub is_from : SpConfig → ResponseHead → Login → Bool
is_from config head login = bytes_eq login.issuer config.idp.entity && is_if_any config.idp.entity head.issuer

-- SAML Core, 2.5.1.4: one of these audiences is this provider
abbrev pub names_provider : SpConfig → List (List ℕ) → Bool
names_provider config audiences = list_any (λ audience. bytes_eq audience config.entity) audiences

-- 4.1.4.2: there is an AudienceRestriction, and each includes this provider
abbrev pub is_for : SpConfig → Login → Bool
is_for config login = has_restriction login.audiences && list_all (names_provider config) login.audiences
  where
    has_restriction : List (List (List ℕ)) → Bool
    has_restriction [] = false
    has_restriction (audiences ∷ others) = true

-- 4.1.4.3: the Recipient is this address, and so is the Destination of the Response
abbrev pub is_sent_to : List ℕ → ResponseHead → Login → Bool
is_sent_to address head login = bytes_eq login.recipient address && is_destination address head.has_signature head.destination

-- now is before the moment, where there is one, by a clock that differs so much at most
abbrev pub is_before_with : ℕ → ℕ → Option ℕ → Bool
is_before_with skew now None = true
is_before_with skew now (Some end) = nat_lt now (end + skew)

-- now is at or behind the moment, where there is one, by a clock that differs so much at most
abbrev pub is_from_with : ℕ → ℕ → Option ℕ → Bool
is_from_with skew now None = true
is_from_with skew now (Some start) = nat_le start (now + skew)

-- SAML Core, 2.5.1.2, and 4.1.4.3: the Conditions hold now, the confirmation may still be presented, and the session that the
-- identity provider grants has not ended
abbrev pub is_in_time : SpConfig → ℕ → Login → Bool
is_in_time config now login =
    is_from_with config.skew now login.not_before && is_before_with config.skew now login.not_on_or_after
    && is_before_with config.skew now (Some login.confirm_until) && is_before_with 0 now login.session_until

-- the assertion is meant for this provider, here and now
abbrev pub is_meant : SpConfig → ℕ → ResponseHead → Login → Bool
is_meant config now head login =
    is_from config head login && is_for config login && is_sent_to (consumer config) head login && is_in_time config now login
