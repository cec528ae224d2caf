-- With which config a hub can be started.
use Rattle.std.specs.Prelude.{◌≡◌, ℕ, ◌≤◌, true, List, ◌++◌, codes, length, IfSome}
use Rattle.std.specs.List.{AllByRecursion}
use Rattle.peer_keys.specs.Peers.{differ}
use Rattle.idp_rules.specs.Config.{IsTextPeer}
use Rattle.provider_config.specs.declared.idp_config.TheConstants.{MAX_PEERS}
use Rattle.saml_time.specs.declared.TheConstants.{GREATEST_SKEW}
use Rattle.sp_answers.specs.Answers.{HoldsTexts}
use Rattle.identity_hub.specs.declared.config.HubConfig.{HubConfig}

-- SAML Metadata, 2.4.3: the address to which requests for a login are posted
abbrev pub sign_on : HubConfig → List ℕ
sign_on config = config.upstream.base ++ codes "/sso"

-- A config with which a hub can be started: towards the provider above as a service provider's, and with peers as an
-- identity provider's. Its texts hold characters that a document may hold, the difference of the clocks and the times
-- of its keys are in order, and it has at most so many peers, whose names differ.
pub record IsUsable (config : HubConfig) : Type 0 where
  pub texts : HoldsTexts config.upstream
  pub skew : config.upstream.skew ≤ GREATEST_SKEW
  pub times : IfSome config.upstream.next_in (λ next. next.from ≤ next.until)
  pub peers : AllByRecursion IsTextPeer config.peers
  pub few : length config.peers ≤ MAX_PEERS
  pub apart : differ config.peers ≡ true
