-- What an identity provider is set up with.
use Rattle.std.specs.Prelude.{◌≡◌, ℕ, ◌≤◌, true, List, ◌++◌, codes, length, IfSome}
use Rattle.std.specs.List.{AllByRecursion}
use Rattle.xml_spec.specs.Characters.{IsText}
use Rattle.owned_values.specs.declared.attributes.Attribute.{Attribute}
use Rattle.peer_keys.specs.Peers.{differ}
use Rattle.peer_keys.specs.declared.peers.LogoutPeer.{LogoutPeer}
use Rattle.user_store.specs.declared.user.User.{User}
use Rattle.idp_rules.specs.declared.config.IdpConfig.{IdpConfig}
use Rattle.provider_config.specs.declared.idp_config.TheConstants.{MAX_PEERS}
use Rattle.saml_time.specs.declared.TheConstants.{GREATEST_SKEW}

-- SAML Metadata, 2.4.3: the address to which requests for a login are posted, and that for logout
abbrev pub sign_on : IdpConfig → List ℕ
sign_on config = config.base ++ codes "/sso"

abbrev pub logout : IdpConfig → List ℕ
logout config = config.base ++ codes "/slo"

-- the texts of a peer hold characters that a document may hold
pub record IsTextPeer (peer : LogoutPeer) : Type 0 where
  pub entity : IsText peer.peer.entity
  pub service : IsText peer.peer.service
  pub logout : IfSome peer.peer.logout IsText

-- so do those of an attribute and of a user
pub record IsTextAttribute (attribute : Attribute) : Type 0 where
  pub name : IsText attribute.name
  pub values : AllByRecursion IsText attribute.values

pub record IsTextUser (user : User) : Type 0 where
  pub name : IsText user.name
  pub attributes : AllByRecursion IsTextAttribute user.attributes

-- A config with which a provider can be started: its texts hold characters that a document may hold, it has at most so many peers,
-- whose names differ, and the difference of the clocks is within its bound.
pub record IsUsable (config : IdpConfig) : Type 0 where
  pub entity : IsText config.entity
  pub base : IsText config.base
  pub peers : AllByRecursion IsTextPeer config.peers
  pub users : AllByRecursion IsTextUser config.users
  pub few : length config.peers ≤ MAX_PEERS
  pub apart : differ config.peers ≡ true
  pub skew : config.skew ≤ GREATEST_SKEW
