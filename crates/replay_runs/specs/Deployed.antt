-- The deployment that `replay` and `make` run: a service provider and an identity provider that know each other, on one host.
use Rattle.std.specs.Prelude.{◌≡◌, ℕ, false, List, [], ◌∷◌, ◌++◌, codes, replicate, None, Some, Ok}
use Rattle.metadata.specs.declared.peer.Peer.{Peer}
use Rattle.peer_keys.specs.declared.peers.LogoutPeer.{LogoutPeer}
use Rattle.provider_config.specs.declared.idp_config.SignMode.TheVariants.{Assertion}
use Rattle.user_store.specs.declared.user.User.{User}
use Rattle.user_store.specs.Store.{users}
use Rattle.idp_rules.specs.declared.config.IdpConfig.{IdpConfig}
use Rattle.sp_rules.specs.declared.config.SpConfig.{SpConfig}
use Rattle.sp_server.specs.Step.{Setup}

abbrev pub peer_of : (entity service logout : List ℕ) → Peer
peer_of entity service logout = record { entity = entity; service = service; logout = Some logout }

-- the keys of what the identity provider signs, and of what the service provider signs
abbrev pub key_of_idp : List ℕ
key_of_idp = replicate 32 0x11

abbrev pub key_of_sp : List ℕ
key_of_sp = replicate 32 0x22

abbrev pub sp_config : SpConfig
sp_config = record {
  entity = codes "urn:example:sp";
  base = codes "http://127.0.0.1:8081";
  listen = codes "127.0.0.1:8081";
  idp = peer_of (codes "urn:example:idp") (codes "http://127.0.0.1:8080/sso") (codes "http://127.0.0.1:8080/slo");
  key_in = key_of_idp;
  next_in = None;
  key_out = key_of_sp;
  id_key = replicate 32 0x44;
  skew = 60000;
}

-- a service provider without a policy, without a registry and without a guard
abbrev pub service_provider : Setup
service_provider = record { config = sp_config; policy = None; expiry = None; guard = false }

abbrev pub peers : List LogoutPeer
peers =
    record {
      peer = peer_of (codes "urn:example:sp") (codes "http://127.0.0.1:8081/acs") (codes "http://127.0.0.1:8081/slo");
      key_in = key_of_sp;
      key_out = key_of_idp;
    }
    ∷ []

-- The users alice and bob, each with the value that PBKDF2 gives for `password` and the salt `salt` in one round, and three attributes.
abbrev pub user_lines : List ℕ → List ℕ
user_lines name =
    codes "user " ++ name ++ codes " 1 73616c74 120fb6cffcf8b32c43e7225256c4f837a86548c92ccc35480805987cb70be17b\n"
    ++ codes "attr mail " ++ name ++ codes "@example.org\nattr group staff\nattr role reader\n"

abbrev pub users_text : List ℕ
users_text = user_lines (codes "alice") ++ user_lines (codes "bob")

abbrev pub idp_config : List User → IdpConfig
idp_config all = record {
  entity = codes "urn:example:idp";
  base = codes "http://127.0.0.1:8080";
  listen = codes "127.0.0.1:8080";
  peers = peers;
  users = all;
  id_key = replicate 32 0x33;
  skew = 60000;
  mode = Assertion;
  fanout = false;
}

-- The identity provider has these users. It signs Assertions.
pub record IsIdpConfig (config : IdpConfig) : Type 0 where
  pub users : users users_text ≡ Ok config.users
  pub is : config ≡ idp_config config.users
