-- What an identity provider is set up with: its config, and the files that the config names. They are read right behind it, in the
-- order of its lines, and those of a peer in the order in which its line names them.
use Rattle.std.specs.Prelude.{ℕ, Bool, List, [], ◌∷◌, ◌++◌, Option, None, Some, is_some, if◌then◌else◌}
use Rattle.saml_outside.specs.Files.{File}
use Rattle.metadata.specs.declared.peer.Role.TheVariants.{Sp}
use Rattle.user_store.specs.Store.{users}
use Rattle.user_store.specs.declared.read.TheConstants.{MAX_USERS_LENGTH}
use Rattle.provider_config.specs.IdpConfig as configs
use Rattle.provider_config.specs.declared.config.TheConstants.{MAX_CONFIG_LENGTH}
use Rattle.provider_config.specs.declared.idp_config.IdpFile.{IdpFile}
use Rattle.provider_config.specs.declared.idp_config.IdpFile.TheVariants as files
use Rattle.provider_config.specs.declared.idp_config.PeerFiles.{PeerFiles}
use Rattle.peer_keys.specs.Peers.{place_of}
use Rattle.peer_keys.specs.declared.peers.LogoutPeer.{LogoutPeer}
use Rattle.sp_setup.specs.Files.{Reading, only, known, no_line, ◌>>=◌, in_order, text_of, key_file, id_key_file, metadata_file}
use Rattle.idp_rules.specs.declared.config.IdpConfig.{IdpConfig}
use Rattle.idp_setup.specs.Config.{config_of}
use Rattle.idp_setup.specs.declared.loaded.Loaded.{Loaded}
use Rattle.idp_setup.specs.declared.peers_read.PeersRead.{PeersRead}

-- THE NAMED FILES

-- the peer that its three files say
abbrev pub peer_of : PeerFiles → Reading LogoutPeer
peer_of names = do
  peer ← metadata_file Sp names.metadata
  key_in ← key_file names.key_in
  key_out ← key_file names.key_out
  only (record { peer = peer; key_in = key_in; key_out = key_out })

-- no peer is read yet, and then nothing
abbrev pub no_peers : PeersRead
no_peers = record { peers = []; doubled = None }

abbrev pub nothing : Loaded
nothing = record { users = None; id_key = None; read = no_peers }

-- SAML Metadata, 2.3.2: a name stands for one provider. This is the line of the first peer that has the name of one before it: the
-- line that was found before, or else this line, where the name of its peer is known.
abbrev pub doubled_with : Option ℕ → (line : ℕ) → (known : Bool) → Option ℕ
doubled_with (Some first) line known = Some first
doubled_with None line known = if known then Some line else None

-- with the peer of this line
abbrev pub with_peer : (line : ℕ) → LogoutPeer → PeersRead → PeersRead
with_peer line peer before =
    record { peers = before.peers ++ peer ∷ []; doubled = doubled_with before.doubled line (is_some (place_of peer.peer.entity before.peers)) }

-- what the files of a line add to what was read before
abbrev pub load : IdpFile → Loaded → Reading Loaded
load (files.Users name) before = text_of MAX_USERS_LENGTH users name >>= λ found. only (record before { users = Some found })
load (files.IdKey name) before = id_key_file name >>= λ key. only (record before { id_key = Some key })
load (files.Peer names) before = peer_of names >>= λ peer. only (record before { read = with_peer names.line peer before.read })

-- THE CONFIG

-- what the files that the lines of this config name set up, where no two peers have one name
abbrev pub set_up_by : (config : List ℕ) → configs.IdpConfig → Reading IdpConfig
set_up_by config lines = do
  loaded ← in_order load lines.files nothing
  apart ← no_line config loaded.read.doubled
  known (config_of lines loaded)

-- what the config in this file sets up
abbrev pub set_up : (config : List ℕ) → Reading IdpConfig
set_up config = text_of MAX_CONFIG_LENGTH configs.idp_config config >>= set_up_by config

-- The config in this file and the files that it names set a provider up so.
unfoldable pub IsSetUp : Option (List File) → (config : List ℕ) → IdpConfig → Type 0
IsSetUp told config setup = (set_up config).gives told setup

-- The first file that can't be used, the config or one that it names, and its line: the number that the grammar of configs or of users
-- tells of a bad line, or else 0 for the whole file; or, where all can, the config and the line of the first peer that has the name of
-- one before it.
unfoldable pub IsBadSetUp : Option (List File) → (config file : List ℕ) → (line : ℕ) → Type 0
IsBadSetUp told config file line = (set_up config).fails told file line
