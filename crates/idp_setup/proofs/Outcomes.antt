-- Where it is told what files there are, a config has one outcome.
use Rattle.std.proofs.Common.{◌≡◌, ℕ, List, Some}
use Rattle.saml_outside.specs.Files.{File}
use Rattle.metadata.specs.declared.peer.Peer.{Peer}
use Rattle.metadata.specs.declared.peer.Role.TheVariants.{Sp}
use Rattle.user_store.specs.Store.{users}
use Rattle.user_store.specs.declared.read.TheConstants.{MAX_USERS_LENGTH}
use Rattle.user_store.specs.declared.user.User.{User}
use Rattle.provider_config.specs.IdpConfig as configs
use Rattle.provider_config.specs.declared.config.TheConstants.{MAX_CONFIG_LENGTH}
use Rattle.provider_config.specs.declared.idp_config.IdpFile.{IdpFile}
use Rattle.provider_config.specs.declared.idp_config.IdpFile.TheVariants as named
use Rattle.provider_config.specs.declared.idp_config.PeerFiles.{PeerFiles}
use Rattle.peer_keys.specs.declared.peers.LogoutPeer.{LogoutPeer}
use Rattle.sp_setup.specs.Files.{only, known, no_line, ◌>>=◌, in_order, text_of, key_file, id_key_file, metadata_file}
use Rattle.sp_setup.proofs.Readings.{ComesToOne, one_known, one_no_line, one_then, one_made, one_in_order, one_text, one_key, one_id_key, one_metadata}
use Rattle.idp_rules.specs.declared.config.IdpConfig.{IdpConfig}
use Rattle.idp_setup.specs.declared.loaded.Loaded.{Loaded}
use Rattle.idp_setup.specs.Config.{config_of}
use Rattle.idp_setup.specs.Setup.{peer_of, nothing, with_peer, load, set_up_by, set_up, IsSetUp, IsBadSetUp}

-- a peer of these parts
abbrev peer_with : Peer → (key_in key_out : List ℕ) → LogoutPeer
peer_with peer key_in key_out = record { peer = peer; key_in = key_in; key_out = key_out }

pub one_peer : (files : List File) (names : PeerFiles) → ComesToOne files (peer_of names)
one_peer files names =
    one_then files (metadata_file Sp names.metadata)
    (λ peer. key_file names.key_in >>= λ key_in. key_file names.key_out >>= λ key_out. only (peer_with peer key_in key_out))
    (one_metadata files Sp names.metadata)
    (λ peer.
    one_then files (key_file names.key_in) (λ key_in. key_file names.key_out >>= λ key_out. only (peer_with peer key_in key_out))
    (one_key files names.key_in) (λ key_in. one_made files (key_file names.key_out) (peer_with peer key_in) (one_key files names.key_out)))

one_load : (files : List File) (line : IdpFile) (before : Loaded) → ComesToOne files (load line before)
one_load files (named.Users name) before =
    one_made files (text_of MAX_USERS_LENGTH users name) (λ (found : List User). record before { users = Some found })
    (one_text files MAX_USERS_LENGTH users name)
one_load files (named.IdKey name) before = one_made files (id_key_file name) (λ (key : List ℕ). record before { id_key = Some key }) (one_id_key files name)
one_load files (named.Peer names) before = one_made files (peer_of names) (λ (peer : LogoutPeer). record before { read = with_peer names.line peer before.read }) (one_peer files names)

one_set_up_by : (files : List File) (config : List ℕ) (lines : configs.IdpConfig) → ComesToOne files (set_up_by config lines)
one_set_up_by files config lines =
    one_then files (in_order load lines.files nothing) (λ loaded. no_line config loaded.read.doubled >>= λ apart. known (config_of lines loaded))
    (one_in_order files load (one_load files) lines.files nothing)
    (λ loaded.
    one_then files (no_line config loaded.read.doubled) (λ apart. known (config_of lines loaded)) (one_no_line files config loaded.read.doubled)
    (λ apart. one_known files (config_of lines loaded)))

one_set_up : (files : List File) (config : List ℕ) → ComesToOne files (set_up config)
one_set_up files config =
    one_then files (text_of MAX_CONFIG_LENGTH configs.idp_config config) (set_up_by config) (one_text files MAX_CONFIG_LENGTH configs.idp_config config)
    (one_set_up_by files config)

pub set_up_one : (files : List File) (config : List ℕ) (one other : IdpConfig) → IsSetUp (Some files) config one → IsSetUp (Some files) config other → one ≡ other
unfolding IsSetUp
set_up_one files config = (one_set_up files config).one

pub set_up_good : (files : List File) (config : List ℕ) (one : IdpConfig) (file : List ℕ) (line : ℕ) →
    IsSetUp (Some files) config one → IsBadSetUp (Some files) config file line → ⊥
unfolding IsSetUp IsBadSetUp
set_up_good files config = (one_set_up files config).never_both

pub bad_one : (files : List File) (config one other : List ℕ) (line number : ℕ) →
    IsBadSetUp (Some files) config one line → IsBadSetUp (Some files) config other number → (one ≡ other) × (line ≡ number)
unfolding IsBadSetUp
bad_one files config = (one_set_up files config).first
