-- What a service provider is set up with: its config, and the files that the config names. They are read right behind it, in the
-- order of its lines; of a registry its own file comes before that of its key. What a file holds is judged before the next line's
-- is read, for either purpose.
use Rattle.std.specs.Prelude.{◌≡◌, ◌≢◌, ℕ, List, Option, None, Some, Result, Ok, Err}
use Rattle.xml_spec.specs.declared.TheConstants.{MAX_DOCUMENT_LENGTH}
use Rattle.saml_outside.specs.Files.{File}
use Rattle.access_policy.specs.Rules.{policy}
use Rattle.access_policy.specs.declared.read.TheConstants.{MAX_POLICY_LENGTH}
use Rattle.access_policy.specs.declared.rule.Rule.{Rule}
use Rattle.meta_registry.specs.Aggregate.{RegistryView, peer_in}
use Rattle.meta_registry.specs.Faults as registries
use Rattle.meta_registry.specs.declared.fault.PeerFault.{PeerFault}
use Rattle.meta_registry.specs.declared.fault.RegistryFault.{RegistryFault}
use Rattle.meta_registry.specs.declared.fault.RegistryFault.TheVariants as registry_faults
use Rattle.metadata.specs.declared.peer.Peer.{Peer}
use Rattle.metadata.specs.declared.peer.Role.TheVariants.{Idp}
use Rattle.provider_config.specs.Config.{Config, sp_config}
use Rattle.provider_config.specs.declared.config.FileRole.{FileRole}
use Rattle.provider_config.specs.declared.config.FileRole.TheVariants as roles
use Rattle.provider_config.specs.declared.config.RegistryLine.{RegistryLine}
use Rattle.provider_config.specs.declared.config.SpFile.{SpFile}
use Rattle.provider_config.specs.declared.config.SpFile.TheVariants as names
use Rattle.provider_config.specs.declared.config.TheConstants.{MAX_CONFIG_LENGTH}
use Rattle.provider_config.specs.declared.line.Purpose.{Purpose}
use Rattle.sp_rules.specs.declared.config.SpConfig.{SpConfig}
use Rattle.sp_setup.specs.Config.{config_of}
use Rattle.sp_setup.specs.Files.{Reading, whole, judged, only, known, ◌>>=◌, in_order, text_of, key_file, id_key_file, metadata_file}
use Rattle.sp_setup.specs.declared.loaded.Loaded.{Loaded}

-- THE NAMED FILES

-- nothing is read yet
abbrev pub nothing : Loaded
nothing = record { idp = None; key_in = None; next_in = None; key_out = None; id_key = None; policy = None; expiry = None }

-- What the file of this role adds to what was read before: metadata describes an identity provider, and a policy keeps its grammar.
abbrev pub load_file : FileRole → (name : List ℕ) → Loaded → Reading Loaded
load_file roles.Idp name before = metadata_file Idp name >>= λ peer. only (record before { idp = Some peer })
load_file roles.KeyIn name before = key_file name >>= λ key. only (record before { key_in = Some key })
load_file roles.NextIn name before = key_file name >>= λ key. only (record before { next_in = Some key })
load_file roles.KeyOut name before = key_file name >>= λ key. only (record before { key_out = Some key })
load_file roles.IdKey name before = id_key_file name >>= λ key. only (record before { id_key = Some key })
load_file roles.Policy name before =
    text_of MAX_POLICY_LENGTH policy name >>= λ rules. only (record before { policy = Some rules })

-- the registry that bytes are, signed with this key
abbrev pub IsRegistry : (bytes key : List ℕ) → Result RegistryView ℕ → Type 0
IsRegistry bytes key (Ok registry) = registries.IsRead bytes key registry
IsRegistry bytes key (Err line) =
    (line ≡ 0) × ((fault : RegistryFault) × (fault ≢ registry_faults.NoMemory) × registries.IsRefused bytes key fault)

-- the identity provider of this name, as it is listed there
abbrev pub IsListedAs : RegistryView → (entity : List ℕ) → Result Peer ℕ → Type 0
IsListedAs registry entity (Ok peer) = peer_in registry entity Idp ≡ Ok peer
IsListedAs registry entity (Err line) = (line ≡ 0) × ((fault : PeerFault) × (peer_in registry entity Idp ≡ Err fault))

-- What a registry adds: the identity provider, and the moment at which the registry ends. Its file is judged once both were read.
abbrev pub load_registry : RegistryLine → Loaded → Reading Loaded
load_registry line before = do
  bytes ← whole MAX_DOCUMENT_LENGTH line.file
  key ← key_file line.key
  registry ← judged line.file (IsRegistry bytes key)
  peer ← judged line.file (IsListedAs registry line.entity)
  only (record before { idp = Some peer; expiry = Some registry.valid_until })

-- what the files of a line add to what was read before
abbrev pub load : SpFile → Loaded → Reading Loaded
load (names.One named) before = load_file named.role named.name before
load (names.Registry line) before = load_registry line before

-- THE CONFIG

-- What a provider is set up with: the lines of its config, what they and the files say together, the rules of its policy where it has
-- one, and the moment at which its registry of metadata ends where it has one.
pub record Setup : Type 0 where
  pub lines : Config
  pub config : SpConfig
  pub policy : Option (List Rule)
  pub expiry : Option ℕ

-- what the files that these lines name set up
abbrev pub set_up_by : Config → Reading Setup
set_up_by lines = do
  loaded ← in_order load lines.files nothing
  config ← known (config_of lines loaded)
  only (record { lines = lines; config = config; policy = loaded.policy; expiry = loaded.expiry })

-- what the config in this file sets up
abbrev pub set_up : Purpose → (config : List ℕ) → Reading Setup
set_up purpose config = text_of MAX_CONFIG_LENGTH (sp_config purpose) config >>= set_up_by

-- The config in this file and the files that it names set a provider up so.
unfoldable pub IsSetUp : Option (List File) → Purpose → (config : List ℕ) → Setup → Type 0
IsSetUp told purpose config setup = (set_up purpose config).gives told setup

-- The first file that can't be used, the config or one that it names, and its line: the number that the grammar of configs tells
-- of a bad line, that of policies of one of its own, or else 0 for the whole file.
unfoldable pub IsBadSetUp : Option (List File) → Purpose → (config file : List ℕ) → (line : ℕ) → Type 0
IsBadSetUp told purpose config file line = (set_up purpose config).fails told file line
