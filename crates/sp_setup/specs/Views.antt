-- How the definitions see what the code read and set up.
use Rattle.std.specs.Prelude.{◌≡◌, ◌≢◌, ℕ, ◌<◌, ◌≤◌, List, length, Option, Some, IfSome, Ok, Err}
use Rattle.xml_spec.specs.Characters.{IsText}
use Rattle.xml_spec.specs.declared.TheConstants.{MAX_DOCUMENT_LENGTH}
use Rattle.saml_outside.specs.Files.{File}
use Rattle.access_policy.specs.Rules.{policy}
use Rattle.access_policy.specs.declared.read.TheConstants.{MAX_POLICY_LENGTH}
use Rattle.access_policy.specs.declared.rule.Rule.{Rule}
use Rattle.meta_registry.specs.Aggregate.{RegistryView, peer_in}
use Rattle.meta_registry.specs.Faults as registries
use Rattle.meta_registry.specs.declared.fault.PeerFault.{PeerFault}
use Rattle.meta_registry.specs.declared.fault.RegistryFault.{RegistryFault}
use Rattle.meta_registry.specs.declared.fault.RegistryFault.TheVariants as registry_faults
use Rattle.metadata.specs.Faults as metadata
use Rattle.metadata.specs.declared.fault.MetaFault.{MetaFault}
use Rattle.metadata.specs.declared.peer.Peer.{Peer}
use Rattle.metadata.specs.declared.peer.Role.TheVariants.{Idp}
use Rattle.provider_config.specs.Config.{Config}
use Rattle.provider_config.specs.declared.config.FileRole.{FileRole}
use Rattle.provider_config.specs.declared.config.FileRole.TheVariants as roles
use Rattle.provider_config.specs.declared.line.Purpose.{Purpose}
use Rattle.request_rows.specs.declared.rows.TheConstants.{ROW_LIMIT}
use Rattle.sp_rules.specs.declared.config.SpConfig.{SpConfig}
use Rattle.saml_time.specs.declared.TheConstants.{GREATEST_SKEW}
use Rattle.sp_setup.specs.Config.{config_of}
use Rattle.sp_setup.specs.Files.{in_order}
use Rattle.sp_setup.specs.Setup.{Setup, nothing, load, IsSetUp}
use Rattle.sp_setup.specs.declared.limits.TheConstants.{LEAST_KEY, GREATEST_KEY, ID_KEY}
use Rattle.sp_setup.specs.declared.loaded.Loaded.{Loaded}
use Rattle.sp_setup.specs.declared.setup.SetUp.{SetUp}

-- WHAT THE BYTES OF A FILE ADD

-- the most bytes that a file of this role may have
abbrev pub limit_of : FileRole → ℕ
limit_of roles.Idp = MAX_DOCUMENT_LENGTH
limit_of roles.Policy = MAX_POLICY_LENGTH
limit_of _ = GREATEST_KEY

-- what the bytes of a file of this role add to what was read before
abbrev pub Loads : FileRole → List ℕ → Loaded → Loaded → Type 0
Loads roles.Idp bytes before after =
    (peer : Peer) × metadata.IsRead bytes Idp (Ok peer) × (after ≡ record before { idp = Some peer })
Loads roles.KeyIn bytes before after = (LEAST_KEY ≤ length bytes) × (after ≡ record before { key_in = Some bytes })
Loads roles.NextIn bytes before after = (LEAST_KEY ≤ length bytes) × (after ≡ record before { next_in = Some bytes })
Loads roles.KeyOut bytes before after = (LEAST_KEY ≤ length bytes) × (after ≡ record before { key_out = Some bytes })
Loads roles.IdKey bytes before after = (length bytes ≡ ID_KEY) × (after ≡ record before { id_key = Some bytes })
Loads roles.Policy bytes before after =
    (rules : List Rule) × (policy bytes ≡ Ok rules) × (after ≡ record before { policy = Some rules })

-- they can't be used, for this line of them
abbrev pub IsUnusable : FileRole → List ℕ → ℕ → Type 0
IsUnusable roles.Idp bytes line =
    (line ≡ 0) × ((fault : MetaFault) × (metadata.fault_of fault ≡ Some fault) × metadata.IsRefused bytes Idp fault)
IsUnusable roles.IdKey bytes line = (line ≡ 0) × (length bytes ≢ ID_KEY)
IsUnusable roles.Policy bytes line = policy bytes ≡ Err line
IsUnusable _ bytes line = (line ≡ 0) × (length bytes < LEAST_KEY)

-- these bytes are a registry that is signed with this key and lists this identity provider: what it says of it, and until when
pub record Lists (bytes key entity : List ℕ) (peer : Peer) (until : ℕ) : Type 0 where
  pub registry : RegistryView
  pub read : registries.IsRead bytes key registry
  pub says : peer_in registry entity Idp ≡ Ok peer
  pub ends : registry.valid_until ≡ until

-- they are none: no registry that is signed with the key, or one that gives no such provider
pub data IsUnlisted (bytes key entity : List ℕ) : Type 0 where
  no_registry : (fault : RegistryFault) → fault ≢ registry_faults.NoMemory → registries.IsRefused bytes key fault → IsUnlisted bytes key entity
  no_provider : (registry : RegistryView) (fault : PeerFault) → registries.IsRead bytes key registry → peer_in registry entity Idp ≡ Err fault
      → IsUnlisted bytes key entity

-- what a registry adds to what was read before: the identity provider, and the moment at which the registry ends
abbrev pub TakesProvider : List ℕ → List ℕ → List ℕ → Loaded → Loaded → Type 0
TakesProvider bytes key entity before after =
    (peer : Peer) × (until : ℕ) × Lists bytes key entity peer until × (after ≡ record before { idp = Some peer; expiry = Some until })

-- WHAT IS SET UP

-- what is set up by these lines, without the rows
abbrev pub setup_view : Config → SetUp → Setup
setup_view lines setup = record { lines = lines; config = setup.config; policy = setup.policy; expiry = setup.expiry }

-- the lines and the files set a provider up so
pub record IsConfigOf (lines : Config) (loaded : Loaded) (setup : SetUp) : Type 0 where
  pub config : config_of lines loaded ≡ Some setup.config
  pub policy : loaded.policy ≡ setup.policy
  pub expiry : loaded.expiry ≡ setup.expiry
  pub guard : lines.guard ≡ setup.guard
  pub asked : setup.asked.items ≡ lines.asked
  pub opened : setup.opened.items ≡ lines.opened

-- the files that these lines name are there, and set a provider up so
pub record IsSetUpBy (told : Option (List File)) (lines : Config) (setup : SetUp) : Type 0 where
  pub loaded : Loaded
  pub all : (in_order load lines.files nothing).gives told loaded
  pub is : IsConfigOf lines loaded setup

-- the config in this file sets a provider up so
pub record IsSetUpFrom (told : Option (List File)) (purpose : Purpose) (file : List ℕ) (setup : SetUp) : Type 0 where
  pub lines : Config
  pub is : IsSetUp told purpose file (setup_view lines setup)
  pub guard : lines.guard ≡ setup.guard
  pub asked : setup.asked.items ≡ lines.asked
  pub opened : setup.opened.items ≡ lines.opened

-- what is set up is within the bounds that judging asks for
pub record IsWithinBounds (setup : SetUp) : Type 0 where
  pub skew : setup.config.skew ≤ GREATEST_SKEW
  pub times : IfSome setup.config.next_in (λ next. next.from ≤ next.until)
  pub asked : length setup.asked.items < ROW_LIMIT
  pub opened : length setup.opened.items < ROW_LIMIT

-- what is set up is called and reached by texts that a document may hold (XML 1.0, 2.2)
pub record HasTexts (config : SpConfig) : Type 0 where
  pub entity : IsText config.entity
  pub base : IsText config.base
  pub listen : IsText config.listen
  pub service : IsText config.idp.service
  pub logout : IfSome config.idp.logout IsText
