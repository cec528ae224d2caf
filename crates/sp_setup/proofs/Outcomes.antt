-- Where it is told what files there are, a config has one outcome.
use Rattle.std.proofs.Common.{◌≡◌, ℕ, List, Some, Result, Ok, Err, sym, ap, ◌∙◌}
use Rattle.xml_spec.specs.declared.TheConstants.{MAX_DOCUMENT_LENGTH}
use Rattle.saml_outside.specs.Files.{File}
use Rattle.access_policy.specs.Rules.{policy}
use Rattle.access_policy.specs.declared.read.TheConstants.{MAX_POLICY_LENGTH}
use Rattle.access_policy.specs.declared.rule.Rule.{Rule}
use Rattle.meta_registry.specs.Aggregate.{RegistryView, peer_in}
use Rattle.meta_registry.specs.Faults as registries
use Rattle.meta_registry.specs.declared.fault.PeerFault.{PeerFault}
use Rattle.meta_registry.specs.declared.fault.RegistryFault.{RegistryFault}
use Rattle.meta_registry.specs.declared.fault.RegistryFault.TheVariants as registry_faults
use Rattle.metadata.specs.declared.peer.Peer.{Peer}
use Rattle.metadata.specs.declared.peer.Role.TheVariants.{Idp}
use Rattle.provider_config.specs.Config.{Config, sp_config}
use Rattle.provider_config.specs.declared.config.FileRole.{FileRole}
use Rattle.provider_config.specs.declared.config.FileRole.TheVariants as roles
use Rattle.provider_config.specs.declared.config.RegistryLine.{RegistryLine}
use Rattle.provider_config.specs.declared.config.SpFile.{SpFile}
use Rattle.provider_config.specs.declared.config.SpFile.TheVariants as names
use Rattle.provider_config.specs.declared.config.TheConstants.{MAX_CONFIG_LENGTH}
use Rattle.provider_config.specs.declared.line.Purpose.{Purpose}
use Rattle.sp_rules.specs.declared.config.SpConfig.{SpConfig}
use Rattle.sp_setup.specs.declared.loaded.Loaded.{Loaded}
use Rattle.sp_setup.specs.Config.{config_of}
use Rattle.sp_setup.specs.Files.{Reading, whole, judged, only, known, ◌>>=◌, in_order, text_of, key_file, id_key_file, metadata_file}
use Rattle.sp_setup.specs.Setup.{nothing, load_file, IsRegistry, IsListedAs, load_registry, load, Setup, set_up_by, set_up, IsSetUp, IsBadSetUp}
use Rattle.sp_setup.proofs.Readings.{ComesToOne, one_whole, one_judged, one_known, one_then, one_made, one_in_order, one_text, one_key, one_id_key, one_metadata}

one_load_file : (files : List File) (role : FileRole) (name : List ℕ) (before : Loaded) → ComesToOne files (load_file role name before)
one_load_file files roles.Idp name before =
    one_made files (metadata_file Idp name) (λ (peer : Peer). record before { idp = Some peer }) (one_metadata files Idp name)
one_load_file files roles.KeyIn name before = one_made files (key_file name) (λ (key : List ℕ). record before { key_in = Some key }) (one_key files name)
one_load_file files roles.NextIn name before = one_made files (key_file name) (λ (key : List ℕ). record before { next_in = Some key }) (one_key files name)
one_load_file files roles.KeyOut name before = one_made files (key_file name) (λ (key : List ℕ). record before { key_out = Some key }) (one_key files name)
one_load_file files roles.IdKey name before =
    one_made files (id_key_file name) (λ (key : List ℕ). record before { id_key = Some key }) (one_id_key files name)
one_load_file files roles.Policy name before =
    one_made files (text_of MAX_POLICY_LENGTH policy name) (λ (rules : List Rule). record before { policy = Some rules })
    (one_text files MAX_POLICY_LENGTH policy name)

-- ---- a registry

-- a text gives one registry, under whatever keys it is read
abbrev pub OneRegistry : Type 0
OneRegistry = (text key other : List ℕ) (one second : RegistryView) → registries.IsRead text key one → registries.IsRead text other second → one ≡ second

-- none that is read under a key is refused under it
abbrev pub NeverRefused : Type 0
NeverRefused =
    (text key : List ℕ) (registry : RegistryView) (fault : RegistryFault) → registries.IsRead text key registry → registries.IsRefused text key fault →
    fault ≡ registry_faults.NoMemory

ok_peer : (r : Result Peer PeerFault) (one other : Peer) → r ≡ Ok one → r ≡ Ok other → one ≡ other
ok_peer r one other e h = cc

no_peer : (r : Result Peer PeerFault) (peer : Peer) (fault : PeerFault) → r ≡ Ok peer → r ≡ Err fault → ⊥
no_peer r peer fault e h = let both : Ok peer ≡ Err fault = sym e ∙ h in cc

same_listed : (registry : RegistryView) (entity : List ℕ) (one other : Result Peer ℕ) → IsListedAs registry entity one → IsListedAs registry entity other →
    one ≡ other
same_listed registry entity (Ok x) (Ok y) h k = ap Ok (ok_peer (peer_in registry entity Idp) x y h k)
same_listed registry entity (Ok x) (Err line) h k = absurd (no_peer (peer_in registry entity Idp) x k.1.0 h k.1.1)
same_listed registry entity (Err line) (Ok y) h k = absurd (no_peer (peer_in registry entity Idp) y h.1.0 k h.1.1)
same_listed registry entity (Err line) (Err number) h k = ap Err (h.0 ∙ sym k.0)

-- what follows on the bytes of both files of a registry
abbrev judged_registry : RegistryLine → Loaded → (bytes key : List ℕ) → Reading Loaded
judged_registry line before bytes key =
    judged line.file (IsRegistry bytes key) >>= λ registry. judged line.file (IsListedAs registry line.entity) >>= λ peer.
    only (record before { idp = Some peer; expiry = Some registry.valid_until })

-- what lines and files make
abbrev setup_of : Config → Loaded → SpConfig → Setup
setup_of lines loaded config = record { lines = lines; config = config; policy = loaded.policy; expiry = loaded.expiry }

module _ (one_registry : OneRegistry) (never : NeverRefused) where
  same_registry : (bytes key : List ℕ) (one other : Result RegistryView ℕ) → IsRegistry bytes key one → IsRegistry bytes key other → one ≡ other
  same_registry bytes key (Ok x) (Ok y) h k = ap Ok (one_registry bytes key key x y h k)
  same_registry bytes key (Ok x) (Err line) h k = absurd (k.1.1 (never bytes key x k.1.0 h k.1.2))
  same_registry bytes key (Err line) (Ok y) h k = absurd (h.1.1 (never bytes key y h.1.0 k h.1.2))
  same_registry bytes key (Err line) (Err number) h k = ap Err (h.0 ∙ sym k.0)

  one_judged_registry : (files : List File) (line : RegistryLine) (before : Loaded) (bytes key : List ℕ) → ComesToOne files (judged_registry line before bytes key)
  one_judged_registry files line before bytes key =
      one_then files (judged line.file (IsRegistry bytes key))
      (λ registry. judged line.file (IsListedAs registry line.entity) >>= λ peer. only (record before { idp = Some peer; expiry = Some registry.valid_until }))
      (one_judged files line.file (IsRegistry bytes key) (same_registry bytes key))
      (λ registry.
      one_made files (judged line.file (IsListedAs registry line.entity)) (λ (peer : Peer). record before { idp = Some peer; expiry = Some registry.valid_until })
      (one_judged files line.file (IsListedAs registry line.entity) (same_listed registry line.entity)))

  one_load_registry : (files : List File) (line : RegistryLine) (before : Loaded) → ComesToOne files (load_registry line before)
  one_load_registry files line before =
      one_then files (whole MAX_DOCUMENT_LENGTH line.file) (λ bytes. key_file line.key >>= λ key. judged_registry line before bytes key)
      (one_whole files MAX_DOCUMENT_LENGTH line.file)
      (λ bytes.
      one_then files (key_file line.key) (λ key. judged_registry line before bytes key) (one_key files line.key)
      (λ key. one_judged_registry files line before bytes key))

  -- ---- what lines name

  pub one_load : (files : List File) (line : SpFile) (before : Loaded) → ComesToOne files (load line before)
  one_load files (names.One named) before = one_load_file files named.role named.name before
  one_load files (names.Registry line) before = one_load_registry files line before

  one_set_up_by : (files : List File) (lines : Config) → ComesToOne files (set_up_by lines)
  one_set_up_by files lines =
      one_then files (in_order load lines.files nothing)
      (λ loaded. known (config_of lines loaded) >>= λ config. only (setup_of lines loaded config))
      (one_in_order files load (one_load files) lines.files nothing)
      (λ loaded. one_made files (known (config_of lines loaded)) (setup_of lines loaded) (one_known files (config_of lines loaded)))

  one_set_up : (files : List File) (purpose : Purpose) (config : List ℕ) → ComesToOne files (set_up purpose config)
  one_set_up files purpose config =
      one_then files (text_of MAX_CONFIG_LENGTH (sp_config purpose) config) set_up_by (one_text files MAX_CONFIG_LENGTH (sp_config purpose) config)
      (one_set_up_by files)

  pub set_up_one : (files : List File) (purpose : Purpose) (config : List ℕ) (one other : Setup) →
      IsSetUp (Some files) purpose config one → IsSetUp (Some files) purpose config other → one ≡ other
  unfolding IsSetUp
  set_up_one files purpose config = (one_set_up files purpose config).one

  pub set_up_good : (files : List File) (purpose : Purpose) (config : List ℕ) (one : Setup) (file : List ℕ) (line : ℕ) →
      IsSetUp (Some files) purpose config one → IsBadSetUp (Some files) purpose config file line → ⊥
  unfolding IsSetUp IsBadSetUp
  set_up_good files purpose config = (one_set_up files purpose config).never_both

  pub bad_one : (files : List File) (purpose : Purpose) (config one other : List ℕ) (line number : ℕ) →
      IsBadSetUp (Some files) purpose config one line → IsBadSetUp (Some files) purpose config other number → (one ≡ other) × (line ≡ number)
  unfolding IsBadSetUp
  bad_one files purpose config = (one_set_up files purpose config).first
