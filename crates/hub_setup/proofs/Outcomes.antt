-- Where it is told what files there are, a config has one outcome.
use Rattle.std.proofs.Common.{◌≡◌, ℕ, List, Some}
use Rattle.saml_outside.specs.Files.{File}
use Rattle.provider_config.specs.HubConfig as configs
use Rattle.provider_config.specs.declared.config.TheConstants.{MAX_CONFIG_LENGTH}
use Rattle.provider_config.specs.declared.hub_config.HubFile.{HubFile}
use Rattle.provider_config.specs.declared.hub_config.HubFile.TheVariants as named
use Rattle.peer_keys.specs.declared.peers.LogoutPeer.{LogoutPeer}
use Rattle.sp_setup.specs.Files.{known, no_line, ◌>>=◌, in_order, text_of}
use Rattle.sp_setup.specs.Setup as sp
use Rattle.sp_setup.specs.declared.loaded.Loaded as sp_loaded
use Rattle.sp_setup.proofs.Outcomes as sp_outcomes
use Rattle.sp_setup.proofs.Outcomes.{OneRegistry, NeverRefused}
use Rattle.sp_setup.proofs.Readings.{ComesToOne, one_known, one_no_line, one_then, one_made, one_in_order, one_text}
use Rattle.idp_setup.specs.Setup.{peer_of, with_peer}
use Rattle.idp_setup.proofs.Outcomes.{one_peer}
use Rattle.identity_hub.specs.declared.config.HubConfig.{HubConfig}
use Rattle.hub_setup.specs.declared.loaded.Loaded.{Loaded}
use Rattle.hub_setup.specs.Config.{config_of}
use Rattle.hub_setup.specs.Setup.{nothing, load, set_up_by, set_up, IsSetUp, IsBadSetUp}

module _ (one_registry : OneRegistry) (never : NeverRefused) where
  one_load : (files : List File) (line : HubFile) (before : Loaded) → ComesToOne files (load line before)
  one_load files (named.Above file) before =
      one_made files (sp.load file before.above) (λ (above : sp_loaded.Loaded). record before { above = above })
      (sp_outcomes.one_load one_registry never files file before.above)
  one_load files (named.Peer names) before = one_made files (peer_of names) (λ (peer : LogoutPeer). record before { read = with_peer names.line peer before.read }) (one_peer files names)

  one_set_up_by : (files : List File) (config : List ℕ) (lines : configs.HubConfig) → ComesToOne files (set_up_by config lines)
  one_set_up_by files config lines =
      one_then files (in_order load lines.files nothing) (λ loaded. no_line config loaded.read.doubled >>= λ apart. known (config_of lines loaded))
      (one_in_order files load (one_load files) lines.files nothing)
      (λ loaded.
      one_then files (no_line config loaded.read.doubled) (λ apart. known (config_of lines loaded)) (one_no_line files config loaded.read.doubled)
      (λ apart. one_known files (config_of lines loaded)))

  one_set_up : (files : List File) (config : List ℕ) → ComesToOne files (set_up config)
  one_set_up files config =
      one_then files (text_of MAX_CONFIG_LENGTH configs.hub_config config) (set_up_by config) (one_text files MAX_CONFIG_LENGTH configs.hub_config config)
      (one_set_up_by files config)

  pub set_up_one : (files : List File) (config : List ℕ) (one other : HubConfig) → IsSetUp (Some files) config one → IsSetUp (Some files) config other →
      one ≡ other
  unfolding IsSetUp
  set_up_one files config = (one_set_up files config).one

  pub set_up_good : (files : List File) (config : List ℕ) (one : HubConfig) (file : List ℕ) (line : ℕ) →
      IsSetUp (Some files) config one → IsBadSetUp (Some files) config file line → ⊥
  unfolding IsSetUp IsBadSetUp
  set_up_good files config = (one_set_up files config).never_both

  pub bad_one : (files : List File) (config one other : List ℕ) (line number : ℕ) →
      IsBadSetUp (Some files) config one line → IsBadSetUp (Some files) config other number → (one ≡ other) × (line ≡ number)
  unfolding IsBadSetUp
  bad_one files config = (one_set_up files config).first
