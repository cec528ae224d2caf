-- What a hub is set up with: its config, and the files that the config names. They are read right behind it, in the order of its
-- lines, and those of a peer in the order in which its line names them.
use Rattle.std.specs.Prelude.{ℕ, List, Option}
use Rattle.saml_outside.specs.Files.{File}
use Rattle.provider_config.specs.HubConfig as configs
use Rattle.provider_config.specs.declared.config.TheConstants.{MAX_CONFIG_LENGTH}
use Rattle.provider_config.specs.declared.hub_config.HubFile.{HubFile}
use Rattle.provider_config.specs.declared.hub_config.HubFile.TheVariants as files
use Rattle.sp_setup.specs.Files.{Reading, only, known, no_line, ◌>>=◌, in_order, text_of}
use Rattle.sp_setup.specs.Setup as sp
use Rattle.idp_setup.specs.Setup.{no_peers, peer_of, with_peer}
use Rattle.identity_hub.specs.declared.config.HubConfig.{HubConfig}
use Rattle.hub_setup.specs.Config.{config_of}
use Rattle.hub_setup.specs.declared.loaded.Loaded.{Loaded}

-- THE NAMED FILES

-- nothing is read yet
abbrev pub nothing : Loaded
nothing = record { above = sp.nothing; read = no_peers }

-- what the files of a line add to what was read before, as at a service provider or as those of an identity provider's peer
abbrev pub load : HubFile → Loaded → Reading Loaded
load (files.Above file) before = sp.load file before.above >>= λ above. only (record before { above = above })
load (files.Peer names) before = peer_of names >>= λ peer. only (record before { read = with_peer names.line peer before.read })

-- THE CONFIG

-- what the files that the lines of this config name set up, where no two peers have one name
abbrev pub set_up_by : (config : List ℕ) → configs.HubConfig → Reading HubConfig
set_up_by config lines = do
  loaded ← in_order load lines.files nothing
  apart ← no_line config loaded.read.doubled
  known (config_of lines loaded)

-- what the config in this file sets up
abbrev pub set_up : (config : List ℕ) → Reading HubConfig
set_up config = text_of MAX_CONFIG_LENGTH configs.hub_config config >>= set_up_by config

-- The config in this file and the files that it names set a hub up so.
unfoldable pub IsSetUp : Option (List File) → (config : List ℕ) → HubConfig → Type 0
IsSetUp told config setup = (set_up config).gives told setup

-- The first file that can't be used, the config or one that it names, and its line: the number that the grammar of configs tells
-- of a bad line, or else 0 for the whole file; or, where all can, the config and the line of the first peer that has the name of one
-- before it.
unfoldable pub IsBadSetUp : Option (List File) → (config file : List ℕ) → (line : ℕ) → Type 0
IsBadSetUp told config file line = (set_up config).fails told file line
