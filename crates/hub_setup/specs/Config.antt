-- What the lines of a hub's config and the files that they name say together.
use Rattle.std.specs.Prelude.{Option, Some}
use Rattle.provider_config.specs.HubConfig as configs
use Rattle.sp_setup.specs.Config as sp
use Rattle.identity_hub.specs.declared.config.HubConfig.{HubConfig}
use Rattle.hub_setup.specs.declared.loaded.Loaded.{Loaded}
use Rattle.owned_values.specs.Options.{◌>>=◌}

-- What the lines and the files say together: towards the provider above what a service provider's do, and the peers; none where a
-- file that is needed was not read. A good config names each of them.
abbrev pub config_of : configs.HubConfig → Loaded → Option HubConfig
config_of lines loaded = do
  upstream ← sp.config_of lines.above loaded.above
  Some (record { upstream = upstream; peers = loaded.read.peers })
