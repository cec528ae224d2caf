-- What the lines of an identity provider's config and the files that they name say together.
use Rattle.std.specs.Prelude.{Option, Some}
use Rattle.provider_config.specs.IdpConfig as configs
use Rattle.idp_rules.specs.declared.config.IdpConfig.{IdpConfig}
use Rattle.idp_setup.specs.declared.loaded.Loaded.{Loaded}
use Rattle.owned_values.specs.Options.{◌>>=◌}

-- What the lines and the files say together; none where a file that is needed was not read. A good config names each of them.
abbrev pub config_of : configs.IdpConfig → Loaded → Option IdpConfig
config_of lines loaded = do
  users ← loaded.users
  id_key ← loaded.id_key
  Some (record {
    entity = lines.entity;
    base = lines.base;
    listen = lines.listen;
    peers = loaded.read.peers;
    users = users;
    id_key = id_key;
    skew = lines.skew;
    mode = lines.sign;
    fanout = lines.fanout;
  })
