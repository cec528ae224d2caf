-- What the lines of a service provider's config and the files that they name say together.
use Rattle.std.specs.Prelude.{List, ℕ, Option, None, Some}
use Rattle.provider_config.specs.Config.{Config}
use Rattle.provider_config.specs.declared.config.Times.{Times}
use Rattle.sp_rules.specs.declared.config.NextKey.{NextKey}
use Rattle.sp_rules.specs.declared.config.SpConfig.{SpConfig}
use Rattle.sp_setup.specs.declared.loaded.Loaded.{Loaded}
use Rattle.owned_values.specs.Options.{◌>>=◌}

-- the key that takes over, where there is one
abbrev pub next_of : Option Times → Option (List ℕ) → Option NextKey
next_of (Some times) (Some key) = Some (record { key = key; from = times.from; until = times.until })
next_of times key = None

-- What the lines and the files say together; none where a file that is needed was not read. A good config names each of them.
abbrev pub config_of : Config → Loaded → Option SpConfig
config_of lines loaded = do
  idp ← loaded.idp
  key_in ← loaded.key_in
  key_out ← loaded.key_out
  id_key ← loaded.id_key
  Some (record {
    entity = lines.entity;
    base = lines.base;
    listen = lines.listen;
    idp = idp;
    key_in = key_in;
    next_in = next_of lines.next_in loaded.next_in;
    key_out = key_out;
    id_key = id_key;
    skew = lines.skew;
  })
