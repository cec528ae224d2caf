-- How contracts see a hub's config as the code has it: the files of all lines, and what the others say.
use Rattle.std.specs.Prelude.{Bool, true, false, ◌&&◌, List, [], Option, None, Some}
use Rattle.std.specs.List.{filter_map, list_any}
use Rattle.provider_config.specs.declared.config.SpFile.{SpFile}
use Rattle.provider_config.specs.declared.hub_config.HubFile.{HubFile}
use Rattle.provider_config.specs.declared.hub_config.HubFile.TheVariants as files
use Rattle.provider_config.specs.declared.hub_config.HubLines.{HubLines}
use Rattle.provider_config.specs.Config as sp
use Rattle.provider_config.specs.HubConfig.{HubConfig}

-- ---- the files of a config

abbrev pub sp_file : HubFile → Option SpFile
sp_file (files.Above named) = Some named
sp_file (files.Peer names) = None

-- those of the files that a service provider's config names too
abbrev pub above_files : List HubFile → List SpFile
above_files named = filter_map sp_file named

abbrev pub is_peer_file : HubFile → Bool
is_peer_file (files.Above named) = false
is_peer_file (files.Peer names) = true

abbrev pub has_peer : List HubFile → Bool
has_peer named = list_any is_peer_file named

-- the files that each config names
abbrev pub has_files : List HubFile → Bool
has_files named = sp.has_files (above_files named) && has_peer named

-- ---- a config

-- a hub has no guard, and no rows are said to it
abbrev pub config_view : HubLines → HubConfig
config_view lines =
    record {
      above = record {
        entity = lines.entity;
        base = lines.base;
        listen = lines.listen;
        skew = lines.skew;
        files = above_files lines.files.items;
        next_in = lines.next_in;
        guard = false;
        asked = [];
        opened = [];
      };
      files = lines.files.items;
    }
