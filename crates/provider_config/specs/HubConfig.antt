-- The lines of a hub's config: which of them make one, and what it says.
use Rattle.std.specs.Prelude.{ℕ, Bool, true, false, nat_le, List, count_by, Option, None, Some, Result, if◌then◌else◌}
use Rattle.std.specs.List.{filter_map, list_any}
use Rattle.std.specs.Option.{option_map}
use Rattle.provider_config.specs.declared.hub_config.HubFile.{HubFile}
use Rattle.provider_config.specs.declared.hub_config.HubFile.TheVariants as files
use Rattle.provider_config.specs.declared.hub_line.HubLine.{HubLine}
use Rattle.provider_config.specs.declared.hub_line.HubLine.TheVariants.{Above, Peer}
use Rattle.provider_config.specs.declared.idp_config.TheConstants.{MAX_PEERS}
use Rattle.provider_config.specs.declared.line.SpLine.{SpLine}
use Rattle.provider_config.specs.Config as sp
use Rattle.provider_config.specs.HubLine.{spelled}
use Rattle.provider_config.specs.Shared.{config_in}
use Rattle.owned_values.specs.Options.{◌>>=◌}

-- ---- the lines of a text

abbrev pub is_peer : HubLine → Bool
is_peer (Above line) = false
is_peer (Peer names) = true

abbrev pub sp_line : HubLine → Option SpLine
sp_line (Above line) = Some line
sp_line (Peer names) = None

-- those of the lines that a service provider's config has too
abbrev pub above : List HubLine → List SpLine
above lines = filter_map sp_line lines

-- the line is one peer too many, or has another key that stands in one of the lines before it
abbrev pub is_beyond : HubLine → List HubLine → Bool
is_beyond (Above line) before = sp.doubles line (above before)
is_beyond (Peer names) before = nat_le MAX_PEERS (count_by is_peer before)

-- ---- what lines say

-- what a line says is within its bounds
abbrev pub IsSound : HubLine → Type 0
IsSound (Above line) = sp.IsSound line
IsSound (Peer names) = Unit {0}

abbrev pub file : HubLine → Option HubFile
file (Above line) = option_map files.Above (sp.file line)
file (Peer names) = Some (files.Peer names)

-- ---- a config

-- what the lines say that a service provider's config has too, and the files of all lines in their order
pub record HubConfig : Type 0 where
  pub above : sp.Config
  pub files : List HubFile

-- the config of these lines; none where a key of a service provider's config is missing, or a peer
abbrev pub config_of : List HubLine → Option HubConfig
config_of lines = do
  one ← sp.config_of (above lines)
  if list_any is_peer lines then Some (record { above = one; files = filter_map file lines }) else None

-- the config of a hub's text
abbrev pub hub_config : List ℕ → Result HubConfig ℕ
hub_config text = config_in spelled is_beyond config_of text
