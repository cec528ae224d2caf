-- Words by which the code keeps the definitions: what is found so far, and what one more line adds.
use Rattle.std.specs.Prelude.{ℕ, Bool, false, nat_le, List, [], ◌∷◌, count_by, Option, None, Some, Result, Err, ok_or, if◌then◌else◌}
use Rattle.std.specs.List.{filter_map}
use Rattle.text_lines.specs.Lines.{Said, Says, NoText, and_then}
use Rattle.provider_config.specs.declared.hub_line.HubLine.{HubLine}
use Rattle.provider_config.specs.declared.hub_line.HubLine.TheVariants.{Above, Peer}
use Rattle.provider_config.specs.declared.idp_config.TheConstants.{MAX_PEERS}
use Rattle.provider_config.specs.Config.{Config}
use Rattle.provider_config.specs.Drafts as sp
use Rattle.provider_config.specs.declared.hub_config.HubFile.{HubFile}
use Rattle.provider_config.specs.HubConfig.{HubConfig, above, file}
use Rattle.provider_config.specs.HubLine.{line_of}
use Rattle.provider_config.specs.HubViews.{above_files, is_peer_file, has_peer}
use Rattle.provider_config.specs.Shared.{pushed}
use Rattle.owned_values.specs.Options.{◌>>=◌}

-- ---- what is found so far

-- what lines say together: those that a service provider's config has too, and the files of all
pub record Found : Type 0 where
  pub above : sp.Found
  pub files : List HubFile

abbrev pub found : List HubLine → Found
found lines = record { above = sp.found (above lines); files = filter_map file lines }

-- of these files, and of what else a service provider's config says, but for a guard and rows, which no line of a hub's says
abbrev pub made_with : List HubFile → Config → HubConfig
made_with files one = record {
  above = record one { files = above_files files; guard = false; asked = []; opened = [] };
  files = files;
}

-- the config of what is found; none where a key of a service provider's config is missing, or a peer
abbrev pub complete : Found → Option HubConfig
complete found = do
  one ← sp.complete found.above
  if has_peer found.files then Some (made_with found.files one) else None

-- what is found with one more line
abbrev pub taken : HubLine → Found → Found
taken (Above line) found = record { above = sp.taken line found.above; files = pushed found.files (file (Above line)) }
taken (Peer names) found = record { above = found.above; files = pushed found.files (file (Peer names)) }

-- the key of the line was found as often as it may stand
abbrev pub stands : HubLine → Found → Bool
stands (Above line) found = sp.stands line found.above
stands (Peer names) found = nat_le MAX_PEERS (count_by is_peer_file found.files)

abbrev pub unless_found : Found → Option HubLine → Option HubLine
unless_found found None = None
unless_found found (Some line) = if stands line found then None else Some line

abbrev pub next_line : Found → Said → Result HubLine ℕ
next_line found (Says number text) = ok_or (unless_found found (line_of number text)) number
next_line found (NoText number) = Err number

-- the config of what is found and of what is still to be said
abbrev pub config_from : Found → List Said → Result HubConfig ℕ
config_from found [] = ok_or (complete found) 0
config_from found (next ∷ others) = and_then (λ line. config_from (taken line found) others) (next_line found next)
