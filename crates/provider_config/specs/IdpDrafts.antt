-- Words by which the code keeps the definitions: what is found so far, and what one more line adds.
use Rattle.std.specs.Prelude.{ℕ, Bool, true, false, ◌||◌, unwrap_or, nat_le, List, [], ◌∷◌, count_by, Option, None, Some, Result, Err, ok_or, is_some, if◌then◌else◌}
use Rattle.std.specs.List.{filter_map, list_any}
use Rattle.std.specs.Option.{option_or}
use Rattle.text_lines.specs.Lines.{Said, Says, NoText, and_then}
use Rattle.provider_config.specs.declared.idp_config.TheConstants.{MAX_PEERS}
use Rattle.provider_config.specs.declared.idp_line.IdpLine.{IdpLine}
use Rattle.provider_config.specs.declared.idp_line.IdpLine.TheVariants.{Entity, Base, Listen, Users, IdKey, Skew, Sign, Fanout, Peer}
use Rattle.provider_config.specs.IdpLine.{line_of}
use Rattle.provider_config.specs.declared.idp_config.IdpFile.{IdpFile}
use Rattle.provider_config.specs.declared.idp_config.SignMode.{SignMode}
use Rattle.provider_config.specs.declared.idp_config.SignMode.TheVariants as modes
use Rattle.provider_config.specs.IdpConfig.{IdpConfig, entity, base, listen, skew, sign, file, has_users, has_id_key, is_peer_file, has_files}
use Rattle.provider_config.specs.Shared.{pushed, the}
use Rattle.owned_values.specs.Options.{◌>>=◌}

-- ---- what is found so far

abbrev pub is_fanout : IdpLine → Bool
is_fanout Fanout = true
is_fanout line = false

-- what lines say together
pub record Found : Type 0 where
  pub entity : Option (List ℕ)
  pub base : Option (List ℕ)
  pub listen : Option (List ℕ)
  pub skew : Option ℕ
  pub sign : Option SignMode
  pub fanout : Bool
  pub files : List IdpFile

abbrev pub found : List IdpLine → Found
found lines =
    record {
      entity = the entity lines;
      base = the base lines;
      listen = the listen lines;
      skew = the skew lines;
      sign = the sign lines;
      fanout = list_any is_fanout lines;
      files = filter_map file lines;
    }

-- the config of what is found; none where a key is missing. Without a line of it the Assertion is signed
abbrev pub complete : Found → Option IdpConfig
complete found = do
  entity ← found.entity
  base ← found.base
  listen ← found.listen
  skew ← found.skew
  if has_files found.files then Some (record {
    entity = entity;
    base = base;
    listen = listen;
    skew = skew;
    files = found.files;
    sign = unwrap_or found.sign modes.Assertion;
    fanout = found.fanout;
  }) else None

-- what is found with one more line
abbrev pub taken : IdpLine → Found → Found
taken line found =
    record {
      entity = option_or (entity line) found.entity;
      base = option_or (base line) found.base;
      listen = option_or (listen line) found.listen;
      skew = option_or (skew line) found.skew;
      sign = option_or (sign line) found.sign;
      fanout = is_fanout line || found.fanout;
      files = pushed found.files (file line);
    }

-- the key of the line was found as often as it may stand
abbrev pub stands : IdpLine → Found → Bool
stands (Entity name) found = is_some found.entity
stands (Base address) found = is_some found.base
stands (Listen place) found = is_some found.listen
stands (Users name) found = has_users found.files
stands (IdKey name) found = has_id_key found.files
stands (Skew milliseconds) found = is_some found.skew
stands (Sign mode) found = is_some found.sign
stands Fanout found = found.fanout
stands (Peer names) found = nat_le MAX_PEERS (count_by is_peer_file found.files)

abbrev pub unless_found : Found → Option IdpLine → Option IdpLine
unless_found found None = None
unless_found found (Some line) = if stands line found then None else Some line

abbrev pub next_line : Found → Said → Result IdpLine ℕ
next_line found (Says number text) = ok_or (unless_found found (line_of number text)) number
next_line found (NoText number) = Err number

-- the config of what is found and of what is still to be said
abbrev pub config_from : Found → List Said → Result IdpConfig ℕ
config_from found [] = ok_or (complete found) 0
config_from found (next ∷ others) = and_then (λ line. config_from (taken line found) others) (next_line found next)
