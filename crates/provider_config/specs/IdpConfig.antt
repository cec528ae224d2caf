-- The lines of an identity provider's config: which of them make one, and what it says.
use Rattle.std.specs.Prelude.{ℕ, ◌≤◌, ◌*◌, Bool, true, false, ◌&&◌, nat_le, List, [], ◌∷◌, codes, count_by, Option, None, Some, unwrap_or, Result, if◌then◌else◌}
use Rattle.std.specs.List.{filter_map, list_any, list_all}
use Rattle.xml_spec.specs.Characters.{IsText}
use Rattle.provider_config.specs.declared.idp_config.IdpFile.{IdpFile}
use Rattle.provider_config.specs.declared.idp_config.IdpFile.TheVariants as files
use Rattle.provider_config.specs.declared.idp_config.IdpLines.{IdpLines}
use Rattle.provider_config.specs.declared.idp_config.SignMode.{SignMode}
use Rattle.provider_config.specs.declared.idp_config.SignMode.TheVariants as modes
use Rattle.provider_config.specs.declared.idp_config.TheConstants.{MAX_PEERS}
use Rattle.provider_config.specs.declared.idp_line.IdpLine.{IdpLine}
use Rattle.provider_config.specs.declared.idp_line.IdpLine.TheVariants.{Entity, Base, Listen, Users, IdKey, Skew, Sign, Peer}
use Rattle.provider_config.specs.declared.line.TheConstants.{MILLIS, MOST_SKEW}
use Rattle.provider_config.specs.IdpLine.{key_of, spelled}
use Rattle.provider_config.specs.Shared.{the, has_key, config_in}
use Rattle.owned_values.specs.Options.{◌>>=◌}

-- ---- the lines of a text

abbrev pub is_peer : IdpLine → Bool
is_peer (Peer names) = true
is_peer line = false

-- the line is one peer too many, or has another key that stands in one of the lines before it
abbrev pub is_beyond : IdpLine → List IdpLine → Bool
is_beyond (Peer names) before = nat_le MAX_PEERS (count_by is_peer before)
is_beyond line before = has_key key_of before (key_of line)

-- ---- what lines say

-- what a line says is within its bounds; a name, an address and a place are texts that XML allows
abbrev pub IsSound : IdpLine → Type 0
IsSound (Entity name) = IsText name
IsSound (Base address) = IsText address
IsSound (Listen place) = IsText place
IsSound (Skew milliseconds) = milliseconds ≤ MILLIS * MOST_SKEW
IsSound line = Unit {0}

abbrev pub entity : IdpLine → Option (List ℕ)
entity (Entity name) = Some name
entity line = None

abbrev pub base : IdpLine → Option (List ℕ)
base (Base address) = Some address
base line = None

abbrev pub listen : IdpLine → Option (List ℕ)
listen (Listen place) = Some place
listen line = None

abbrev pub skew : IdpLine → Option ℕ
skew (Skew milliseconds) = Some milliseconds
skew line = None

abbrev pub sign : IdpLine → Option SignMode
sign (Sign mode) = Some mode
sign line = None

abbrev pub file : IdpLine → Option IdpFile
file (Users name) = Some (files.Users name)
file (IdKey name) = Some (files.IdKey name)
file (Peer names) = Some (files.Peer names)
file line = None

-- ---- a config

-- the name and the places, the files in the order of their lines, what is signed, and whether the line `fanout` stands
pub record IdpConfig : Type 0 where
  pub entity : List ℕ
  pub base : List ℕ
  pub listen : List ℕ
  pub skew : ℕ
  pub files : List IdpFile
  pub sign : SignMode
  pub fanout : Bool

-- the config of these lines; none where a key is missing. Without a line of it the Assertion is signed
abbrev pub config_of : List IdpLine → Option IdpConfig
config_of lines = do
  entity ← the entity lines
  base ← the base lines
  listen ← the listen lines
  skew ← the skew lines
  if list_all (has_key key_of lines) (codes "users" ∷ codes "id_key" ∷ codes "peer" ∷ []) then Some (record {
    entity = entity;
    base = base;
    listen = listen;
    skew = skew;
    files = filter_map file lines;
    sign = unwrap_or (the sign lines) modes.Assertion;
    fanout = has_key key_of lines (codes "fanout");
  }) else None

-- the config of an identity provider's text
abbrev pub idp_config : List ℕ → Result IdpConfig ℕ
idp_config text = config_in spelled is_beyond config_of text

-- ---- the files of a config

abbrev pub is_users : IdpFile → Bool
is_users (files.Users name) = true
is_users named = false

abbrev pub is_id_key : IdpFile → Bool
is_id_key (files.IdKey name) = true
is_id_key named = false

abbrev pub is_peer_file : IdpFile → Bool
is_peer_file (files.Peer names) = true
is_peer_file named = false

abbrev pub has_users : List IdpFile → Bool
has_users named = list_any is_users named

abbrev pub has_id_key : List IdpFile → Bool
has_id_key named = list_any is_id_key named

abbrev pub has_peer : List IdpFile → Bool
has_peer named = list_any is_peer_file named

-- the files that each config names
abbrev pub has_files : List IdpFile → Bool
has_files named = has_users named && has_id_key named && has_peer named

-- ---- how contracts see what is read

abbrev pub config_view : IdpLines → IdpConfig
config_view lines =
    record {
      entity = lines.entity;
      base = lines.base;
      listen = lines.listen;
      skew = lines.skew;
      files = lines.files.items;
      sign = lines.sign;
      fanout = lines.fanout;
    }
