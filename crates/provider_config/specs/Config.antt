-- The lines of a config: which of them make one, and what it says.
use Rattle.std.specs.Prelude.{◌≡◌, ℕ, ◌≤◌, ◌*◌, Bool, true, false, ◌&&◌, List, [], ◌∷◌, codes, Option, None, Some, Result, if◌then◌else◌}
use Rattle.std.specs.List.{filter_map, list_any, list_all}
use Rattle.xml_spec.specs.Characters.{IsText}
use Rattle.provider_config.specs.declared.config.FileRole.{FileRole}
use Rattle.provider_config.specs.declared.config.FileRole.TheVariants as roles
use Rattle.provider_config.specs.declared.config.Times.{Times}
use Rattle.provider_config.specs.declared.config.AskedLine.{AskedLine}
use Rattle.provider_config.specs.declared.config.OpenedLine.{OpenedLine}
use Rattle.provider_config.specs.declared.config.SpFile.{SpFile}
use Rattle.provider_config.specs.declared.config.SpFile.TheVariants as names
use Rattle.provider_config.specs.declared.config.SpLines.{SpLines}
use Rattle.provider_config.specs.declared.line.TheConstants.{MILLIS, MOST_SKEW}
use Rattle.provider_config.specs.declared.line.Purpose.{Purpose}
use Rattle.provider_config.specs.declared.line.SpLine.{SpLine}
use Rattle.provider_config.specs.declared.line.SpLine.TheVariants.{Entity, Base, Listen, Idp, KeyIn, KeyOut, IdKey, Skew, NextIn, Policy, Registry, Asked, Opened}
use Rattle.provider_config.specs.Line.{key_of, spelled}
use Rattle.provider_config.specs.Shared.{the, has_key, config_in}
use Rattle.owned_values.specs.Options.{◌>>=◌}

-- ---- the lines of a text

-- the line has a key that stands in one of the lines before it, and may stand in one only
abbrev pub doubles : SpLine → List SpLine → Bool
doubles (Asked row) before = false
doubles (Opened row) before = false
doubles line before = has_key key_of before (key_of line)

-- ---- what lines say

-- moments in order
abbrev pub AreInOrder : Times → Type 0
AreInOrder moments = moments.from ≤ moments.until

-- what a line says is within its bounds; a name, an address and a place are texts that XML allows
abbrev pub IsSound : SpLine → Type 0
IsSound (Entity name) = IsText name
IsSound (Base address) = IsText address
IsSound (Listen place) = IsText place
IsSound (Skew milliseconds) = milliseconds ≤ MILLIS * MOST_SKEW
IsSound (NextIn name moments) = AreInOrder moments
IsSound line = Unit {0}

abbrev pub entity : SpLine → Option (List ℕ)
entity (Entity name) = Some name
entity line = None

abbrev pub base : SpLine → Option (List ℕ)
base (Base address) = Some address
base line = None

abbrev pub listen : SpLine → Option (List ℕ)
listen (Listen place) = Some place
listen line = None

abbrev pub skew : SpLine → Option ℕ
skew (Skew milliseconds) = Some milliseconds
skew line = None

abbrev pub times : SpLine → Option Times
times (NextIn name moments) = Some moments
times line = None

-- one file of this role
abbrev pub one : FileRole → List ℕ → Option SpFile
one role name = Some (names.One (record { role = role; name = name }))

abbrev pub file : SpLine → Option SpFile
file (Idp name) = one roles.Idp name
file (KeyIn name) = one roles.KeyIn name
file (KeyOut name) = one roles.KeyOut name
file (IdKey name) = one roles.IdKey name
file (NextIn name moments) = one roles.NextIn name
file (Policy name) = one roles.Policy name
file (Registry line) = Some (names.Registry line)
file line = None

abbrev pub asked : SpLine → Option AskedLine
asked (Asked row) = Some row
asked line = None

abbrev pub opened : SpLine → Option OpenedLine
opened (Opened row) = Some row
opened line = None

-- ---- a config

-- the names and places, the files in the order of their lines, whether there is a guard, and the rows
pub record Config : Type 0 where
  pub entity : List ℕ
  pub base : List ℕ
  pub listen : List ℕ
  pub skew : ℕ
  pub files : List SpFile
  pub next_in : Option Times
  pub guard : Bool
  pub asked : List AskedLine
  pub opened : List OpenedLine

-- the config of these lines; none where a key is missing
abbrev pub config_of : List SpLine → Option Config
config_of lines = do
  entity ← the entity lines
  base ← the base lines
  listen ← the listen lines
  skew ← the skew lines
  if list_all (has_key key_of lines) (codes "idp" ∷ codes "key_in" ∷ codes "key_out" ∷ codes "id_key" ∷ [])
      then Some (record {
        entity = entity;
        base = base;
        listen = listen;
        skew = skew;
        files = filter_map file lines;
        next_in = the times lines;
        guard = has_key key_of lines (codes "guard");
        asked = filter_map asked lines;
        opened = filter_map opened lines;
      }) else None

-- the config of a service provider's text, for this purpose
abbrev pub sp_config : Purpose → List ℕ → Result Config ℕ
sp_config purpose text = config_in (λ number. spelled purpose) doubles config_of text

-- ---- the files of a config

abbrev pub same_role : FileRole → FileRole → Bool
same_role roles.Idp roles.Idp = true
same_role roles.KeyIn roles.KeyIn = true
same_role roles.KeyOut roles.KeyOut = true
same_role roles.IdKey roles.IdKey = true
same_role roles.NextIn roles.NextIn = true
same_role roles.Policy roles.Policy = true
same_role role other = false

-- what a file tells; a registry tells what the metadata of the identity provider does
abbrev pub role_of : SpFile → FileRole
role_of (names.One named) = named.role
role_of (names.Registry line) = roles.Idp

-- a file of this role is named
abbrev pub has_file : FileRole → List SpFile → Bool
has_file role files = list_any (λ named. same_role (role_of named) role) files

-- the files that each config names
abbrev pub has_files : List SpFile → Bool
has_files files = has_file roles.Idp files && has_file roles.KeyIn files && has_file roles.KeyOut files && has_file roles.IdKey files

-- no two of the files have one role
abbrev pub AreOfDifferentRoles : List SpFile → Type 0
AreOfDifferentRoles [] = Unit {0}
AreOfDifferentRoles (named ∷ others) = (has_file (role_of named) others ≡ false) × AreOfDifferentRoles others

-- ---- how contracts see what is read

abbrev pub config_view : SpLines → Config
config_view lines =
    record {
      entity = lines.entity;
      base = lines.base;
      listen = lines.listen;
      skew = lines.skew;
      files = lines.files.items;
      next_in = lines.next_in;
      guard = lines.guard;
      asked = lines.asked.items;
      opened = lines.opened.items;
    }
