-- Words by which the code keeps the definitions: what is found so far, and what one more line adds.
use Rattle.std.specs.Prelude.{ℕ, Bool, true, false, ◌||◌, List, [], ◌∷◌, Option, None, Some, Result, Err, ok_or, is_some, if◌then◌else◌}
use Rattle.std.specs.List.{filter_map, list_any}
use Rattle.std.specs.Option.{option_or}
use Rattle.text_lines.specs.Lines.{Said, Says, NoText, and_then}
use Rattle.provider_config.specs.declared.config.FileRole.TheVariants as roles
use Rattle.provider_config.specs.declared.line.Purpose.{Purpose}
use Rattle.provider_config.specs.declared.line.SpLine.{SpLine}
use Rattle.provider_config.specs.declared.line.SpLine.TheVariants.{Entity, Base, Listen, Idp, KeyIn, KeyOut, IdKey, Skew, NextIn, Policy, Registry, Guard, Asked, Opened}
use Rattle.provider_config.specs.Line.{line_of}
use Rattle.provider_config.specs.declared.config.AskedLine.{AskedLine}
use Rattle.provider_config.specs.declared.config.OpenedLine.{OpenedLine}
use Rattle.provider_config.specs.declared.config.SpFile.{SpFile}
use Rattle.provider_config.specs.declared.config.Times.{Times}
use Rattle.provider_config.specs.Config.{Config, entity, base, listen, skew, times, file, asked, opened, has_file, has_files}
use Rattle.provider_config.specs.Shared.{pushed, the}
use Rattle.owned_values.specs.Options.{◌>>=◌}

-- ---- what is found so far

abbrev pub is_guard : SpLine → Bool
is_guard Guard = true
is_guard line = false

-- what lines say together
pub record Found : Type 0 where
  pub entity : Option (List ℕ)
  pub base : Option (List ℕ)
  pub listen : Option (List ℕ)
  pub skew : Option ℕ
  pub files : List SpFile
  pub next_in : Option Times
  pub guard : Bool
  pub asked : List AskedLine
  pub opened : List OpenedLine

abbrev pub found : List SpLine → Found
found lines =
    record {
      entity = the entity lines;
      base = the base lines;
      listen = the listen lines;
      skew = the skew lines;
      files = filter_map file lines;
      next_in = the times lines;
      guard = list_any is_guard lines;
      asked = filter_map asked lines;
      opened = filter_map opened lines;
    }

-- the config of what is found; none where a key is missing
abbrev pub complete : Found → Option Config
complete found = do
  entity ← found.entity
  base ← found.base
  listen ← found.listen
  skew ← found.skew
  if has_files found.files then Some (record { entity = entity; base = base; listen = listen; skew = skew; files = found.files; next_in = found.next_in; guard = found.guard; asked = found.asked; opened = found.opened }) else None

-- what is found with one more line
abbrev pub taken : SpLine → Found → Found
taken line found =
    record {
      entity = option_or (entity line) found.entity;
      base = option_or (base line) found.base;
      listen = option_or (listen line) found.listen;
      skew = option_or (skew line) found.skew;
      files = pushed found.files (file line);
      next_in = option_or (times line) found.next_in;
      guard = is_guard line || found.guard;
      asked = pushed found.asked (asked line);
      opened = pushed found.opened (opened line);
    }

-- the key of the line was found, and stands once
abbrev pub stands : SpLine → Found → Bool
stands (Entity name) found = is_some found.entity
stands (Base address) found = is_some found.base
stands (Listen place) found = is_some found.listen
stands (Idp name) found = has_file roles.Idp found.files
stands (KeyIn name) found = has_file roles.KeyIn found.files
stands (KeyOut name) found = has_file roles.KeyOut found.files
stands (IdKey name) found = has_file roles.IdKey found.files
stands (Skew milliseconds) found = is_some found.skew
stands (NextIn name moments) found = is_some found.next_in
stands (Policy name) found = has_file roles.Policy found.files
stands (Registry line) found = has_file roles.Idp found.files
stands Guard found = found.guard
stands (Asked row) found = false
stands (Opened row) found = false

abbrev pub unless_found : Found → Option SpLine → Option SpLine
unless_found found None = None
unless_found found (Some line) = if stands line found then None else Some line

abbrev pub next_line : Purpose → Found → Said → Result SpLine ℕ
next_line purpose found (Says number text) = ok_or (unless_found found (line_of purpose text)) number
next_line purpose found (NoText number) = Err number

-- the config of what is found and of what is still to be said
abbrev pub config_from : Purpose → Found → List Said → Result Config ℕ
config_from purpose found [] = ok_or (complete found) 0
config_from purpose found (next ∷ others) =
    and_then (λ line. config_from purpose (taken line found) others) (next_line purpose found next)
