-- What the code finds line by line is what the definition says of all lines.
use Rattle.std.proofs.Common.{◌≡◌, ℕ, Bool, true, false, ◌&&◌, cond, List, [], ◌∷◌, ◌++◌, Option, None, Some, Result, Ok, Err, codes, is_some, ok_or, IfSome, refl, sym, ap, ◌∙◌}
use Rattle.std.specs.Prelude.{option_and_then}
use Rattle.std.specs.List.{filter_map, list_any, list_all}
use Rattle.std.specs.Option.{option_map_or}
use Rattle.std.specs.Str.{bytes_eq}
use Rattle.text_lines.specs.Lines.{Said, Says, NoText, said, and_then, with_lines}
use Rattle.provider_config.specs.declared.config.FileRole.{FileRole}
use Rattle.provider_config.specs.declared.config.FileRole.TheVariants as roles
use Rattle.provider_config.specs.declared.config.SpFile.{SpFile}
use Rattle.provider_config.specs.declared.line.Purpose.{Purpose}
use Rattle.provider_config.specs.declared.line.SpLine.{SpLine}
use Rattle.provider_config.specs.declared.line.SpLine.TheVariants.{Entity, Base, Listen, Idp, KeyIn, KeyOut, IdKey, Skew, NextIn, Policy, Registry, Guard, Asked, Opened}
use Rattle.provider_config.specs.Line.{key_of, line_of, spelled}
use Rattle.provider_config.specs.Config.{Config, entity, base, listen, skew, times, file, asked, opened, same_role, role_of, has_file, has_files, doubles, config_of, sp_config}
use Rattle.provider_config.specs.Shared.{the, has_key, with_line, config_in}
use Rattle.provider_config.proofs.Sharing.{the-push, filter_map-push, any-push, is_some-the, any_filtered, fresh, line_behind, from_next}
use Rattle.provider_config.specs.Drafts.{is_guard, found, complete, taken, stands, unless_found, next_line, config_from}
use Rattle.owned_values.specs.Options.{◌>>=◌}

-- ---- one more line

pub found-push : (lines : List SpLine) (line : SpLine) → found (lines ++ line ∷ []) ≡ taken line (found lines)
found-push lines line = λ i. record {
  entity = the-push entity lines line i;
  base = the-push base lines line i;
  listen = the-push listen lines line i;
  skew = the-push skew lines line i;
  files = filter_map-push file lines line i;
  next_in = the-push times lines line i;
  guard = any-push is_guard lines line i;
  asked = filter_map-push asked lines line i;
  opened = filter_map-push opened lines line i;
}

-- ---- doubled keys

-- the line has this key
abbrev begins : List ℕ → SpLine → Bool
begins key line = bytes_eq (key_of line) key

entity_key : (line : SpLine) → is_some (entity line) ≡ begins (codes "entity") line
entity_key (Entity name) = refl
entity_key line = refl

base_key : (line : SpLine) → is_some (base line) ≡ begins (codes "base") line
base_key (Base address) = refl
base_key line = refl

listen_key : (line : SpLine) → is_some (listen line) ≡ begins (codes "listen") line
listen_key (Listen place) = refl
listen_key line = refl

skew_key : (line : SpLine) → is_some (skew line) ≡ begins (codes "skew") line
skew_key (Skew milliseconds) = refl
skew_key line = refl

next_in_key : (line : SpLine) → is_some (times line) ≡ begins (codes "next_in") line
next_in_key (NextIn name moments) = refl
next_in_key line = refl

-- the file has this role
abbrev is_for : FileRole → SpFile → Bool
is_for role named = same_role (role_of named) role

idp_key : (line : SpLine) → option_map_or (is_for roles.Idp) (file line) false ≡ begins (codes "idp") line
idp_key (Idp name) = refl
idp_key (Registry line) = refl
idp_key line = refl

key_in_key : (line : SpLine) → option_map_or (is_for roles.KeyIn) (file line) false ≡ begins (codes "key_in") line
key_in_key (KeyIn name) = refl
key_in_key line = refl

key_out_key : (line : SpLine) → option_map_or (is_for roles.KeyOut) (file line) false ≡ begins (codes "key_out") line
key_out_key (KeyOut name) = refl
key_out_key line = refl

id_key_key : (line : SpLine) → option_map_or (is_for roles.IdKey) (file line) false ≡ begins (codes "id_key") line
id_key_key (IdKey name) = refl
id_key_key line = refl

policy_key : (line : SpLine) → option_map_or (is_for roles.Policy) (file line) false ≡ begins (codes "policy") line
policy_key (Policy name) = refl
policy_key line = refl

guard_key : (line : SpLine) → is_guard line ≡ begins (codes "guard") line
guard_key Guard = refl
guard_key line = refl

pub stands-found : (line : SpLine) (before : List SpLine) → stands line (found before) ≡ doubles line before
stands-found (Entity name) before = is_some-the entity (begins (codes "entity")) entity_key before
stands-found (Base address) before = is_some-the base (begins (codes "base")) base_key before
stands-found (Listen place) before = is_some-the listen (begins (codes "listen")) listen_key before
stands-found (Idp name) before = any_filtered file (is_for roles.Idp) (begins (codes "idp")) idp_key before
stands-found (KeyIn name) before = any_filtered file (is_for roles.KeyIn) (begins (codes "key_in")) key_in_key before
stands-found (KeyOut name) before = any_filtered file (is_for roles.KeyOut) (begins (codes "key_out")) key_out_key before
stands-found (IdKey name) before = any_filtered file (is_for roles.IdKey) (begins (codes "id_key")) id_key_key before
stands-found (Skew milliseconds) before = is_some-the skew (begins (codes "skew")) skew_key before
stands-found (NextIn name moments) before = is_some-the times (begins (codes "next_in")) next_in_key before
stands-found (Policy name) before = any_filtered file (is_for roles.Policy) (begins (codes "policy")) policy_key before
stands-found (Registry line) before = any_filtered file (is_for roles.Idp) (begins (codes "idp")) idp_key before
stands-found Guard before = λ i. list_any (λ line. guard_key line i) before
stands-found (Asked row) before = refl
stands-found (Opened row) before = refl

next_in_file : (line : SpLine) → option_map_or (is_for roles.NextIn) (file line) false ≡ begins (codes "next_in") line
next_in_file (NextIn name moments) = refl
next_in_file line = refl

-- a file has a role that a file of the lines before it has, exactly where its line doubles their keys
pub named_before : (line : SpLine) (before : List SpLine) → IfSome (file line) (λ named. has_file (role_of named) (filter_map file before) ≡ doubles line before)
named_before (Idp name) before = any_filtered file (is_for roles.Idp) (begins (codes "idp")) idp_key before
named_before (KeyIn name) before = any_filtered file (is_for roles.KeyIn) (begins (codes "key_in")) key_in_key before
named_before (KeyOut name) before = any_filtered file (is_for roles.KeyOut) (begins (codes "key_out")) key_out_key before
named_before (IdKey name) before = any_filtered file (is_for roles.IdKey) (begins (codes "id_key")) id_key_key before
named_before (NextIn name moments) before = any_filtered file (is_for roles.NextIn) (begins (codes "next_in")) next_in_file before
named_before (Policy name) before = any_filtered file (is_for roles.Policy) (begins (codes "policy")) policy_key before
named_before (Registry line) before = any_filtered file (is_for roles.Idp) (begins (codes "idp")) idp_key before
named_before line before = tt

-- ---- a config

-- the files that a config needs are named where their keys stand
both : (a b c d : Bool) → (a && b && c && d) ≡ (a && (b && (c && (d && true))))
both false b c d = refl
both true false c d = refl
both true true false d = refl
both true true true false = refl
both true true true true = refl

pub files-named : (lines : List SpLine) →
    has_files (filter_map file lines) ≡ list_all (has_key key_of lines) (codes "idp" ∷ codes "key_in" ∷ codes "key_out" ∷ codes "id_key" ∷ [])
files-named lines =
    (λ i.
    any_filtered file (is_for roles.Idp) (begins (codes "idp")) idp_key lines i
    && any_filtered file (is_for roles.KeyIn) (begins (codes "key_in")) key_in_key lines i
    && any_filtered file (is_for roles.KeyOut) (begins (codes "key_out")) key_out_key lines i
    && any_filtered file (is_for roles.IdKey) (begins (codes "id_key")) id_key_key lines i)
    ∙ both (has_key key_of lines (codes "idp")) (has_key key_of lines (codes "key_in")) (has_key key_of lines (codes "key_out")) (has_key key_of lines (codes "id_key"))

pub complete-found : (lines : List SpLine) → complete (found lines) ≡ config_of lines
complete-found lines = λ i. the entity lines >>= λ entity. the base lines >>= λ base. the listen lines >>= λ listen. the skew lines >>= λ skew.
    cond (files-named lines i) (Some (record {
      entity = entity;
      base = base;
      listen = listen;
      skew = skew;
      files = filter_map file lines;
      next_in = the times lines;
      guard = list_any (λ line. guard_key line i) lines;
      asked = filter_map asked lines;
      opened = filter_map opened lines;
    })) None

-- what a config has of its lines
pub record IsMadeOf (lines : List SpLine) (config : Config) : Type 0 where
  pub files : config.files ≡ filter_map file lines
  pub guard : config.guard ≡ list_any is_guard lines
  pub asked : config.asked ≡ filter_map asked lines
  pub opened : config.opened ≡ filter_map opened lines
  pub named : has_files config.files ≡ true

pub made_of : (lines : List SpLine) (config : Config) → config_of lines ≡ Some config → IsMadeOf lines config
made_of lines config e = which (the entity lines) (the base lines) (the listen lines) (the skew lines) (has_files (filter_map file lines)) refl (complete-found lines ∙ e)
  where
    which : (entity base listen : Option (List ℕ)) (skew : Option ℕ) (t : Bool) → has_files (filter_map file lines) ≡ t →
        option_and_then (λ entity. option_and_then (λ base. option_and_then (λ listen. option_and_then (λ skew.
        cond t (Some (record {
          entity = entity;
          base = base;
          listen = listen;
          skew = skew;
          files = filter_map file lines;
          next_in = the times lines;
          guard = list_any is_guard lines;
          asked = filter_map asked lines;
          opened = filter_map opened lines;
        })) None)
        skew) listen) base) entity ≡ Some config →
        IsMadeOf lines config
    which (Some a) (Some b) (Some c) (Some d) true is e =
        let files : config.files ≡ filter_map file lines = cc in
        record { files = files; guard = cc; asked = cc; opened = cc; named = ap has_files files ∙ is }
    which (Some a) (Some b) (Some c) (Some d) false is e = absurd (cc)
    which None b c d t is e = absurd (cc)
    which (Some a) None c d t is e = absurd (cc)
    which (Some a) (Some b) None d t is e = absurd (cc)
    which (Some a) (Some b) (Some c) None t is e = absurd (cc)

-- ---- all lines

unless_found-is : (before : List SpLine) (o : Option SpLine) → unless_found (found before) o ≡ fresh doubles before o
unless_found-is before None = refl
unless_found-is before (Some line) = ap (λ b. cond b None (Some line)) (stands-found line before)

next_line-is : (purpose : Purpose) (before : List SpLine) (next : Said) → next_line purpose (found before) next ≡ line_behind (λ _. spelled purpose) doubles before next
next_line-is purpose before (Says number text) = ap (λ o. ok_or o number) (unless_found-is before (line_of purpose text))
next_line-is purpose before (NoText number) = refl

-- the config of these lines, as it is found
abbrev result_of : List SpLine → Result Config ℕ
result_of lines = ok_or (complete (found lines)) 0

by_line : (purpose : Purpose) (before : List SpLine) (others : List Said) →
    ((lines : List SpLine) → config_from purpose (found lines) others ≡ and_then result_of (with_lines (with_line (λ _. spelled purpose) doubles) lines others)) → (next : Result SpLine ℕ) →
    and_then (λ line. config_from purpose (taken line (found before)) others) next
    ≡ and_then result_of (and_then (λ line. with_lines (with_line (λ _. spelled purpose) doubles) (before ++ line ∷ []) others) next)
by_line purpose before others rest (Err number) = refl
by_line purpose before others rest (Ok line) =
    ap (λ f. config_from purpose f others) (sym (found-push before line)) ∙ rest (before ++ line ∷ [])

config_from-found : (purpose : Purpose) (rest : List Said) (before : List SpLine) →
    config_from purpose (found before) rest ≡ and_then result_of (with_lines (with_line (λ _. spelled purpose) doubles) before rest)
config_from-found purpose [] before = refl
config_from-found purpose (next ∷ others) before =
    ap (and_then (λ line. config_from purpose (taken line (found before)) others)) (next_line-is purpose before next)
    ∙ by_line purpose before others (config_from-found purpose others) (line_behind (λ _. spelled purpose) doubles before next)
    ∙ ap (and_then result_of) (sym (from_next (λ _. spelled purpose) doubles before next others))

-- where nothing is found yet, and all is still to be said
pub at_first : (purpose : Purpose) (text : List ℕ) → config_from purpose (found []) (said text) ≡ sp_config purpose text
at_first purpose text =
    config_from-found purpose (said text) []
    ∙ ap (λ (make : List SpLine → Option Config). config_in (λ _. spelled purpose) doubles make text) (λ i lines. complete-found lines i)
