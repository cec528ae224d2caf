-- What the code finds line by line is what the definition says of all lines, for an identity provider.
use Rattle.std.proofs.Common.{◌≡◌, ℕ, ◌≤◌, Bool, true, false, ◌&&◌, cond, nat_le, List, [], ◌∷◌, ◌++◌, Option, None, Some, Result, Ok, Err, codes, is_some, ok_or, refl, sym, ap, ◌∙◌, arith}
use Rattle.std.specs.Prelude.{count_by, option_and_then, unwrap_or}
use Rattle.std.proofs.lemmas.Bool.Decides.{nat_tests}
use Rattle.std.proofs.lemmas.List.Sums.{sum_by_push}
use Rattle.std.specs.Option.{option_map_or}
use Rattle.std.specs.List.{filter_map, list_any, list_all}
use Rattle.std.specs.Str.{bytes_eq}
use Rattle.text_lines.specs.Lines.{Said, Says, NoText, said, and_then, with_lines}
use Rattle.provider_config.specs.declared.idp_config.IdpFile.{IdpFile}
use Rattle.provider_config.specs.declared.idp_config.SignMode.TheVariants as modes
use Rattle.provider_config.specs.declared.idp_config.TheConstants.{MAX_PEERS}
use Rattle.provider_config.specs.declared.idp_line.IdpLine.{IdpLine}
use Rattle.provider_config.specs.declared.idp_line.IdpLine.TheVariants.{Entity, Base, Listen, Users, IdKey, Skew, Sign, Fanout, Peer}
use Rattle.provider_config.specs.IdpLine.{key_of, line_of, spelled}
use Rattle.provider_config.specs.IdpConfig.{IdpConfig, entity, base, listen, skew, sign, file, is_users, is_id_key, is_peer_file, has_files, is_peer, is_beyond, config_of, idp_config}
use Rattle.provider_config.specs.IdpDrafts.{is_fanout, found, complete, taken, stands, unless_found, next_line, config_from}
use Rattle.provider_config.specs.Shared.{the, has_key, with_line, config_in}
use Rattle.provider_config.proofs.Sharing.{the-push, any-push, filter_map-push, is_some-the, any_filtered, count_filtered, fresh, line_behind, from_next, kept, of_lines}
use Rattle.owned_values.specs.Options.{◌>>=◌}

found-push : (lines : List IdpLine) (line : IdpLine) → found (lines ++ line ∷ []) ≡ taken line (found lines)
found-push lines line = λ i. record {
  entity = the-push entity lines line i;
  base = the-push base lines line i;
  listen = the-push listen lines line i;
  skew = the-push skew lines line i;
  sign = the-push sign lines line i;
  fanout = any-push is_fanout lines line i;
  files = filter_map-push file lines line i;
}

-- the line has this key
abbrev begins : List ℕ → IdpLine → Bool
begins key line = bytes_eq (key_of line) key

entity_key : (line : IdpLine) → is_some (entity line) ≡ begins (codes "entity") line
entity_key (Entity name) = refl
entity_key line = refl

base_key : (line : IdpLine) → is_some (base line) ≡ begins (codes "base") line
base_key (Base address) = refl
base_key line = refl

listen_key : (line : IdpLine) → is_some (listen line) ≡ begins (codes "listen") line
listen_key (Listen place) = refl
listen_key line = refl

skew_key : (line : IdpLine) → is_some (skew line) ≡ begins (codes "skew") line
skew_key (Skew milliseconds) = refl
skew_key line = refl

sign_key : (line : IdpLine) → is_some (sign line) ≡ begins (codes "sign") line
sign_key (Sign mode) = refl
sign_key line = refl

fanout_key : (line : IdpLine) → is_fanout line ≡ begins (codes "fanout") line
fanout_key Fanout = refl
fanout_key line = refl

users_key : (line : IdpLine) → option_map_or is_users (file line) false ≡ begins (codes "users") line
users_key (Users name) = refl
users_key line = refl

id_key_key : (line : IdpLine) → option_map_or is_id_key (file line) false ≡ begins (codes "id_key") line
id_key_key (IdKey name) = refl
id_key_key line = refl

peer_key : (line : IdpLine) → option_map_or is_peer_file (file line) false ≡ is_peer line
peer_key (Peer names) = refl
peer_key line = refl

stands-found : (line : IdpLine) (before : List IdpLine) → stands line (found before) ≡ is_beyond line before
stands-found (Entity name) before = is_some-the entity (begins (codes "entity")) entity_key before
stands-found (Base address) before = is_some-the base (begins (codes "base")) base_key before
stands-found (Listen place) before = is_some-the listen (begins (codes "listen")) listen_key before
stands-found (Users name) before = any_filtered file is_users (begins (codes "users")) users_key before
stands-found (IdKey name) before = any_filtered file is_id_key (begins (codes "id_key")) id_key_key before
stands-found (Skew milliseconds) before = is_some-the skew (begins (codes "skew")) skew_key before
stands-found (Sign mode) before = is_some-the sign (begins (codes "sign")) sign_key before
stands-found Fanout before = λ i. list_any (λ line. fanout_key line i) before
stands-found (Peer names) before = ap (nat_le MAX_PEERS) (count_filtered file is_peer_file is_peer peer_key before)

-- ---- a config

-- the files that a config needs are named where their keys stand
three : (a b c : Bool) → (a && b && c) ≡ (a && (b && (c && true)))
three false b c = refl
three true false c = refl
three true true false = refl
three true true true = refl

peer_begins : (line : IdpLine) → is_peer line ≡ begins (codes "peer") line
peer_begins (Peer names) = refl
peer_begins line = refl

files-named : (lines : List IdpLine) →
    has_files (filter_map file lines) ≡ list_all (has_key key_of lines) (codes "users" ∷ codes "id_key" ∷ codes "peer" ∷ [])
files-named lines =
    (λ i.
    any_filtered file is_users (begins (codes "users")) users_key lines i && any_filtered file is_id_key (begins (codes "id_key")) id_key_key lines i
    && any_filtered file is_peer_file (begins (codes "peer")) (λ line. peer_key line ∙ peer_begins line) lines i)
    ∙ three (has_key key_of lines (codes "users")) (has_key key_of lines (codes "id_key")) (has_key key_of lines (codes "peer"))

complete-found : (lines : List IdpLine) → complete (found lines) ≡ config_of lines
complete-found lines = λ i. the entity lines >>= λ entity. the base lines >>= λ base. the listen lines >>= λ listen. the skew lines >>= λ skew.
    cond (files-named lines i) (Some (record {
      entity = entity;
      base = base;
      listen = listen;
      skew = skew;
      files = filter_map file lines;
      sign = unwrap_or (the sign lines) modes.Assertion;
      fanout = list_any (λ line. fanout_key line i) lines;
    })) None

-- ---- the number of peers

files_of : (lines : List IdpLine) (config : IdpConfig) → config_of lines ≡ Some config → config.files ≡ filter_map file lines
files_of lines config e =
    which (the entity lines) (the base lines) (the listen lines) (the skew lines) (list_all (has_key key_of lines) (codes "users" ∷ codes "id_key" ∷ codes "peer" ∷ [])) e
  where
    which : (entity base listen : Option (List ℕ)) (skew : Option ℕ) (t : Bool) →
        option_and_then (λ entity. option_and_then (λ base. option_and_then (λ listen. option_and_then (λ skew.
        cond t (Some (record {
          entity = entity;
          base = base;
          listen = listen;
          skew = skew;
          files = filter_map file lines;
          sign = unwrap_or (the sign lines) modes.Assertion;
          fanout = has_key key_of lines (codes "fanout");
        })) None)
        skew) listen) base) entity ≡ Some config →
        config.files ≡ filter_map file lines
    which (Some a) (Some b) (Some c) (Some d) true e = cc
    which (Some a) (Some b) (Some c) (Some d) false e = absurd (cc)
    which None b c d t e = absurd (cc)
    which (Some a) None c d t e = absurd (cc)
    which (Some a) (Some b) None d t e = absurd (cc)
    which (Some a) (Some b) (Some c) None t e = absurd (cc)

-- a line that is not beyond what may stand leaves them few
still_few : (before : List IdpLine) (line : IdpLine) → count_by is_peer before ≤ MAX_PEERS → is_beyond line before ≡ false →
    count_by is_peer (before ++ line ∷ []) ≤ MAX_PEERS
still_few before (Peer names) h e =
    let more = sum_by_push (λ (l : IdpLine). cond (is_peer l) 1 0) before (Peer names) in
    grind (arith, nat_tests, e, more)
still_few before line h e = omega (arith, h, sum_by_push (λ (l : IdpLine). cond (is_peer l) 1 0) before line)

pub few_named : (text : List ℕ) (config : IdpConfig) → idp_config text ≡ Ok config → count_by is_peer_file config.files ≤ MAX_PEERS
few_named text config e =
    let (lines, few, whole) =
    of_lines config_of (λ lines. count_by is_peer lines ≤ MAX_PEERS) (with_lines (with_line spelled is_beyond) [] (said text)) config
    (kept spelled is_beyond (λ lines _. count_by is_peer lines ≤ MAX_PEERS) (λ before line next others by new h. still_few before line h new) [] (said text) (omega arith)) e in
    let same = count_filtered file is_peer_file is_peer peer_key lines in
    omega (arith, few, same, ap (λ (named : List IdpFile). count_by is_peer_file named) (files_of lines config whole))

-- ---- all lines

unless_found-is : (before : List IdpLine) (o : Option IdpLine) → unless_found (found before) o ≡ fresh is_beyond before o
unless_found-is before None = refl
unless_found-is before (Some line) = ap (λ b. cond b None (Some line)) (stands-found line before)

next_line-is : (before : List IdpLine) (next : Said) → next_line (found before) next ≡ line_behind spelled is_beyond before next
next_line-is before (Says number text) = ap (λ o. ok_or o number) (unless_found-is before (line_of number text))
next_line-is before (NoText number) = refl

-- the config of these lines, as it is found
abbrev result_of : List IdpLine → Result IdpConfig ℕ
result_of lines = ok_or (complete (found lines)) 0

by_line : (before : List IdpLine) (others : List Said) →
    ((lines : List IdpLine) → config_from (found lines) others ≡ and_then result_of (with_lines (with_line spelled is_beyond) lines others)) → (next : Result IdpLine ℕ) →
    and_then (λ line. config_from (taken line (found before)) others) next
    ≡ and_then result_of (and_then (λ line. with_lines (with_line spelled is_beyond) (before ++ line ∷ []) others) next)
by_line before others rest (Err number) = refl
by_line before others rest (Ok line) =
    ap (λ f. config_from f others) (sym (found-push before line)) ∙ rest (before ++ line ∷ [])

config_from-found : (rest : List Said) (before : List IdpLine) → config_from (found before) rest ≡ and_then result_of (with_lines (with_line spelled is_beyond) before rest)
config_from-found [] before = refl
config_from-found (next ∷ others) before =
    ap (and_then (λ line. config_from (taken line (found before)) others)) (next_line-is before next)
    ∙ by_line before others (config_from-found others) (line_behind spelled is_beyond before next)
    ∙ ap (and_then result_of) (sym (from_next spelled is_beyond before next others))

-- where nothing is found yet, and all is still to be said
pub at_first : (text : List ℕ) → config_from (found []) (said text) ≡ idp_config text
at_first text =
    config_from-found (said text) []
    ∙ ap (λ (make : List IdpLine → Option IdpConfig). config_in spelled is_beyond make text) (λ i lines. complete-found lines i)
