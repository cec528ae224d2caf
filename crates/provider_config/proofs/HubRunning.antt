-- What the code finds line by line is what the definition says of all lines, for a hub.
use Rattle.std.proofs.Common.{◌≡◌, ℕ, Bool, true, false, cond, nat_le, List, [], ◌∷◌, ◌++◌, Option, None, Some, Result, Ok, Err, IfOk, ok_or, refl, sym, ap, subst, ◌∙◌}
use Rattle.std.specs.List.{filter_map, cons_option, list_any}
use Rattle.std.specs.Option.{option_map, option_map_or}
use Rattle.text_lines.specs.Lines.{Said, Says, NoText, said, and_then, with_lines}
use Rattle.provider_config.specs.declared.config.SpFile.{SpFile}
use Rattle.provider_config.specs.declared.hub_config.HubFile.{HubFile}
use Rattle.provider_config.specs.declared.hub_config.HubFile.TheVariants as files
use Rattle.provider_config.specs.declared.hub_line.HubLine.{HubLine}
use Rattle.provider_config.specs.declared.hub_line.HubLine.TheVariants.{Above, Peer}
use Rattle.provider_config.specs.declared.idp_config.TheConstants.{MAX_PEERS}
use Rattle.provider_config.specs.declared.line.SpLine.{SpLine}
use Rattle.provider_config.specs.declared.line.SpLine.TheVariants.{Guard, Asked, Opened}
use Rattle.provider_config.specs.Config as sp
use Rattle.provider_config.specs.HubConfig.{HubConfig, is_peer, sp_line, above, is_beyond, file, config_of, hub_config}
use Rattle.provider_config.specs.Drafts as drafts
use Rattle.provider_config.specs.HubDrafts.{Found, found, made_with, complete, taken, stands, unless_found, next_line, config_from}
use Rattle.provider_config.specs.HubLine.{line_of, spelled}
use Rattle.provider_config.specs.HubViews.{above_files, is_peer_file}
use Rattle.provider_config.specs.Shared.{with_line}
use Rattle.provider_config.proofs.HubServing.{is_plain, plain_line}
use Rattle.provider_config.proofs.Running as running
use Rattle.provider_config.proofs.Sharing.{filter_map-push, any_filtered, count_filtered, fresh, line_behind, from_next, kept}
use Rattle.owned_values.specs.Options.{◌>>=◌}

-- ---- one more line

found-push : (lines : List HubLine) (line : HubLine) → found (lines ++ line ∷ []) ≡ taken line (found lines)
found-push lines (Above line) = λ i. record {
  above = (ap drafts.found (filter_map-push sp_line lines (Above line)) ∙ running.found-push (above lines) line) i;
  files = filter_map-push file lines (Above line) i;
}
found-push lines (Peer names) = λ i. record {
  above = ap drafts.found (filter_map-push sp_line lines (Peer names)) i;
  files = filter_map-push file lines (Peer names) i;
}

-- the file of a line is of a peer exactly where the line is
above_is_no_peer : (o : Option SpFile) → option_map_or is_peer_file (option_map files.Above o) false ≡ false
above_is_no_peer None = refl
above_is_no_peer (Some named) = refl

pub peer_key : (line : HubLine) → option_map_or is_peer_file (file line) false ≡ is_peer line
peer_key (Above line) = above_is_no_peer (sp.file line)
peer_key (Peer names) = refl

stands-found : (line : HubLine) (before : List HubLine) → stands line (found before) ≡ is_beyond line before
stands-found (Above line) before = running.stands-found line (above before)
stands-found (Peer names) before = ap (nat_le MAX_PEERS) (count_filtered file is_peer_file is_peer peer_key before)

-- ---- a config

one_more : (o : Option SpFile) (named : List HubFile) (others : List SpFile) → above_files named ≡ others →
    above_files (cons_option (option_map files.Above o) named) ≡ cons_option o others
one_more None named others e = e
one_more (Some first) named others e = ap (λ (rest : List SpFile). first ∷ rest) e

-- the files that a service provider's config names too are those of its lines
pub above_files_are : (lines : List HubLine) → above_files (filter_map file lines) ≡ filter_map sp.file (above lines)
above_files_are [] = refl
above_files_are (Above line ∷ lines) = one_more (sp.file line) (filter_map file lines) (filter_map sp.file (above lines)) (above_files_are lines)
above_files_are (Peer names ∷ lines) = above_files_are lines

-- no guard is found, and no rows
record IsBare (f : drafts.Found) : Type 0 where
  guard : f.guard ≡ false
  asked : f.asked ≡ []
  opened : f.opened ≡ []

-- what these lines say as a service provider's is all that such a config says of them
whole : (lines : List HubLine) → IsBare (drafts.found (above lines)) → (one : sp.Config) → sp.config_of (above lines) ≡ Some one →
    one ≡ (made_with (filter_map file lines) one).above
whole lines bare one e =
    let made = running.made_of (above lines) one e in
    λ i. record one {
      files = (made.files ∙ sym (above_files_are lines)) i;
      guard = (made.guard ∙ bare.guard) i;
      asked = (made.asked ∙ bare.asked) i;
      opened = (made.opened ∙ bare.opened) i;
    }

-- the config of lines that say this as a service provider's
abbrev made : List HubLine → sp.Config → HubConfig
made lines one = record { above = one; files = filter_map file lines }

complete-found : (lines : List HubLine) → IsBare (drafts.found (above lines)) → complete (found lines) ≡ config_of lines
complete-found lines bare =
    (λ i. running.complete-found (above lines) i >>= λ one.
    cond (any_filtered file is_peer_file is_peer peer_key lines i) (Some (made_with (filter_map file lines) one)) None)
    ∙ which (sp.config_of (above lines)) refl (list_any is_peer lines)
  where
    which : (o : Option sp.Config) → sp.config_of (above lines) ≡ o → (t : Bool) →
        (o >>= λ one. cond t (Some (made_with (filter_map file lines) one)) None) ≡ (o >>= λ one. cond t (Some (made lines one)) None)
    which None e t = refl
    which (Some one) e false = refl
    which (Some one) e true = ap (λ (a : sp.Config). Some (made lines a)) (sym (whole lines bare one e))

-- ---- all lines

unless_found-is : (before : List HubLine) (o : Option HubLine) → unless_found (found before) o ≡ fresh is_beyond before o
unless_found-is before None = refl
unless_found-is before (Some line) = ap (λ b. cond b None (Some line)) (stands-found line before)

next_line-is : (before : List HubLine) (next : Said) → next_line (found before) next ≡ line_behind spelled is_beyond before next
next_line-is before (Says number text) = ap (λ o. ok_or o number) (unless_found-is before (line_of number text))
next_line-is before (NoText number) = refl

-- the config of these lines, as it is found
abbrev result_of : List HubLine → Result HubConfig ℕ
result_of lines = ok_or (complete (found lines)) 0

by_line : (before : List HubLine) (others : List Said) →
    ((lines : List HubLine) → config_from (found lines) others ≡ and_then result_of (with_lines (with_line spelled is_beyond) lines others)) → (next : Result HubLine ℕ) →
    and_then (λ line. config_from (taken line (found before)) others) next
    ≡ and_then result_of (and_then (λ line. with_lines (with_line spelled is_beyond) (before ++ line ∷ []) others) next)
by_line before others rest (Err number) = refl
by_line before others rest (Ok line) =
    ap (λ f. config_from f others) (sym (found-push before line)) ∙ rest (before ++ line ∷ [])

config_from-found : (rest : List Said) (before : List HubLine) → config_from (found before) rest ≡ and_then result_of (with_lines (with_line spelled is_beyond) before rest)
config_from-found [] before = refl
config_from-found (next ∷ others) before =
    ap (and_then (λ line. config_from (taken line (found before)) others)) (next_line-is before next)
    ∙ by_line before others (config_from-found others) (line_behind spelled is_beyond before next)
    ∙ ap (and_then result_of) (sym (from_next spelled is_beyond before next others))

-- ---- no guard and no rows

bare_line : (line : SpLine) (f : drafts.Found) → is_plain (Above line) ≡ true → IsBare f → IsBare (drafts.taken line f)
bare_line Guard f plain bare = absurd (cc)
bare_line (Asked row) f plain bare = absurd (cc)
bare_line (Opened row) f plain bare = absurd (cc)
bare_line line f plain bare = record { guard = bare.guard; asked = bare.asked; opened = bare.opened }

bare_taken : (line : HubLine) (f : Found) → is_plain line ≡ true → IsBare f.above → IsBare (taken line f).above
bare_taken (Above line) f plain bare = bare_line line f.above plain bare
bare_taken (Peer names) f plain bare = bare

bare_lines : (text : List ℕ) → IfOk (with_lines (with_line spelled is_beyond) [] (said text)) (λ lines. IsBare (found lines).above)
bare_lines text =
    kept spelled is_beyond (λ lines _. IsBare (found lines).above)
    (λ before line next others by new bare.
    subst (λ (f : Found). IsBare f.above) (sym (found-push before line)) (bare_taken line (found before) (plain_line line by) bare))
    [] (said text) (record { guard = refl; asked = refl; opened = refl })

-- the config of lines that say no guard and no rows
of_bare : (r : Result (List HubLine) ℕ) → IfOk r (λ lines. IsBare (found lines).above) →
    and_then result_of r ≡ and_then (λ (lines : List HubLine). ok_or {E = ℕ} (config_of lines) 0) r
of_bare (Ok lines) bare = ap (λ (o : Option HubConfig). ok_or {E = ℕ} o 0) (complete-found lines bare)
of_bare (Err number) bare = refl

-- where nothing is found yet, and all is still to be said
pub at_first : (text : List ℕ) → config_from (found []) (said text) ≡ hub_config text
at_first text =
    config_from-found (said text) [] ∙ of_bare (with_lines (with_line spelled is_beyond) [] (said text)) (bare_lines text)
