-- A hub's config names each file that is needed, and few peers.
use Rattle.std.proofs.Common.{◌≡◌, ℕ, ◌≤◌, Bool, true, false, ◌&&◌, cond, List, [], ◌∷◌, ◌++◌, Option, None, Some, Ok, IfOk, refl, sym, ap, ◌∙◌, arith}
use Rattle.std.specs.Prelude.{count_by, option_and_then}
use Rattle.std.specs.List.{filter_map, list_any}
use Rattle.std.proofs.lemmas.Bool.Decides.{nat_tests}
use Rattle.std.proofs.lemmas.List.Sums.{sum_by_push}
use Rattle.text_lines.specs.Lines.{said, with_lines}
use Rattle.provider_config.specs.declared.hub_config.HubFile.{HubFile}
use Rattle.provider_config.specs.declared.hub_line.HubLine.{HubLine}
use Rattle.provider_config.specs.declared.hub_line.HubLine.TheVariants.{Above, Peer}
use Rattle.provider_config.specs.declared.idp_config.TheConstants.{MAX_PEERS}
use Rattle.provider_config.specs.Config as sp
use Rattle.provider_config.specs.HubConfig.{HubConfig, is_peer, above, is_beyond, file, config_of, hub_config}
use Rattle.provider_config.specs.HubLine.{spelled}
use Rattle.provider_config.specs.HubViews.{is_peer_file, above_files, has_peer, has_files}
use Rattle.provider_config.specs.Shared.{with_line}
use Rattle.provider_config.proofs.HubRunning.{peer_key, above_files_are}
use Rattle.provider_config.proofs.Sharing.{any_filtered, count_filtered, kept, of_lines}
use Rattle.provider_config.proofs.Running as running

-- what a config is made of
made_of : (lines : List HubLine) (config : HubConfig) → config_of lines ≡ Some config →
    (sp.config_of (above lines) ≡ Some config.above) × (list_any is_peer lines ≡ true) × (config.files ≡ filter_map file lines)
made_of lines config e = which (sp.config_of (above lines)) (list_any is_peer lines) e
  where
    which : (o : Option sp.Config) (t : Bool) →
        option_and_then (λ (a : sp.Config). cond t (Some (record { above = a; files = filter_map file lines })) None) o ≡ Some config →
        (o ≡ Some config.above) × (t ≡ true) × (config.files ≡ filter_map file lines)
    which None t e = absurd (cc)
    which (Some a) false e = absurd (cc)
    which (Some a) true e = (cc, refl, cc)

-- ---- the number of peers

-- a line that is not beyond what may stand leaves them few
still_few : (before : List HubLine) (line : HubLine) → count_by is_peer before ≤ MAX_PEERS → is_beyond line before ≡ false →
    count_by is_peer (before ++ line ∷ []) ≤ MAX_PEERS
still_few before (Above line) h e = omega (arith, h, sum_by_push (λ (l : HubLine). cond (is_peer l) 1 0) before (Above line))
still_few before (Peer names) h e =
    let more = sum_by_push (λ (l : HubLine). cond (is_peer l) 1 0) before (Peer names) in
    grind (arith, nat_tests, e, more)

few_lines : (text : List ℕ) → IfOk (with_lines (with_line spelled is_beyond) [] (said text)) (λ lines. count_by is_peer lines ≤ MAX_PEERS)
few_lines text =
    kept spelled is_beyond (λ lines _. count_by is_peer lines ≤ MAX_PEERS) (λ before line next others by new h. still_few before line h new) [] (said text) (omega arith)

-- ---- a config

pub all_named : (text : List ℕ) (config : HubConfig) → hub_config text ≡ Ok config → has_files config.files ≡ true
all_named text config e =
    let (lines, few, whole) =
    of_lines config_of (λ lines. count_by is_peer lines ≤ MAX_PEERS) (with_lines (with_line spelled is_beyond) [] (said text)) config (few_lines text) e in
    let (made, peer, is) = made_of lines config whole in
    let upper = running.made_of (above lines) config.above made in
    let sp_files : sp.has_files (above_files (filter_map file lines)) ≡ true =
    ap sp.has_files (above_files_are lines ∙ sym upper.files) ∙ upper.named in
    let peers : has_peer (filter_map file lines) ≡ true = any_filtered file is_peer_file is_peer peer_key lines ∙ peer in
    ap has_files is ∙ (λ i. sp_files i && peers i)

pub few_named : (text : List ℕ) (config : HubConfig) → hub_config text ≡ Ok config → count_by is_peer_file config.files ≤ MAX_PEERS
few_named text config e =
    let (lines, few, whole) =
    of_lines config_of (λ lines. count_by is_peer lines ≤ MAX_PEERS) (with_lines (with_line spelled is_beyond) [] (said text)) config (few_lines text) e in
    let (made, peer, is) = made_of lines config whole in
    let same = count_filtered file is_peer_file is_peer peer_key lines in
    omega (arith, few, same, ap (λ (named : List HubFile). count_by is_peer_file named) is)
