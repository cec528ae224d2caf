-- A config that names each file that is needed sets a hub up, and a hub can be started with what is set up.
use Rattle.std.proofs.Common.{◌≡◌, ℕ, ◌+◌, ◌*◌, ◌≤◌, true, cond, List, [], ◌∷◌, length, length-append, Option, None, Some, IfSome, IsTrue, is_some, refl, sym, ap, subst, arith}
use Rattle.std.specs.Prelude.{count_by}
use Rattle.std.specs.List.{AllByRecursion}
use Rattle.std.proofs.lemmas.Bool.{and_parts}
use Rattle.xml_spec.specs.Characters.{IsText}
use Rattle.saml_outside.specs.Files.{File}
use Rattle.saml_tree.proofs.Lists.{all_push}
use Rattle.provider_config.specs.Config.{AreInOrder}
use Rattle.provider_config.specs.Config as configs_above
use Rattle.provider_config.specs.HubConfig as configs
use Rattle.provider_config.specs.HubViews.{is_peer_file, above_files, has_files}
use Rattle.provider_config.specs.declared.config.SpFile.{SpFile}
use Rattle.provider_config.specs.declared.hub_config.HubFile.{HubFile}
use Rattle.provider_config.specs.declared.hub_config.HubFile.TheVariants as named
use Rattle.provider_config.specs.declared.idp_config.TheConstants.{MAX_PEERS}
use Rattle.provider_config.specs.declared.line.TheConstants.{MILLIS, MOST_SKEW}
use Rattle.peer_keys.specs.Peers.{place_of, differ}
use Rattle.peer_keys.specs.declared.peers.LogoutPeer.{LogoutPeer}
use Rattle.idp_rules.specs.Config.{IsTextPeer}
use Rattle.sp_rules.specs.declared.config.SpConfig.{SpConfig}
use Rattle.sp_setup.specs.Config as sp_config
use Rattle.sp_setup.specs.Files.{in_order}
use Rattle.sp_setup.specs.Setup as sp
use Rattle.sp_setup.specs.declared.loaded.Loaded as sp_loaded
use Rattle.sp_setup.proofs.Completing.{config_bounds}
use Rattle.sp_setup.proofs.Completing as sp_completing
use Rattle.sp_setup.proofs.Loading.{kept, count_all}
use Rattle.sp_setup.proofs.Texts.{FromListed, config_texts}
use Rattle.idp_setup.proofs.Naming.{none_doubled, differ_with}
use Rattle.idp_setup.proofs.Texts.{read_texts}
use Rattle.tree_read.proofs.WritableTexts.{AreWritable}
use Rattle.identity_hub.specs.Config.{IsUsable}
use Rattle.identity_hub.specs.declared.config.HubConfig.{HubConfig}
use Rattle.hub_setup.specs.declared.loaded.Loaded.{Loaded}
use Rattle.hub_setup.specs.Config.{config_of}
use Rattle.hub_setup.specs.Setup.{nothing, load, set_up_by}
use Rattle.owned_values.specs.Options.{◌>>=◌}

-- ---- the files towards the provider above

-- they add what a service provider's do
above_loaded : (told : Option (List File)) (files : List HubFile) (before after : Loaded) → (in_order load files before).gives told after →
    (in_order sp.load (above_files files) before.above).gives told after.above
above_loaded told [] before after h = ap (λ (l : Loaded). l.above) h
above_loaded told (named.Above file ∷ others) before after (middle, (above, adds, is), rest) = (
  above,
  adds,
  subst (λ (read : sp_loaded.Loaded). (in_order sp.load (above_files others) read).gives told after.above) (ap (λ (l : Loaded). l.above) is)
      (above_loaded told others middle after rest),
)
above_loaded told (named.Peer names ∷ others) before after (middle, (peer, adds, is), rest) =
    subst (λ (read : sp_loaded.Loaded). (in_order sp.load (above_files others) read).gives told after.above) (ap (λ (l : Loaded). l.above) is)
    (above_loaded told others middle after rest)

none_above : (upstream : Option SpConfig) (make : SpConfig → HubConfig) → (upstream >>= λ u. Some (make u)) ≡ None → upstream ≡ None
none_above None make e = refl
none_above (Some u) make e = absurd (cc)

-- what the files towards the provider above add is what those of its own config do
loaded_above : (told : Option (List File)) (lines : configs.HubConfig) (loaded : Loaded) → above_files lines.files ≡ lines.above.files →
    (in_order load lines.files nothing).gives told loaded → (in_order sp.load lines.above.files sp.nothing).gives told loaded.above
loaded_above told lines loaded same all =
    subst (λ (files : List SpFile). (in_order sp.load files sp.nothing).gives told loaded.above) same
    (above_loaded told lines.files nothing loaded all)

pub is_set_up : (told : Option (List File)) (lines : configs.HubConfig) (loaded : Loaded) → above_files lines.files ≡ lines.above.files →
    IsTrue (has_files lines.files) → (in_order load lines.files nothing).gives told loaded → config_of lines loaded ≡ None → ⊥
is_set_up told lines loaded same whole all none =
    sp_completing.is_set_up told lines.above loaded.above
    (subst (λ (files : List SpFile). IsTrue (configs_above.has_files files)) same (and_parts _ _ whole).0) (loaded_above told lines loaded same all)
    (none_above (sp_config.config_of lines.above loaded.above) _ none)

-- ---- the peers

-- the texts of the peers may be in a document, and no two have one name where none is doubled
record AreSound (loaded : Loaded) : Type 0 where
  peers : AllByRecursion IsTextPeer loaded.read.peers
  apart : loaded.read.doubled ≡ None → differ loaded.read.peers ≡ true

sound_more : (told : Option (List File)) → AreWritable → (file : HubFile) (before after : Loaded) → (load file before).gives told after → AreSound before → AreSound after
sound_more told law (named.Above file) before after h sound = subst AreSound (sym h.2) (record { peers = sound.peers; apart = sound.apart })
sound_more told law (named.Peer names) before after (peer, there, is) sound =
    let texts = read_texts told names peer law there in
    subst AreSound (sym is) (record {
      peers = all_push IsTextPeer before.read.peers peer sound.peers texts;
      apart = λ none.
          let parts = none_doubled before.read.doubled names.line (is_some (place_of peer.peer.entity before.read.peers)) none in
          differ_with before.read.peers peer (sound.apart parts.0) parts.1;
    })

count_more : (told : Option (List File)) (file : HubFile) (before after : Loaded) → (load file before).gives told after →
    length after.read.peers ≡ length before.read.peers + cond (is_peer_file file) 1 0
count_more told (named.Above file) before after h = omega (arith, ap (λ (l : Loaded). length l.read.peers) h.2)
count_more told (named.Peer names) before after h = omega (arith, ap (λ (l : Loaded). length l.read.peers) h.2, length-append before.read.peers (h.0 ∷ []))

-- ---- what is set up

abbrev with_peers : List LogoutPeer → SpConfig → HubConfig
with_peers peers upstream = record { upstream = upstream; peers = peers }

-- the parts of which a config was made
made_from : (upstream : Option SpConfig) (peers : List LogoutPeer) (config : HubConfig) →
    (upstream >>= λ u. Some (with_peers peers u)) ≡ Some config → (upstream ≡ Some config.upstream) × (peers ≡ config.peers)
made_from None peers config e = absurd (cc)
made_from (Some u) peers config e =
    let is : with_peers peers u ≡ config = cc in
    (ap (λ (c : HubConfig). Some c.upstream) is, ap (λ (c : HubConfig). c.peers) is)

pub usable : (told : Option (List File)) (file : List ℕ) (lines : configs.HubConfig) (config : HubConfig) → above_files lines.files ≡ lines.above.files →
    AreWritable → FromListed →
    (set_up_by file lines).gives told config → IsText lines.above.entity → IsText lines.above.base → IsText lines.above.listen → lines.above.skew ≤ MILLIS * MOST_SKEW →
    IfSome lines.above.next_in AreInOrder → count_by is_peer_file lines.files ≤ MAX_PEERS → IsUsable config
usable told file lines config same law from (loaded, all, (unit, none, is)) entity base listen skew times few =
    let made = made_from (sp_config.config_of lines.above loaded.above) loaded.read.peers config is in
    let above = loaded_above told lines loaded same all in
    let texts = config_texts told lines.above loaded.above config.upstream law from above made.0 entity base listen in
    let within = config_bounds lines.above loaded.above config.upstream made.0 skew times in
    let sound = kept load told AreSound (sound_more told law) lines.files nothing loaded all (record { peers = tt; apart = λ none. refl }) in
    let count = count_all load told is_peer_file (λ (l : Loaded). length l.read.peers) (count_more told) lines.files nothing loaded all in
    record {
      texts = record { entity = texts.entity; base = texts.base; service = texts.service };
      skew = within.0;
      times = within.1;
      peers = subst (AllByRecursion IsTextPeer) made.1 sound.peers;
      few = omega (arith, few, count, ap (λ (peers : List LogoutPeer). length peers) made.1);
      apart = subst (λ (peers : List LogoutPeer). differ peers ≡ true) made.1 (sound.apart none);
    }
