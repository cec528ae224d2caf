-- The texts of a provider that is set up hold characters that a document may hold.
use Rattle.std.proofs.Common.{◌≡◌, ℕ, List, Option, None, Some, IfSome, Ok, refl, sym, subst}
use Rattle.xml_spec.specs.Characters.{IsText}
use Rattle.xml_spec.specs.Tree.{Nodes}
use Rattle.saml_outside.specs.Files.{File}
use Rattle.meta_registry.specs.Aggregate.{RegistryView, peer_in}
use Rattle.meta_registry.specs.Faults.{IsRead, IsRegistryOf}
use Rattle.meta_registry.specs.Listed.{IsListed}
use Rattle.metadata.specs.Metadata.{entity, peer_of}
use Rattle.metadata.specs.declared.peer.Peer.{Peer}
use Rattle.metadata.specs.declared.peer.Role.{Role}
use Rattle.metadata.specs.declared.peer.Role.TheVariants.{Idp}
use Rattle.provider_config.specs.Config.{Config}
use Rattle.provider_config.specs.declared.config.FileRole.{FileRole}
use Rattle.provider_config.specs.declared.config.FileRole.TheVariants as roles
use Rattle.provider_config.specs.declared.config.SpFile.{SpFile}
use Rattle.provider_config.specs.declared.config.SpFile.TheVariants as names
use Rattle.sp_rules.specs.declared.config.SpConfig.{SpConfig}
use Rattle.sp_setup.specs.declared.loaded.Loaded.{Loaded}
use Rattle.sp_setup.specs.declared.setup.SetUp.{SetUp}
use Rattle.sp_setup.specs.Config.{config_of}
use Rattle.sp_setup.specs.Files.{in_order}
use Rattle.sp_setup.specs.Setup.{nothing, load_file, load}
use Rattle.sp_setup.specs.Views.{IsSetUpBy, HasTexts}
use Rattle.sp_setup.proofs.Loading.{kept}
use Rattle.tree_read.proofs.WritableTexts.{AreWritable}
use Rattle.metadata.proofs.PeerTexts.{AreTexts, service_text}
use Rattle.owned_values.specs.Options.{◌>>=◌}

-- a provider that a registry gives is read from a descriptor that it lists
abbrev pub FromListed : Type 0
FromListed =
    (key : List ℕ) (tree : Nodes) (registry : RegistryView) (entity_id : List ℕ) (role : Role) (peer : Peer) → IsRegistryOf key tree 0 registry →
    peer_in registry entity_id role ≡ Ok peer → (d : ℕ) × IsListed key tree entity_id d × (peer_of tree d role ≡ Ok peer)

-- the addresses of an identity provider that was read are texts
abbrev IdpIsText : Loaded → Type 0
IdpIsText loaded = IfSome loaded.idp AreTexts

file_text : (told : Option (List File)) (role : FileRole) (name : List ℕ) (before after : Loaded) → AreWritable → (load_file role name before).gives told after →
    IdpIsText before → IdpIsText after
file_text told roles.Idp name before after law (peer, (bytes, there, read), is) text =
    subst IdpIsText (sym is) (service_text read.tree Idp (entity read.tree 0) _ peer (law bytes read.tree read.spelled.spells) read.is)
file_text told roles.KeyIn name before after law h text = subst IdpIsText (sym h.2) text
file_text told roles.NextIn name before after law h text = subst IdpIsText (sym h.2) text
file_text told roles.KeyOut name before after law h text = subst IdpIsText (sym h.2) text
file_text told roles.IdKey name before after law h text = subst IdpIsText (sym h.2) text
file_text told roles.Policy name before after law h text = subst IdpIsText (sym h.2) text

-- those of one that a registry lists, too
listed_text : (bytes key entity_id : List ℕ) (registry : RegistryView) (peer : Peer) → AreWritable → FromListed → IsRead bytes key registry →
    peer_in registry entity_id Idp ≡ Ok peer → AreTexts peer
listed_text bytes key entity_id registry peer law from read says =
    let tree = read.tree in
    let there = from key tree registry entity_id Idp peer read.root says in
    service_text tree Idp (entity tree there.0) _ peer (law bytes tree read.spelled.spells) there.2

line_text : (told : Option (List File)) → AreWritable → FromListed → (named : SpFile) (before after : Loaded) → (load named before).gives told after →
    IdpIsText before → IdpIsText after
line_text told law from (names.One file) before after h text = file_text told file.role file.name before after law h text
line_text told law from (names.Registry line) before after (bytes, there, (key, key_there, (registry, read, (peer, says, is)))) text =
    subst IdpIsText (sym is) (listed_text bytes key line.entity registry peer law from read says)

-- the parts of which a config was made
pub made_from : (idp : Option Peer) (key_in key_out id_key : Option (List ℕ)) (make : Peer → List ℕ → List ℕ → List ℕ → SpConfig) (config : SpConfig) →
    (idp >>= λ i. key_in >>= λ k. key_out >>= λ o. id_key >>= λ d. Some (make i k o d)) ≡ Some config →
    (i : Peer) × (k : List ℕ) × (o : List ℕ) × (d : List ℕ) × (idp ≡ Some i) × (make i k o d ≡ config)
made_from (Some i) (Some k) (Some o) (Some d) make config e = (i, k, o, d, refl, cc)
made_from None key_in key_out id_key make config e = absurd (cc)
made_from idp None key_out id_key make config e = absurd (cc)
made_from idp key_in None id_key make config e = absurd (cc)
made_from idp key_in key_out None make config e = absurd (cc)

pub config_texts : (told : Option (List File)) (lines : Config) (loaded : Loaded) (config : SpConfig) → AreWritable → FromListed →
    (in_order load lines.files nothing).gives told loaded → config_of lines loaded ≡ Some config → IsText lines.entity → IsText lines.base → IsText lines.listen →
    HasTexts config
config_texts told lines loaded config law from all is entity base listen =
    let made = made_from loaded.idp loaded.key_in loaded.key_out loaded.id_key _ config is in
    let idp : AreTexts made.0 = rw made.4 at (kept load told IdpIsText (line_text told law from) lines.files nothing loaded all tt) in
    subst HasTexts made.5 (record { entity = entity; base = base; listen = listen; service = idp.service; logout = idp.logout })

pub texts : (told : Option (List File)) (lines : Config) (setup : SetUp) → AreWritable → FromListed → IsSetUpBy told lines setup →
    IsText lines.entity → IsText lines.base → IsText lines.listen → HasTexts setup.config
texts told lines setup law from h entity base listen =
    config_texts told lines h.loaded setup.config law from h.all h.is.config entity base listen
