-- The texts of a peer that metadata describes hold characters that a document may hold.
use Rattle.std.proofs.Common.{◌≡◌, ℕ, List, [], ◌∷◌, Option, None, Some, IfSome, Ok, codes, sym, subst}
use Rattle.xml_spec.specs.Characters.{IsText}
use Rattle.xml_spec.specs.Tree.{Nodes}
use Rattle.canon_laws.specs.Writable.{IsWritable}
use Rattle.saml_names.specs.Names.{md}
use Rattle.tree_read.specs.Children.{is_name}
use Rattle.tree_read.specs.Texts.{attribute_text}
use Rattle.tree_read.specs.Walk.{name_of_node}
use Rattle.metadata.specs.Faults.{IsRead}
use Rattle.metadata.specs.Metadata.{not_empty, described, with_service, address, entity, sign_on, logout}
use Rattle.metadata.specs.declared.peer.Peer.{Peer}
use Rattle.metadata.specs.declared.peer.Role.{Role}
use Rattle.metadata.specs.declared.peer.Role.TheVariants.{Sp}
use Rattle.saml_outside.specs.Files.{File}
use Rattle.provider_config.specs.declared.idp_config.PeerFiles.{PeerFiles}
use Rattle.peer_keys.specs.declared.peers.LogoutPeer.{LogoutPeer}
use Rattle.idp_rules.specs.Config.{IsTextPeer}
use Rattle.idp_setup.specs.Setup.{peer_of}
use Rattle.tree_read.proofs.WritableTexts.{AreWritable, either_option, attribute_is_text}
use Rattle.metadata.proofs.PeerTexts.{location_text, not_empty_text}

abbrev pub IsTextOf : Peer → Type 0
IsTextOf peer = IsText peer.entity × IsText peer.service × IfSome peer.logout IsText

of_parts : (name : List ℕ) (service logout_address : Option (List ℕ)) (peer : Peer) → IsText name → IfSome service IsText → IfSome logout_address IsText →
    with_service name service logout_address ≡ Ok peer → IsTextOf peer
of_parts name None logout_address peer n h l e = absurd (cc)
of_parts name (Some service) logout_address peer n h l e =
    let is : record { entity = name; service = service; logout = logout_address } ≡ peer = cc in subst IsTextOf is (n, h, l)

described_texts : (tree : Nodes) (role : Role) (name : Option (List ℕ)) (descriptors : List ℕ) (peer : Peer) → IsWritable tree → IfSome name IsText →
    described tree role name descriptors ≡ Ok peer → IsTextOf peer
described_texts tree role None descriptors peer h n e = absurd (cc)
described_texts tree role (Some name) [] peer h n e = absurd (cc)
described_texts tree role (Some name) (d ∷ []) peer h n e =
    of_parts name (not_empty (address tree d (sign_on role))) (address tree d logout) peer n
    (not_empty_text (address tree d (sign_on role)) (location_text tree _ h)) (location_text tree _ h) e
described_texts tree role (Some name) (d ∷ c ∷ others) peer h n e = absurd (cc)

-- the name is an attribute of the descriptor
entity_text : (tree : Nodes) (k : ℕ) → IsWritable tree → IfSome (entity tree k) IsText
entity_text tree k h =
    either_option (is_name (md (codes "EntityDescriptor")) (name_of_node tree k)) (not_empty (attribute_text tree k (codes "entityID"))) None
    (not_empty_text (attribute_text tree k (codes "entityID")) (attribute_is_text tree k (codes "entityID") h)) tt

pub peer_texts : (text : List ℕ) (role : Role) (peer : Peer) → AreWritable → IsRead text role (Ok peer) → IsTextOf peer
peer_texts text role peer law read =
    let w = law text read.tree read.spelled.spells in
    described_texts read.tree role (entity read.tree 0) _ peer w (entity_text read.tree 0 w) read.is

-- those of a peer whose files were read
pub read_texts : (told : Option (List File)) (names : PeerFiles) (peer : LogoutPeer) → AreWritable → (peer_of names).gives told peer → IsTextPeer peer
read_texts told names peer law (said, (bytes, there, read), (key_in, in_there, (key_out, out_there, is))) =
    let texts = peer_texts bytes Sp said law read in
    subst IsTextPeer (sym is) (record { entity = texts.0; service = texts.1; logout = texts.2 })
