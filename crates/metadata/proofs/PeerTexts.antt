-- The addresses of a provider that metadata describes hold characters that a document may hold.
use Rattle.std.proofs.Common.{◌≡◌, ℕ, List, [], ◌∷◌, Option, None, Some, IfSome, Ok, codes, subst}
use Rattle.xml_spec.specs.Characters.{IsText}
use Rattle.xml_spec.specs.Tree.{Nodes}
use Rattle.canon_laws.specs.Writable.{IsWritable}
use Rattle.tree_read.specs.Texts.{attribute_text}
use Rattle.tree_read.proofs.WritableTexts.{either_option, attribute_is_text}
use Rattle.metadata.specs.Metadata.{first_location, not_empty, described, with_service, address, sign_on, logout}
use Rattle.metadata.specs.declared.peer.Peer.{Peer}
use Rattle.metadata.specs.declared.peer.Role.{Role}
use Rattle.owned_values.specs.Options.{is_there}
use Rattle.saml_names.specs.Uris.{post}

pub location_text : (tree : Nodes) (endpoints : List ℕ) → IsWritable tree → IfSome (first_location tree endpoints) IsText
location_text tree [] h = tt
location_text tree (n ∷ others) h =
    either_option (is_there post (attribute_text tree n (codes "Binding"))) (attribute_text tree n (codes "Location")) (first_location tree others)
    (attribute_is_text tree n (codes "Location") h) (location_text tree others h)

pub not_empty_text : (o : Option (List ℕ)) → IfSome o IsText → IfSome (not_empty o) IsText
not_empty_text None h = tt
not_empty_text (Some []) h = tt
not_empty_text (Some (b ∷ text)) h = h

-- the addresses of a provider are texts
pub record AreTexts (peer : Peer) : Type 0 where
  pub service : IsText peer.service
  pub logout : IfSome peer.logout IsText

service_of : (name : List ℕ) (service logout_address : Option (List ℕ)) (peer : Peer) → IfSome service IsText → IfSome logout_address IsText →
    with_service name service logout_address ≡ Ok peer → AreTexts peer
service_of name None logout_address peer h l e = absurd (cc)
service_of name (Some service) logout_address peer h l e =
    let is : record { entity = name; service = service; logout = logout_address } ≡ peer = cc in subst AreTexts is (record { service = h; logout = l })

pub service_text : (tree : Nodes) (role : Role) (name : Option (List ℕ)) (descriptors : List ℕ) (peer : Peer) → IsWritable tree →
    described tree role name descriptors ≡ Ok peer → AreTexts peer
service_text tree role None descriptors peer h e = absurd (cc)
service_text tree role (Some name) [] peer h e = absurd (cc)
service_text tree role (Some name) (d ∷ []) peer h e =
    service_of name (not_empty (address tree d (sign_on role))) (address tree d logout) peer
    (not_empty_text (address tree d (sign_on role)) (location_text tree _ h)) (location_text tree _ h) e
service_text tree role (Some name) (d ∷ c ∷ others) peer h e = absurd (cc)
