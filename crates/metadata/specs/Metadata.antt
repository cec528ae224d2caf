-- What the metadata of a provider says: SAML Metadata, 2.2 to 2.4. All that is not named here is passed over.
use Rattle.std.specs.Prelude.{ℕ, List, [], ◌∷◌, codes, Option, None, Some, Result, Ok, Err, if◌then◌else◌}
use Rattle.xml_spec.specs.Tree.{Nodes}
use Rattle.saml_names.specs.Names.{md}
use Rattle.saml_names.specs.Uris.{post}
use Rattle.tree_read.specs.Children.{is_name, children}
use Rattle.tree_read.specs.Texts.{attribute_text}
use Rattle.tree_read.specs.Walk.{name_of_node}
use Rattle.metadata.specs.declared.peer.Role.{Role}
use Rattle.metadata.specs.declared.peer.Role.TheVariants.{Idp, Sp}
use Rattle.metadata.specs.declared.peer.Peer.{Peer}
use Rattle.metadata.specs.declared.fault.MetaFault.{MetaFault}
use Rattle.metadata.specs.declared.fault.MetaFault.TheVariants.{WrongShape, NoPostService}
use Rattle.owned_values.specs.Options.{is_there}

-- 2.4.3, 2.4.4: the element that describes a provider in this role
abbrev pub descriptor : Role → List ℕ
descriptor Idp = codes "IDPSSODescriptor"
descriptor Sp = codes "SPSSODescriptor"

-- 2.4.3, 2.4.4: the endpoints to which the messages of a sign-on go
abbrev pub sign_on : Role → List ℕ
sign_on Idp = codes "SingleSignOnService"
sign_on Sp = codes "AssertionConsumerService"

-- 2.4.2: the endpoints to which the messages of a logout go
abbrev pub logout : List ℕ
logout = codes "SingleLogoutService"

-- 2.2.2: the Location of the first of these endpoints whose binding is HTTP POST
abbrev pub first_location : Nodes → List ℕ → Option (List ℕ)
first_location tree [] = None
first_location tree (n ∷ others) =
    if is_there post (attribute_text tree n (codes "Binding")) then attribute_text tree n (codes "Location") else first_location tree others

-- the address of the endpoints of this name below a descriptor
abbrev pub address : Nodes → ℕ → List ℕ → Option (List ℕ)
address tree d local = first_location tree (children tree d (md local))

-- a text that is not empty
abbrev pub not_empty : Option (List ℕ) → Option (List ℕ)
not_empty (Some (b ∷ text)) = Some (b ∷ text)
not_empty _ = None

-- 2.3.2: the name of the provider that an EntityDescriptor describes
abbrev pub entity : Nodes → ℕ → Option (List ℕ)
entity tree k =
    if is_name (md (codes "EntityDescriptor")) (name_of_node tree k) then not_empty (attribute_text tree k (codes "entityID")) else None

-- a provider needs an address for sign-on
abbrev pub with_service : List ℕ → Option (List ℕ) → Option (List ℕ) → Result Peer MetaFault
with_service name (Some service) logout_address = Ok (record { entity = name; service = service; logout = logout_address })
with_service name None logout_address = Err NoPostService

-- a provider of this name with these descriptors of the role, of which there has to be just one
abbrev pub described : Nodes → Role → Option (List ℕ) → List ℕ → Result Peer MetaFault
described tree role (Some name) (d ∷ []) = with_service name (not_empty (address tree d (sign_on role))) (address tree d logout)
described tree role _ _ = Err WrongShape

-- 2.3.2: what element k says of the provider in this role
abbrev pub peer_of : Nodes → ℕ → Role → Result Peer MetaFault
peer_of tree k role = described tree role (entity tree k) (children tree k (md (descriptor role)))
