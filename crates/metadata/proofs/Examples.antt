-- The definitions on small cases.
use Rattle.std.proofs.Common.{◌≡◌, ℕ, List, [], ◌∷◌, codes, Ok, Err, Some, None, refl}
use Rattle.xml_spec.specs.Tree.{Attribute, Nodes, NoNodes, Element}
use Rattle.saml_names.specs.Names.{md_namespace}
use Rattle.saml_names.specs.Uris.{post}
use Rattle.metadata.specs.declared.peer.Role.TheVariants.{Idp, Sp}
use Rattle.metadata.specs.declared.fault.MetaFault.TheVariants.{WrongShape, NoPostService}
use Rattle.metadata.specs.Metadata.{peer_of}

abbrev attribute : List ℕ → List ℕ → Attribute
attribute name value = record { name = name; value = value }

-- an endpoint with this binding and address, and those behind it
abbrev endpoint : List ℕ → List ℕ → List ℕ → Nodes → Nodes
endpoint name binding location rest = Element name (attribute (codes "Binding") binding ∷ attribute (codes "Location") location ∷ []) NoNodes rest

-- <m:EntityDescriptor xmlns:m=".." entityID=".."> with these kids
abbrev described : List ℕ → Nodes → Nodes
described entity kids = Element (codes "m:EntityDescriptor") (attribute (codes "xmlns:m") md_namespace ∷ attribute (codes "entityID") entity ∷ []) kids NoNodes

abbrev as_idp : Nodes → Nodes → Nodes
as_idp endpoints rest = Element (codes "m:IDPSSODescriptor") [] endpoints rest

abbrev as_sp : Nodes → Nodes → Nodes
as_sp endpoints rest = Element (codes "m:SPSSODescriptor") [] endpoints rest

-- the first endpoint of HTTP POST counts, and not one of another binding in front of it
pub peer-of_posted : peer_of (described (codes "i") (as_idp (endpoint (codes "m:SingleSignOnService") (codes "other") (codes "a")
    (endpoint (codes "m:SingleSignOnService") post (codes "b") NoNodes)) NoNodes)) 0 Idp ≡ Ok (record { entity = codes "i"; service = codes "b"; logout = None })
peer-of_posted = refl

-- another role's endpoint is none of this one
pub peer-other_role : peer_of (described (codes "i") (as_idp NoNodes (as_sp (endpoint (codes "m:SingleSignOnService") post (codes "b") NoNodes) NoNodes))) 0 Idp ≡ Err NoPostService
peer-other_role = refl

pub peer-two_descriptors : peer_of (described (codes "i") (as_idp NoNodes (as_idp NoNodes NoNodes))) 0 Idp ≡ Err WrongShape
peer-two_descriptors = refl

pub peer-no_name : peer_of (described [] (as_idp NoNodes NoNodes)) 0 Idp ≡ Err WrongShape
peer-no_name = refl

-- an empty address for sign-on is none, and no later one is taken; one for logout is given
pub peer-empty_address : peer_of (described (codes "i") (as_sp (endpoint (codes "m:AssertionConsumerService") post []
    (endpoint (codes "m:AssertionConsumerService") post (codes "b") NoNodes)) NoNodes)) 0 Sp ≡ Err NoPostService
peer-empty_address = refl

pub peer-logout_other : peer_of (described (codes "i") (as_sp (endpoint (codes "m:SingleLogoutService") (codes "other") (codes "a")
    (endpoint (codes "m:AssertionConsumerService") post (codes "b") NoNodes)) NoNodes)) 0 Sp ≡ Ok (record { entity = codes "i"; service = codes "b"; logout = None })
peer-logout_other = refl

pub peer-logout_empty : peer_of (described (codes "i") (as_sp (endpoint (codes "m:SingleLogoutService") post []
    (endpoint (codes "m:AssertionConsumerService") post (codes "b") NoNodes)) NoNodes)) 0 Sp ≡ Ok (record { entity = codes "i"; service = codes "b"; logout = Some [] })
peer-logout_empty = refl
