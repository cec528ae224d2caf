-- Metadata as it is made: SAML Metadata, 2.2 to 2.4.
use Rattle.std.specs.Prelude.{ℕ, List, [], ◌∷◌, ◌++◌, codes}
use Rattle.xml_spec.specs.Tree.{Attribute}
use Rattle.saml_names.specs.Names.{samlp_namespace}
use Rattle.saml_names.specs.Uris.{post}
use Rattle.element_make.specs.declared.names.Ns.TheVariants.{Md}
use Rattle.element_make.specs.Made.{Made, MadeNodes, NothingMade, alone, joined}
use Rattle.metadata.specs.declared.peer.Role.{Role}
use Rattle.metadata.specs.declared.peer.Role.TheVariants.{Idp, Sp}
use Rattle.metadata.specs.Metadata.{descriptor, sign_on, logout}

abbrev pub attribute : List ℕ → List ℕ → Attribute
attribute name value = record { name = name; value = value }

abbrev pub element : List ℕ → List Attribute → MadeNodes → Made
element local attributes kids = record { ns = Md; local = local; attributes = attributes; kids = kids }

-- 2.2.2: an endpoint of HTTP POST at this address, with these other attributes
abbrev pub endpoint : List ℕ → List ℕ → List Attribute → Made
endpoint local location others = element local (attribute (codes "Binding") post ∷ attribute (codes "Location") location ∷ others) NothingMade

-- the paths of the addresses for sign-on
abbrev pub service_path : Role → List ℕ
service_path Idp = codes "/sso"
service_path Sp = codes "/acs"

-- 2.4.3, 2.4.4: the endpoint for sign-on below this base address; one of a service provider has an index (2.2.3)
abbrev pub sign_on_endpoint : Role → List ℕ → Made
sign_on_endpoint Idp base = endpoint (sign_on Idp) (base ++ service_path Idp) []
sign_on_endpoint Sp base = endpoint (sign_on Sp) (base ++ service_path Sp) (attribute (codes "index") (codes "0") ∷ [])

abbrev pub logout_endpoint : List ℕ → Made
logout_endpoint base = endpoint logout (base ++ codes "/slo") []

-- 2.4.1: the descriptor of the role, which holds these endpoints
abbrev pub role_descriptor : Role → MadeNodes → Made
role_descriptor role endpoints = element (descriptor role) (attribute (codes "protocolSupportEnumeration") samlp_namespace ∷ []) endpoints

-- 2.3.2: EntityDescriptor with this descriptor
abbrev pub entity_descriptor : List ℕ → Made → Made
entity_descriptor entity described = element (codes "EntityDescriptor") (attribute (codes "entityID") entity ∷ []) (alone described)

-- metadata without a logout
abbrev pub plain : Role → List ℕ → List ℕ → Made
plain role entity base = entity_descriptor entity (role_descriptor role (alone (sign_on_endpoint role base)))

-- metadata with one
abbrev pub metadata : Role → List ℕ → List ℕ → Made
metadata role entity base =
    entity_descriptor entity (role_descriptor role (joined (alone (logout_endpoint base)) (alone (sign_on_endpoint role base))))
