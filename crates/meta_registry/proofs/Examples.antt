-- The definitions on small cases.
use Rattle.std.proofs.Common.{◌≡◌, ℕ, List, [], ◌∷◌, codes, map, Ok, Err, Some, None, refl}
use Rattle.xml_spec.specs.Tree.{Attribute, Nodes, NoNodes, Element, Text}
use Rattle.saml_names.specs.Names.{md_namespace}
use Rattle.saml_names.specs.Uris.{post}
use Rattle.saml_time.specs.Calendar.{days_of_years, days_of_months}
use Rattle.metadata.specs.declared.peer.Role.TheVariants.{Idp, Sp}
use Rattle.metadata.specs.declared.fault.MetaFault.TheVariants.{WrongShape}
use Rattle.meta_registry.specs.declared.fault.PeerFault.TheVariants.{NotListed, Meta}
use Rattle.meta_registry.specs.Aggregate.{valid_until, descriptors, entry_of, peer_in}
use Rattle.meta_registry.specs.Listed.{listed, answer_at}

abbrev attribute : List ℕ → List ℕ → Attribute
attribute name value = record { name = name; value = value }

-- <m:EntitiesDescriptor xmlns:m=".."> with these other attributes and these kids
abbrev aggregate : List Attribute → Nodes → Nodes → Nodes
aggregate given kids rest = Element (codes "m:EntitiesDescriptor") (attribute (codes "xmlns:m") md_namespace ∷ given) kids rest

abbrev id : List ℕ → Attribute
id value = attribute (codes "ID") value

abbrev until : List ℕ → Attribute
until value = attribute (codes "validUntil") value

-- an identity provider with this name and address, and what stands behind it
abbrev provider : List ℕ → List ℕ → Nodes → Nodes
provider entity location rest =
    Element (codes "m:EntityDescriptor") (attribute (codes "entityID") entity ∷ [])
    (Element (codes "m:IDPSSODescriptor") []
    (Element (codes "m:SingleSignOnService") (attribute (codes "Binding") post ∷ attribute (codes "Location") location ∷ []) NoNodes NoNodes) NoNodes) rest

-- the root's validUntil counts
pub until-told : valid_until (aggregate (id (codes "r") ∷ until (codes "1970-01-01T00:00:01Z") ∷ []) NoNodes NoNodes) 0 ≡ Some 1000
unfolding days_of_years days_of_months
until-told = refl

-- and no other one
pub until-inside :
    valid_until (aggregate (id (codes "r") ∷ []) (aggregate (id (codes "s") ∷ until (codes "1970-01-01T00:00:01Z") ∷ []) NoNodes NoNodes) NoNodes) 0 ≡ None
until-inside = refl

pub until-no_id : valid_until (aggregate (until (codes "1970-01-01T00:00:01Z") ∷ []) NoNodes NoNodes) 0 ≡ None
until-no_id = refl

pub until-empty_id : valid_until (aggregate (id [] ∷ until (codes "1970-01-01T00:00:01Z") ∷ []) NoNodes NoNodes) 0 ≡ None
until-empty_id = refl

pub until-no_moment : valid_until (aggregate (id (codes "r") ∷ until (codes "1970-01-01") ∷ []) NoNodes NoNodes) 0 ≡ None
until-no_moment = refl

-- a is listed once, and once more in a nested aggregate; b is listed twice; c stands in the nested aggregate alone
abbrev example : Nodes
example =
    aggregate (id (codes "r") ∷ [])
    (aggregate [] (provider (codes "a") (codes "inner") (provider (codes "c") (codes "third") NoNodes))
    (Text (codes " ") (provider (codes "a") (codes "outer") (provider (codes "b") (codes "one") (provider (codes "b") (codes "two") NoNodes))))) NoNodes

pub listed-once : listed example 0 (codes "a") ≡ 9 ∷ []
listed-once = refl

pub answer-once : answer_at example Idp (listed example 0 (codes "a")) ≡ Ok (record { entity = codes "a"; service = codes "outer"; logout = None })
answer-once = refl

pub answer-other_role : answer_at example Sp (listed example 0 (codes "a")) ≡ Err (Meta WrongShape)
answer-other_role = refl

pub answer-twice : answer_at example Idp (listed example 0 (codes "b")) ≡ Err (NotListed 2)
answer-twice = refl

pub answer-nested : answer_at example Idp (listed example 0 (codes "c")) ≡ Err (NotListed 0)
answer-nested = refl

-- names are not trimmed
pub answer-trimmed : answer_at example Idp (listed example 0 (codes "a ")) ≡ Err (NotListed 0)
answer-trimmed = refl

-- a descriptor with an empty name is found by that name, and describes nobody
pub answer-empty : answer_at (aggregate [] (provider [] (codes "x") NoNodes) NoNodes) Idp (listed (aggregate [] (provider [] (codes "x") NoNodes) NoNodes) 0 [])
    ≡ Err (Meta WrongShape)
answer-empty = refl

-- what is kept says the same
pub kept-once :
    peer_in (record { valid_until = 1000; entries = map (entry_of example) (descriptors example 0) }) (codes "a") Idp
    ≡ Ok (record { entity = codes "a"; service = codes "outer"; logout = None })
kept-once = refl

pub kept-twice : peer_in (record { valid_until = 1000; entries = map (entry_of example) (descriptors example 0) }) (codes "b") Idp ≡ Err (NotListed 2)
kept-twice = refl
