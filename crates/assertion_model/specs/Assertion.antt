-- The element that is made of a login: SAML Core, 2.3.3, 2.4, 2.5 and 2.7; SAML Profiles, 4.1.4.2. There is no white space
-- between elements.
use Rattle.std.specs.Prelude.{◌≡◌, ◌≢◌, ℕ, List, [], ◌∷◌, ◌++◌, codes, Option, None, Some, IfSome}
use Rattle.std.specs.List.{AllByRecursion}
use Rattle.xml_spec.specs.Tree as tree
use Rattle.xml_spec.specs.Characters.{IsText}
use Rattle.saml_names.specs.Uris.{bearer, password}
use Rattle.tree_read.specs.Texts.{trimmed}
use Rattle.owned_values.specs.declared.attributes.Attribute.{Attribute}
use Rattle.element_make.specs.declared.names.Ns.TheVariants.{Saml}
use Rattle.element_make.specs.Made.{MadeNodes, NothingMade, MadeElement, MadeText, joined, Made}
use Rattle.assertion_model.specs.declared.login.Login.{Login}
use Rattle.assertion_model.specs.declared.moments.Moments.{Moments}
use Rattle.assertion_model.specs.Moments.{HasMoments, AreWritten}

-- an attribute of an element
abbrev pub given : List ℕ → List ℕ → tree.Attribute
given name value = record { name = name; value = value }

-- the same, where there is a value
abbrev pub given_if_any : List ℕ → Option (List ℕ) → List tree.Attribute
given_if_any name None = []
given_if_any name (Some value) = given name value ∷ []

-- an element of assertions
abbrev pub part : List ℕ → List tree.Attribute → MadeNodes → MadeNodes
part local attributes kids = MadeElement Saml local attributes kids NothingMade

-- an element that holds a text and no more
abbrev pub holding : List ℕ → List ℕ → MadeNodes
holding local text = part local [] (MadeText text NothingMade)

-- the nodes of each of them, in order
abbrev pub joined_all : {X : Type 0} → (X → MadeNodes) → List X → MadeNodes
joined_all node [] = NothingMade
joined_all node (x ∷ others) = joined (node x) (joined_all node others)

-- elements of one name, one for each text
abbrev pub all_holding : List ℕ → List (List ℕ) → MadeNodes
all_holding local texts = joined_all (holding local) texts

-- 2.4.1.1 and 2.4.1.2: a bearer may present the assertion at the recipient until this moment, as the answer to the request
abbrev pub confirmation : Login → Moments → MadeNodes
confirmation login moments =
    part (codes "SubjectConfirmation") (given (codes "Method") bearer ∷ [])
    (part (codes "SubjectConfirmationData")
    (given (codes "InResponseTo") login.request ∷ given (codes "NotOnOrAfter") moments.confirm_until
    ∷ given (codes "Recipient") login.recipient ∷ []) NothingMade)

-- 2.4.1: who the assertion is about
abbrev pub subject : Login → Moments → MadeNodes
subject login moments =
    part (codes "Subject") [] (joined (holding (codes "NameID") login.name) (confirmation login moments))

-- 2.5.1.4: whom the assertion is meant for
abbrev pub restriction : List (List ℕ) → MadeNodes
restriction audiences = part (codes "AudienceRestriction") [] (all_holding (codes "Audience") audiences)

-- 2.5.1: when the assertion is valid, and for whom
abbrev pub conditions : Login → Moments → MadeNodes
conditions login moments =
    part (codes "Conditions")
    (given_if_any (codes "NotBefore") moments.not_before ++ given_if_any (codes "NotOnOrAfter") moments.not_on_or_after)
    (joined_all restriction login.audiences)

-- 2.7.2: the authentication, by password, with its session; it was at the moment of issue (profile)
abbrev pub authentication : Login → Moments → MadeNodes
authentication login moments =
    part (codes "AuthnStatement")
    ((given (codes "AuthnInstant") moments.issued ∷ [] ++ given_if_any (codes "SessionIndex") login.index)
    ++ given_if_any (codes "SessionNotOnOrAfter") moments.session_until)
    (part (codes "AuthnContext") [] (holding (codes "AuthnContextClassRef") password))

-- 2.7.3.1: an attribute with its values
abbrev pub stated : Attribute → MadeNodes
stated attribute =
    part (codes "Attribute") (given (codes "Name") attribute.name ∷ []) (all_holding (codes "AttributeValue") attribute.values)

-- 2.7.3: the attributes, where there are any
abbrev pub statements : List Attribute → MadeNodes
statements [] = NothingMade
statements (attribute ∷ others) = part (codes "AttributeStatement") [] (joined_all stated (attribute ∷ others))

-- 2.3.3: the assertion
abbrev pub assertion : Login → Moments → Made
assertion login moments = record {
  ns = Saml;
  local = codes "Assertion";
  attributes = given (codes "ID") login.id ∷ given (codes "IssueInstant") moments.issued ∷ given (codes "Version") (codes "2.0") ∷ [];
  kids =
      joined (holding (codes "Issuer") login.issuer)
      (joined (subject login moments) (joined (conditions login moments) (joined (authentication login moments) (statements login.attributes))));
}

-- the element is that of the login, with its moments written in full
pub record IsAssertionOf (login : Login) (made : Made) : Type 0 where
  pub moments : Moments
  pub written : AreWritten login moments
  pub is : made ≡ assertion login moments

-- an attribute that can be written
pub record IsStatable (attribute : Attribute) : Type 0 where
  pub name : IsText attribute.name
  pub values : AllByRecursion IsText attribute.values

-- a login that can be written: its moments have a written form, and its texts hold characters of XML
pub record CanBeMade (login : Login) : Type 0 where
  pub moments : HasMoments login
  pub id : IsText login.id
  pub issuer : IsText login.issuer
  pub audiences : AllByRecursion (AllByRecursion IsText) login.audiences
  pub recipient : IsText login.recipient
  pub request : IsText login.request
  pub name : IsText login.name
  pub index : IfSome login.index IsText
  pub attributes : AllByRecursion IsStatable login.attributes

-- a text without white space at its ends
abbrev pub IsTrimmed : List ℕ → Type 0
IsTrimmed text = trimmed text ≡ text

-- audiences of a restriction that is read again as it was made: there is one, and reading trims none
pub record IsAudienceList (texts : List (List ℕ)) : Type 0 where
  pub some : texts ≢ []
  pub each : AllByRecursion IsTrimmed texts

-- A login that is read again as it was made: the assertion and the request have an ID, each restriction has an audience,
-- and reading trims neither the issuer nor an audience.
pub record CanBeRead (login : Login) : Type 0 where
  pub id : login.id ≢ []
  pub request : login.request ≢ []
  pub issuer : IsTrimmed login.issuer
  pub audiences : AllByRecursion IsAudienceList login.audiences
