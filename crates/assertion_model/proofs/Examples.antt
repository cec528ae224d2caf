-- Worked examples of the login of a content: one with everything in it, and some in which a condition fails.
use Rattle.std.proofs.Common.{◌≡◌, ℕ, List, [], ◌∷◌, codes, Some, None, refl}
use Rattle.xml_spec.specs.Tree.{Nodes}
use Rattle.xml_spec.specs.Content.{ContentAttribute, Contents, NoContents, ElementContent, TextContent}
use Rattle.saml_names.specs.Names.{saml, samlp}
use Rattle.saml_names.specs.Uris.{bearer}
use Rattle.saml_time.specs.Calendar.{days_of_years, days_of_months}
use Rattle.element_make.specs.declared.names.Ns.TheVariants.{Saml}
use Rattle.element_make.specs.Made.{joined, tree_of}
use Rattle.assertion_model.specs.declared.login.Login.{Login}
use Rattle.assertion_model.specs.Assertion as make
use Rattle.assertion_model.specs.Instants.{moment_of}
use Rattle.assertion_model.specs.Login.{login, confirmation, valid, user_name, attributes, authentication, children}
use Rattle.assertion_model.specs.Places.{name_place, value_places}

abbrev element : List ℕ → List ContentAttribute → Contents → Contents → Contents
element local given kids rest = ElementContent (saml local) given kids rest

abbrev given : List ℕ → List ℕ → ContentAttribute
given local value = record { name = record { namespace = []; local = local }; value = value }

abbrev holding : List ℕ → List ℕ → Contents → Contents
holding local text rest = element local [] (TextContent text NoContents) rest

-- the parts of an assertion
abbrev head : List ContentAttribute
head = given (codes "ID") (codes "_a") ∷ given (codes "IssueInstant") (codes "2024-01-01T00:00:00Z") ∷ given (codes "Version") (codes "2.0") ∷ []

abbrev confirming : List ContentAttribute
confirming = given (codes "InResponseTo") (codes "_r") ∷ given (codes "NotOnOrAfter") (codes "2024-01-01T00:05:00Z") ∷ given (codes "Recipient") (codes "acs") ∷ []

abbrev confirmed_by : List ℕ → List ContentAttribute → Contents → Contents
confirmed_by method attributes rest =
    element (codes "SubjectConfirmation") (given (codes "Method") method ∷ []) (element (codes "SubjectConfirmationData") attributes NoContents NoContents) rest

abbrev subject : Contents → Contents
subject rest = element (codes "Subject") [] (holding (codes "NameID") (codes "alice ") (confirmed_by bearer confirming NoContents)) rest

abbrev conditions : Contents → Contents
conditions rest =
    element (codes "Conditions") (given (codes "NotBefore") (codes "2024-01-01T00:00:00.5Z") ∷ [])
    (element (codes "AudienceRestriction") [] (holding (codes "Audience") (codes " sp ") NoContents) NoContents) rest

abbrev authenticated : Contents → Contents
authenticated rest =
    element (codes "AuthnStatement") (given (codes "AuthnInstant") (codes "2024-01-01T00:00:00Z") ∷ given (codes "SessionIndex") (codes "_s") ∷ []) NoContents rest

abbrev statement : List ℕ → List ℕ → Contents → Contents
statement name value rest =
    element (codes "AttributeStatement") []
    (element (codes "Attribute") (given (codes "Name") name ∷ []) (holding (codes "AttributeValue") value NoContents) NoContents) rest

abbrev assertion : List ContentAttribute → Contents → Contents
assertion attributes kids = ElementContent (saml (codes "Assertion")) attributes kids NoContents

-- everything in it: white space is trimmed of Issuer and Audience alone, and attributes of both statements count
abbrev everything : Contents
everything =
    assertion head (holding (codes "Issuer") (codes " idp ") (subject (conditions (authenticated
    (statement (codes "mail") (codes "a@b") (statement (codes "role") (codes "user") NoContents))))))

abbrev everything_said : Login
everything_said = record {
  id = codes "_a";
  issuer = codes "idp";
  issued = 1704067200000;
  audiences = (codes "sp" ∷ []) ∷ [];
  recipient = codes "acs";
  request = codes "_r";
  confirm_until = 1704067500000;
  not_before = Some 1704067200500;
  not_on_or_after = None;
  name = codes "alice ";
  index = Some (codes "_s");
  session_until = None;
  attributes = record { name = codes "mail"; values = codes "a@b" ∷ [] } ∷ record { name = codes "role"; values = codes "user" ∷ [] } ∷ [];
}

all_is_read : login everything ≡ Some everything_said
unfolding days_of_years days_of_months
all_is_read = refl

-- another element than an Assertion
other_element : login (ElementContent (samlp (codes "Assertion")) head (holding (codes "Issuer") (codes "i") (subject (authenticated NoContents))) NoContents) ≡ None
other_element = refl

second_issuer :
    login (assertion head (holding (codes "Issuer") (codes "i") (holding (codes "Issuer") (codes "j") (subject (authenticated NoContents))))) ≡ None
unfolding days_of_years days_of_months
second_issuer = refl

no_authentication : login (assertion head (holding (codes "Issuer") (codes "i") (subject NoContents))) ≡ None
unfolding days_of_years days_of_months
no_authentication = refl

other_version :
    login (assertion (given (codes "ID") (codes "_a") ∷ given (codes "IssueInstant") (codes "2024-01-01T00:00:00Z") ∷ given (codes "Version") (codes "2.1") ∷ [])
    (holding (codes "Issuer") (codes "i") (subject (authenticated NoContents)))) ≡ None
unfolding days_of_years days_of_months
other_version = refl

-- no moment: without Z, and a day that is not there
no_zone : moment_of (codes "2024-01-01T00:00:00") ≡ None
no_zone = refl

no_such_day : moment_of (codes "2023-02-29T00:00:00Z") ≡ None
no_such_day = refl

-- the name is all text of NameID, also inside an element
name_in_pieces :
    user_name (element (codes "NameID") [] (TextContent (codes "al") (holding (codes "b") (codes "i") (TextContent (codes "ce") NoContents))) NoContents)
    ≡ Some (codes "alice")
name_in_pieces = refl

encrypted_too : user_name (holding (codes "NameID") (codes "alice") (element (codes "EncryptedID") [] NoContents NoContents)) ≡ None
encrypted_too = refl

two_names : user_name (holding (codes "NameID") (codes "alice") (holding (codes "NameID") (codes "bob") NoContents)) ≡ None
two_names = refl

-- the first confirmation of a bearer is consumed, whatever the others are
first_bearer_is_consumed :
    confirmation (confirmed_by (codes "urn:oasis:names:tc:SAML:2.0:cm:sender-vouches") [] (confirmed_by bearer confirming (confirmed_by bearer [] NoContents)))
    ≡ Some (record { recipient = codes "acs"; request = codes "_r"; until = 1704067500000 })
unfolding days_of_years days_of_months
first_bearer_is_consumed = refl

last_bearer_is_not : confirmation (confirmed_by bearer [] (confirmed_by bearer confirming NoContents)) ≡ None
last_bearer_is_not = refl

empty_request :
    confirmation (confirmed_by bearer (given (codes "InResponseTo") [] ∷ given (codes "NotOnOrAfter") (codes "2024-01-01T00:05:00Z") ∷ given (codes "Recipient") (codes "acs") ∷ []) NoContents)
    ≡ None
empty_request = refl

not_before_is_refused : confirmation (confirmed_by bearer (given (codes "NotBefore") [] ∷ confirming) NoContents) ≡ None
not_before_is_refused = refl

unknown_condition : valid (record { attributes = []; kids = element (codes "Condition") [] NoContents NoContents }) ≡ None
unknown_condition = refl

no_audience : valid (record { attributes = []; kids = element (codes "AudienceRestriction") [] NoContents NoContents }) ≡ None
no_audience = refl

-- the first statement gives the session, and each has to tell when it was
first_session : authentication (children (codes "AuthnStatement") (authenticated (element (codes "AuthnStatement")
    (given (codes "AuthnInstant") (codes "2024-01-01T00:00:00Z") ∷ given (codes "SessionNotOnOrAfter") (codes "x") ∷ []) NoContents NoContents)))
    ≡ Some (record { index = Some (codes "_s"); until = None })
unfolding days_of_years days_of_months
first_session = refl

untold_instant : authentication (children (codes "AuthnStatement") (authenticated (element (codes "AuthnStatement") [] NoContents NoContents))) ≡ None
unfolding days_of_years days_of_months
untold_instant = refl

no_attribute_name : attributes (element (codes "AttributeStatement") [] (element (codes "Attribute") [] NoContents NoContents) NoContents) ≡ None
no_attribute_name = refl

-- WHERE A LOGIN IS READ

-- node 2 is the NameID; 6 and 8 are the values of the first Attribute, and 12 is that of the other statement
abbrev placed : Nodes
placed = tree_of (record {
  ns = Saml;
  local = codes "Assertion";
  attributes = [];
  kids =
      joined (make.part (codes "Subject") [] (make.holding (codes "NameID") (codes "alice")))
      (joined (make.statements (record { name = codes "mail"; values = codes "a@b" ∷ codes "a@c" ∷ [] } ∷ []))
      (make.statements (record { name = codes "role"; values = codes "user" ∷ [] } ∷ [])));
})

place_of_name : name_place placed 0 ≡ Some 2
place_of_name = refl

places_of_values : value_places placed 0 ≡ 6 ∷ 8 ∷ 12 ∷ []
places_of_values = refl
