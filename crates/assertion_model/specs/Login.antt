-- The login of an assertion: SAML Core, 2.3.3, 2.4, 2.5 and 2.7; SAML Profiles, 4.1.4. It is a function of the content of one
-- element, and there is none where a condition fails. Children that no condition names are passed over, except those of
-- Conditions.
use Rattle.std.specs.Prelude.{ℕ, Bool, not, ◌&&◌, ◌||◌, List, [], map, filter, codes, Option, None, Some, is_some, if◌then◌else◌}
use Rattle.std.specs.List.{list_all, flat_map}
use Rattle.std.specs.Option.{option_map}
use Rattle.xml_spec.specs.Bytes.{is_empty}
use Rattle.xml_spec.specs.Names.{ExpandedName}
use Rattle.xml_spec.specs.Content.{Contents, ElementContent}
use Rattle.saml_names.specs.Names.{saml}
use Rattle.saml_names.specs.Uris.{bearer}
use Rattle.tree_read.specs.Children.{is_name}
use Rattle.tree_read.specs.Texts.{trimmed}
use Rattle.owned_values.specs.declared.attributes.Attribute.{Attribute}
use Rattle.owned_values.specs.Options.{◌>>=◌, is_there}
use Rattle.assertion_model.specs.declared.login.Login.{Login}
use Rattle.assertion_model.specs.declared.parts.Head.{Head}
use Rattle.assertion_model.specs.declared.parts.Confirmed.{Confirmed}
use Rattle.assertion_model.specs.declared.parts.Valid.{Valid}
use Rattle.assertion_model.specs.declared.parts.Session.{Session}
use Rattle.assertion_model.specs.Contents.{Part, named, names, text, value, only, at_most_one, first, each}
use Rattle.assertion_model.specs.Instants.{moment_of, moment_if_any}

-- only where the condition holds
abbrev pub where_holds : {X : Type 0} → Bool → Option X → Option X
where_holds condition o = if condition then o else None

-- the children of this name of assertions
abbrev pub children : List ℕ → Contents → List Part
children local kids = named (saml local) kids

-- the value has this text
abbrev pub has_value : List ℕ → List ℕ → Part → Bool
has_value local wanted part = is_there wanted (value local part.attributes)

-- a text that is not empty
abbrev pub some_text : List ℕ → Option (List ℕ)
some_text bytes = where_holds (not (is_empty bytes)) (Some bytes)

-- Profiles, 4.1.4.2: the SubjectConfirmationData of the consumed confirmation has a Recipient, an InResponseTo that is not
-- empty and a NotOnOrAfter, and no NotBefore
abbrev pub confirmed : Part → Option Confirmed
confirmed part = where_holds (not (is_some (value (codes "NotBefore") part.attributes))) (do
  recipient ← value (codes "Recipient") part.attributes
  request ← value (codes "InResponseTo") part.attributes >>= some_text
  until ← value (codes "NotOnOrAfter") part.attributes >>= moment_of
  Some (record { recipient = recipient; request = request; until = until }))

-- Core, 2.4.1.1: the first confirmation of a bearer is consumed, and has just one SubjectConfirmationData
abbrev pub confirmation : Contents → Option Confirmed
confirmation kids = do
  consumed ← first (filter (has_value (codes "Method") bearer) (children (codes "SubjectConfirmation") kids))
  confirming ← only (children (codes "SubjectConfirmationData") consumed.kids)
  confirmed confirming

-- Core, 2.4.1: the Subject is named by just one NameID, and by no BaseID and no EncryptedID
abbrev pub user_name : Contents → Option (List ℕ)
user_name kids =
    where_holds (is_none_named (codes "BaseID") && is_none_named (codes "EncryptedID"))
    (option_map (λ (name : Part). text name.kids) (only (children (codes "NameID") kids)))
  where
    is_none_named : List ℕ → Bool
    is_none_named local = not (is_some (first (children local kids)))

-- Core, 2.5.1: the conditions that this profile knows
abbrev pub is_known : ExpandedName → Bool
is_known name =
    is_name (saml (codes "AudienceRestriction")) name || is_name (saml (codes "OneTimeUse")) name
    || is_name (saml (codes "ProxyRestriction")) name

-- Core, 2.5.1.4: a restriction has at least one Audience; white space at their ends is no part of them
abbrev pub audiences : Part → Option (List (List ℕ))
audiences restriction =
    let found = map (λ (audience : Part). trimmed (text audience.kids)) (children (codes "Audience") restriction.kids) in
    where_holds (is_some (first found)) (Some found)

-- Core, 2.5.1: the bounds of validity tell moments where they stand, and no other condition stands there
abbrev pub valid : Part → Option Valid
valid conditions = where_holds (list_all is_known (names conditions.kids)) (do
  not_before ← moment_if_any (value (codes "NotBefore") conditions.attributes)
  not_on_or_after ← moment_if_any (value (codes "NotOnOrAfter") conditions.attributes)
  restrictions ← each audiences (children (codes "AudienceRestriction") conditions.kids)
  Some (record { not_before = not_before; not_on_or_after = not_on_or_after; audiences = restrictions }))

-- without Conditions an assertion is always valid, for everyone
abbrev pub valid_if_any : Option Part → Option Valid
valid_if_any None = Some (record { not_before = None; not_on_or_after = None; audiences = [] })
valid_if_any (Some conditions) = valid conditions

-- Core, 2.7.2: the session that an AuthnStatement says
abbrev pub session : Part → Option Session
session statement =
    option_map (λ until. record { index = value (codes "SessionIndex") statement.attributes; until = until })
    (moment_if_any (value (codes "SessionNotOnOrAfter") statement.attributes))

-- Core, 2.7.2: the moments that AuthnStatements tell, each by its AuthnInstant
abbrev pub instants : List Part → Option (List ℕ)
instants statements =
    each (λ (statement : Part). value (codes "AuthnInstant") statement.attributes >>= moment_of) statements

-- Core, 2.7.2: there is an AuthnStatement, and each tells its moment
abbrev pub authentication : List Part → Option Session
authentication statements = do
  moments ← instants statements
  statement ← first statements
  session statement

-- Core, 2.7.3.1: an Attribute has a Name; its values are the texts of its AttributeValues
abbrev pub attribute : Part → Option Attribute
attribute part =
    option_map (λ name. record { name = name; values = map (λ (v : Part). text v.kids) (children (codes "AttributeValue") part.kids) })
    (value (codes "Name") part.attributes)

-- Core, 2.7.3: the attributes of all statements, in document order
abbrev pub attributes : Contents → Option (List Attribute)
attributes kids =
    each attribute (flat_map (λ (statement : Part). children (codes "Attribute") statement.kids) (children (codes "AttributeStatement") kids))

-- Core, 2.3.3: Version 2.0, an ID that is not empty, and an IssueInstant that tells a moment
abbrev pub head : Part → Option Head
head assertion = where_holds (has_value (codes "Version") (codes "2.0") assertion) (do
  id ← value (codes "ID") assertion.attributes >>= some_text
  issued ← value (codes "IssueInstant") assertion.attributes >>= moment_of
  Some (record { id = id; issued = issued }))

-- Core, 2.3.3: just one Issuer and one Subject, at most one Conditions, and at least one AuthnStatement
abbrev pub login_of : Part → Option Login
login_of assertion = do
  h ← head assertion
  issuer ← only (children (codes "Issuer") assertion.kids)
  subject ← only (children (codes "Subject") assertion.kids)
  name ← user_name subject.kids
  c ← confirmation subject.kids
  v ← at_most_one (children (codes "Conditions") assertion.kids) >>= valid_if_any
  s ← authentication (children (codes "AuthnStatement") assertion.kids)
  stated ← attributes assertion.kids
  Some (record {
    id = h.id;
    issuer = trimmed (text issuer.kids);
    issued = h.issued;
    audiences = v.audiences;
    recipient = c.recipient;
    request = c.request;
    confirm_until = c.until;
    not_before = v.not_before;
    not_on_or_after = v.not_on_or_after;
    name = name;
    index = s.index;
    session_until = s.until;
    attributes = stated;
  })

-- the login of the content of an element, which has to be a saml:Assertion
abbrev pub login : Contents → Option Login
login (ElementContent name attributes kids rest) =
    where_holds (is_name (saml (codes "Assertion")) name) (login_of (record { attributes = attributes; kids = kids }))
login _ = None
