-- What is opened and shown of a login, and where it stands in the message.
use Rattle.std.specs.Prelude.{◌≡◌, ℕ, ◌+◌, min, List, [], ◌∷◌, map, Option, None, Some}
use Rattle.xml_spec.specs.Tree.{Nodes}
use Rattle.xml_spec.specs.Document as spans
use Rattle.range_laws.specs.Ranges.{StandsAt, IsWithin, AreApart}
use Rattle.xml_chars.specs.declared.Span.{Span}
use Rattle.tree_read.specs.Texts.{text_of}
use Rattle.assertion_model.specs.declared.login.Login.{Login}
use Rattle.assertion_model.specs.Parts.{own_signature}
use Rattle.assertion_model.specs.Places.{name_place, value_places, values_of}
use Rattle.request_rows.specs.declared.row.AskedRow.{AskedRow}
use Rattle.request_rows.specs.declared.row.NewSession.{NewSession}
use Rattle.request_rows.specs.Rows.{RowsView}
use Rattle.sp_rules.specs.declared.accepted.Accepted.{Accepted}
use Rattle.sp_rules.specs.declared.config.SpConfig.{SpConfig}
use Rattle.sp_rules.specs.declared.config.TheConstants.{SESSION_LENGTH}
use Rattle.sp_rules.specs.Opening.{Brought, Opens}

-- SAML Core, 2.7.2: a session ends at SessionNotOnOrAfter at the latest, and after eight hours (profile)
abbrev pub session_end : ℕ → Option ℕ → ℕ
session_end now None = now + SESSION_LENGTH
session_end now (Some granted) = min (now + SESSION_LENGTH) granted

-- the session of a login that the key with this number vouches for
abbrev pub session_of : SpConfig → ℕ → ℕ → Login → NewSession
session_of config now number login = record {
  request = login.request;
  issuer = login.issuer;
  assertion = login.id;
  assertion_until = login.confirm_until + config.skew;
  name = login.name;
  index = login.index;
  until = session_end now login.session_until;
  attributes = login.attributes;
  key = number;
}

-- WHERE IT STANDS

-- a place in a text, in the words of XML
abbrev pub place_of : Span → spans.Span
place_of span = record { start = span.start; end = span.end }

-- element n of the tree is written there in the text
abbrev pub IsWrittenAt : List ℕ → Nodes → ℕ → Span → Type 0
IsWrittenAt text tree n span = StandsAt text tree n (place_of span)

-- these elements are written at these places, in order
abbrev pub AreWrittenAt : List ℕ → Nodes → List ℕ → List Span → Type 0
AreWrittenAt text tree [] [] = Unit {0}
AreWrittenAt text tree (n ∷ numbers) (span ∷ spans) = IsWrittenAt text tree n span × AreWrittenAt text tree numbers spans
AreWrittenAt text tree _ _ = ⊥

-- What is shown of assertion p stands there: in the Assertion, and apart from the Signature that covers it and from its own.
pub record IsShownAt (text : List ℕ) (tree : Nodes) (p : ℕ) (assertion signature span : Span) : Type 0 where
  pub inside : IsWithin (place_of assertion) (place_of span)
  pub apart : AreApart (place_of signature) (place_of span)
  pub apart_from_own : (own : ℕ) (place : spans.Span) → own_signature tree p ≡ Some own → StandsAt text tree own place
      → AreApart place (place_of span)

abbrev pub AreShownAt : List ℕ → Nodes → ℕ → Span → Span → List Span → Type 0
AreShownAt text tree p assertion signature [] = Unit {0}
AreShownAt text tree p assertion signature (span ∷ spans) =
    IsShownAt text tree p assertion signature span × AreShownAt text tree p assertion signature spans

-- What is accepted of a login that assertion p of the message says, for an asked row: the session, the target of the request, and
-- where in the message there stand the first signed element e with its Signature, the Assertion, the name and the values that are
-- shown.
pub record IsAcceptedOf (config : SpConfig) (now : ℕ) (text : List ℕ) (tree : Nodes) (p e number : ℕ) (login : Login) (asked : AskedRow) (accepted : Accepted) : Type 0 where
  pub session : accepted.session ≡ session_of config now number login
  pub target : accepted.target ≡ asked.target
  pub assertion : IsWrittenAt text tree p accepted.assertion
  pub covered : IsWrittenAt text tree e accepted.covered
  pub own : ℕ
  pub is_own : own_signature tree e ≡ Some own
  pub signature : IsWrittenAt text tree own accepted.signature
  pub name : ℕ
  pub is_name : name_place tree p ≡ Some name
  pub name_span : IsWrittenAt text tree name accepted.name_span
  pub name_text : text_of tree name ≡ accepted.session.name
  pub value_spans : AreWrittenAt text tree (value_places tree p) accepted.value_spans
  pub value_texts : map (text_of tree) (value_places tree p) ≡ values_of accepted.session.attributes
  pub signature_in_covered : IsWithin (place_of accepted.covered) (place_of accepted.signature)
  pub assertion_in_covered : IsWithin (place_of accepted.covered) (place_of accepted.assertion)
  pub name_shown : IsShownAt text tree p accepted.assertion accepted.signature accepted.name_span
  pub values_shown : AreShownAt text tree p accepted.assertion accepted.signature accepted.value_spans

-- what is accepted of a login that a form brings
abbrev pub IsAccepted : SpConfig → ℕ → Brought → AskedRow → Accepted → Type 0
IsAccepted config now b asked accepted =
    IsAcceptedOf config now b.carried.message b.carried.tree b.p b.e b.key.number b.login asked accepted

-- the form opens a session, and this is accepted of it
pub record IsOpening (config : SpConfig) (rows : RowsView) (horizon now : ℕ) (body : List ℕ) (accepted : Accepted) : Type 0 where
  pub brought : Brought
  pub asked : AskedRow
  pub opens : Opens config rows horizon now body brought asked
  pub is : IsAccepted config now brought asked accepted
