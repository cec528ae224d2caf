-- What an identity provider states of a user to a peer that asked for a login: SAML Core, 2.3.3; SAML Profiles, 4.1.4.2.
use Rattle.std.specs.Prelude.{◌≡◌, ◌≢◌, ℕ, ◌+◌, ◌≤◌, min, true, List, [], ◌∷◌, Option, Some}
use Rattle.std.specs.List.{AllByRecursion, flat_map, list_all}
use Rattle.xml_spec.specs.Characters.{IsText}
use Rattle.ledger_rules.specs.Moments.{ASSERTION_LIFE}
use Rattle.ledger_rules.specs.Numbers.{is_xml_text}
use Rattle.ledger_rules.specs.Texts.{of_attribute}
use Rattle.owned_values.specs.declared.attributes.Attribute.{Attribute}
use Rattle.saml_time.specs.declared.TheConstants.{LAST}
use Rattle.saml_time.specs.Instant.{TellsInFull}
use Rattle.assertion_model.specs.declared.login.Login.{Login}
use Rattle.assertion_model.specs.Assertion.{IsStatable}
use Rattle.provider_config.specs.declared.idp_config.SignMode.{SignMode}
use Rattle.idp_answers.specs.declared.stating.Statement.{Statement}
use Rattle.idp_answers.specs.Answers.{IsIssuedAnswer, IsNoPassiveAnswer}

-- a user has logged in, for the peer that asked: the ID of the Assertion, the user's session with its index and its end, and when the
-- Assertion is issued and until when it may be presented
pub record Stated : Type 0 where
  pub assertion : List ℕ
  pub index : List ℕ
  pub user : List ℕ
  pub attributes : List Attribute
  pub peer : List ℕ
  pub consumer : List ℕ
  pub request : List ℕ
  pub moment : ℕ
  pub until : ℕ
  pub session_end : ℕ

abbrev pub stated_view : Statement → Stated
stated_view s = record {
  assertion = s.assertion.now;
  index = s.index.now;
  user = s.user.now;
  attributes = s.attributes.now;
  peer = s.peer.now;
  consumer = s.consumer.now;
  request = s.request.now;
  moment = s.moment;
  until = s.until;
  session_end = s.session_end;
}

-- The login of it, with this issuer: for the peer that asked alone. The Assertion may be presented from the moment at which it was
-- issued until the moment that is stated, at the address to which the answer goes.
abbrev pub stated_login : (issuer : List ℕ) → Stated → Login
stated_login issuer s = record {
  id = s.assertion;
  issuer = issuer;
  issued = s.moment;
  audiences = (s.peer ∷ []) ∷ [];
  recipient = s.consumer;
  request = s.request;
  confirm_until = s.until;
  not_before = Some s.moment;
  not_on_or_after = Some s.until;
  name = s.user;
  index = Some s.index;
  session_until = Some s.session_end;
  attributes = s.attributes;
}

-- until when an Assertion may be presented: five minutes, and to the end of the year 9999 at most
abbrev pub presented_until : ℕ → ℕ
presented_until now = min LAST (now + ASSERTION_LIFE)

-- ---- what may be stated

-- its texts may stand in a document, its Assertion has an ID, and its moments have a written form
pub record CanBeStated (s : Stated) : Type 0 where
  pub assertion : IsText s.assertion
  pub named : s.assertion ≢ []
  pub index : IsText s.index
  pub user : IsText s.user
  pub attributes : AllByRecursion IsStatable s.attributes
  pub peer : IsText s.peer
  pub consumer : IsText s.consumer
  pub request : IsText s.request
  pub moment : s.moment ≤ LAST
  pub until : s.until ≤ LAST
  pub session_end : s.session_end ≤ LAST

-- a moment has a written form, which may stand in a document
pub record IsTold (moment : ℕ) : Type 0 where
  pub text : List ℕ
  pub tells : TellsInFull text moment
  pub may_stand : IsText text

-- the moments of an Assertion that is issued now have written forms
pub record AreTold (now session_end : ℕ) : Type 0 where
  pub issued : IsTold now
  pub until : IsTold (presented_until now)
  pub ends : IsTold session_end

-- What passes the test of a record's texts may stand in a document.
abbrev pub AllowedTextsMayStand : Type 0
AllowedTextsMayStand = (texts : List (List ℕ)) → list_all is_xml_text texts ≡ true → AllByRecursion IsText texts

abbrev pub AllowedAttributesMayStand : Type 0
AllowedAttributesMayStand =
    (attributes : List Attribute) → list_all is_xml_text (flat_map of_attribute attributes) ≡ true
    → AllByRecursion IsStatable attributes

-- Each moment up to the last one has a written form.
abbrev pub EachMomentIsTold : Type 0
EachMomentIsTold = (moment : ℕ) → moment ≤ LAST → IsTold moment

-- And so have the moments of each Assertion.
abbrev pub EachAssertionIsTold : Type 0
EachAssertionIsTold = (now session_end : ℕ) → now ≤ LAST → session_end ≤ LAST → AreTold now session_end

-- ---- there is an answer to each

-- There is an answer with the Assertion of each login that may be stated, in each mode.
abbrev pub EachLoginHasAnAnswer : Type 0
EachLoginHasAnAnswer =
    (mode : SignMode) (key issuer message : List ℕ) (s : Stated) (relay cookie : Option (List ℕ)) (now : ℕ)
    → IsText issuer → IsText message → CanBeStated s
    → IsTold now → IsTold s.moment → IsTold s.until → IsTold s.session_end
    → (bytes : List ℕ) × IsIssuedAnswer mode key (stated_login issuer s) message s.consumer relay cookie now bytes

-- And there is one where the user may not be asked.
abbrev pub EachRefusalHasAnAnswer : Type 0
EachRefusalHasAnAnswer =
    (issuer message request consumer : List ℕ) (relay : Option (List ℕ)) (now : ℕ)
    → IsText issuer → IsText message → IsText request → IsText consumer → IsTold now
    → (bytes : List ℕ) × IsNoPassiveAnswer issuer message request consumer relay now bytes
