-- What a form of the HTTP POST binding carries for a logout: SAML Bindings, 3.5.4, and SAML Core, 3.7.
use Rattle.std.specs.Prelude.{◌≡◌, ℕ, List, Option, None, Ok}
use Rattle.xml_spec.specs.Tree.{Nodes}
use Rattle.saml_tree.specs.Documents.{IsSpelled}
use Rattle.post_binding.specs.Form.{form}
use Rattle.post_binding.specs.declared.posted.Field.{Field}
use Rattle.post_binding.specs.declared.posted.Field.TheVariants as fields
use Rattle.protocol_messages.specs.Messages.{IsLogoutRequest, IsLogoutResponse}
use Rattle.logout_profile.specs.declared.message.Message.{Message}
use Rattle.logout_profile.specs.declared.message.Message.TheVariants as messages
use Rattle.logout_profile.specs.declared.logout.Logout.{Logout}
use Rattle.logout_profile.specs.declared.logout.Logout.TheVariants as logouts

-- Bindings, 3.5.4: "If the message is a SAML request, then the form control MUST be named SAMLRequest. If the message is a SAML
-- response, then the form control MUST be named SAMLResponse." Element k of the tree is this message of a logout, in the field
-- that is named for it.
abbrev pub IsMessage : Field → Nodes → ℕ → Message → Type 0
IsMessage fields.Request tree k (messages.Ask request) = IsLogoutRequest tree k request
IsMessage fields.Response tree k (messages.Reply response) = IsLogoutResponse tree k response
IsMessage field tree k message = ⊥

-- Core, 3.2.1 and 3.2.2: who sent a message, and where it was sent to
abbrev pub issuer_of : Message → List ℕ
issuer_of (messages.Ask request) = request.issuer
issuer_of (messages.Reply response) = response.issuer

abbrev pub destination_of : Message → Option (List ℕ)
destination_of (messages.Ask request) = request.destination
destination_of (messages.Reply response) = response.destination

-- Core, 3.7.1: when a request expires, where it says so. A response does not expire.
abbrev pub until_of : Message → Option ℕ
until_of (messages.Ask request) = request.until
until_of (messages.Reply response) = None

-- what a message of the peer at this place asks or replies. Bindings, 3.5.3: a response repeats the relay of its request, so that
-- of a request is kept.
abbrev pub logout_of : Message → ℕ → Option (List ℕ) → Logout
logout_of (messages.Ask request) place relay = logouts.Ask request place relay
logout_of (messages.Reply response) place relay = logouts.Reply response place

-- what a form carries: the bytes that stand in this field, with their relay, the tree that they spell, and the message at its root
pub record Carried : Type 0 where
  pub field : Field
  pub text : List ℕ
  pub relay : Option (List ℕ)
  pub tree : Nodes
  pub message : Message

abbrev pub Posts : List ℕ → Field → List ℕ → Option (List ℕ) → Type 0
Posts body field text relay = form body ≡ Ok (record { field = field; message = text; relay = relay })

pub record Carries (body : List ℕ) (c : Carried) : Type 0 where
  pub posted : Posts body c.field c.text c.relay
  pub spelled : IsSpelled c.text c.tree
  pub message : IsMessage c.field c.tree 0 c.message
