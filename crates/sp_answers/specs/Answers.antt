-- What a service provider answers, beside refusals.
use Rattle.std.specs.Prelude.{◌≡◌, ℕ, ◌++◌, List, [], codes, None, Some, if◌then◌else◌}
use Rattle.owned_values.specs.declared.attributes.Attribute.{Attribute}
use Rattle.xml_spec.specs.Characters.{IsText}
use Rattle.saml_time.specs.Instant.{TellsInFull}
use Rattle.element_make.specs.Made.{written}
use Rattle.sig_reference.specs.Signing.{signed}
use Rattle.protocol_messages.specs.Making.{authn_request}
use Rattle.post_binding.specs.Pages.{auto_form, user_page}
use Rattle.post_binding.specs.declared.posted.Field.TheVariants.{Request}
use Rattle.access_policy.specs.Denied.{denied_page}
use Rattle.metadata.specs.Making.{metadata}
use Rattle.metadata.specs.declared.peer.Role.TheVariants.{Sp}
use Rattle.http_wire.specs.Answers.{answer, is_one_line}
use Rattle.sp_rules.specs.declared.config.SpConfig.{SpConfig}
use Rattle.sp_rules.specs.Meant.{consumer}

-- SAML Profiles, 4.1.4.1: an AuthnRequest to the identity provider's service with this ID, signed with the provider's key; the
-- response is to come to its consumer address
abbrev pub ask_message : SpConfig → (instant id : List ℕ) → List ℕ
ask_message config instant id = written (signed config.key_out (authn_request id config.entity config.idp.service (consumer config) instant))

-- a form that sends it on with its relay
abbrev pub ask_page : SpConfig → (instant id relay : List ℕ) → List ℕ
ask_page config instant id relay = auto_form config.idp.service Request (ask_message config instant id) (Some relay)

-- the answer that asks for a login, issued at this moment
pub record IsAskAnswer (config : SpConfig) (id relay : List ℕ) (now : ℕ) (bytes : List ℕ) : Type 0 where
  pub instant : List ℕ
  pub told : TellsInFull instant now
  pub is : bytes ≡ answer 200 None None (ask_page config instant id relay)

-- who is logged in
abbrev pub user_answer : List ℕ → List Attribute → List ℕ
user_answer name attributes = answer 200 None None (user_page name attributes)

-- the rule that denied a page
abbrev pub denied_answer : List ℕ → List ℕ
denied_answer rule = answer 403 None None (denied_page rule)

-- Where a user goes after a login: to the target; to the beginning where that holds the end of a line, which no field of an
-- answer may hold.
abbrev pub location_of : List ℕ → List ℕ
location_of target = if is_one_line target then target else codes "/app"

-- the cookie of a session
abbrev pub session_cookie : List ℕ → List ℕ
session_cookie token = codes "sp_sid=" ++ token

-- a session was opened
abbrev pub opened_answer : (target token : List ℕ) → List ℕ
opened_answer target token = answer 303 (Some (location_of target)) (Some (session_cookie token)) []

-- the metadata of the provider
abbrev pub metadata_answer : SpConfig → List ℕ
metadata_answer config = answer 200 None None (written (metadata Sp config.entity config.base))

-- what a config holds are texts of characters that a document may hold
pub record HoldsTexts (config : SpConfig) : Type 0 where
  pub entity : IsText config.entity
  pub base : IsText config.base
  pub service : IsText config.idp.service
