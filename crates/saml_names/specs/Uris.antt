-- The URIs that messages hold, as their bytes.
use Rattle.std.specs.Prelude.{ℕ, List}
use Rattle.saml_names.specs.declared.uris.TheConstants.{SUCCESS, RESPONDER, NO_PASSIVE, PARTIAL_LOGOUT, POST, BEARER, PASSWORD}

-- SAML Core, 3.2.2.2: status codes
abbrev pub success : List ℕ
success = SUCCESS.now

abbrev pub responder : List ℕ
responder = RESPONDER.now

abbrev pub no_passive : List ℕ
no_passive = NO_PASSIVE.now

abbrev pub partial_logout : List ℕ
partial_logout = PARTIAL_LOGOUT.now

-- SAML Bindings, 3.5.1: HTTP POST
abbrev pub post : List ℕ
post = POST.now

-- SAML Profiles, 3.3: the method of a bearer confirmation
abbrev pub bearer : List ℕ
bearer = BEARER.now

-- SAML Authentication Context, 3.4.8: the class of passwords
abbrev pub password : List ℕ
password = PASSWORD.now
