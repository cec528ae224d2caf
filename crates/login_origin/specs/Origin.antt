-- Which logins and sessions come from an identity provider, whose signed elements are listed: SAML Profiles, 4.1.4.5 (the Assertion is
-- signed, or its Response is).
use Rattle.std.specs.Prelude.{◌≡◌, ℕ, ◌⊎◌, List, [], ◌∷◌, codes, Some, IsTrue, Contains}
use Rattle.xml_spec.specs.Canonical.{canonical}
use Rattle.saml_names.specs.Names.{saml, samlp}
use Rattle.tree_read.specs.Children.{children}
use Rattle.tree_read.specs.Walk.{name_of_node}
use Rattle.assertion_model.specs.declared.login.Login.{Login}
use Rattle.assertion_model.specs.Parts.{own_signature, login_at}
use Rattle.request_rows.specs.declared.row.NewSession.{NewSession}
use Rattle.sp_rules.specs.declared.config.SpConfig.{SpConfig}
use Rattle.sp_rules.specs.Keys.{Key, usable}
use Rattle.sp_rules.specs.Meant.{is_for}
use Rattle.sp_rules.specs.Opening.{Brought}
use Rattle.sp_rules.specs.Shown.{session_of}
use Rattle.login_origin.specs.Signed.{Signed}

-- what was signed is a Response, and node p is its one Assertion
pub record IsInResponse (s : Signed) (p : ℕ) : Type 0 where
  pub response : name_of_node s.tree s.element ≡ samlp (codes "Response")
  pub one : children s.tree s.element (saml (codes "Assertion")) ≡ p ∷ []

-- node p is what was signed, or the one Assertion of that
abbrev pub IsSignedAssertion : Signed → ℕ → Type 0
IsSignedAssertion s p = (p ≡ s.element) ⊎ IsInResponse s p

-- an Assertion that was signed says this login
pub record IsLoginOf (issued : List Signed) (login : Login) : Type 0 where
  pub s : Signed
  pub known : Contains issued s
  pub p : ℕ
  pub assertion : IsSignedAssertion s p
  pub read : login_at s.tree p ≡ Some login

-- The session is that of such a login, which is for this provider (SAML Core, 2.5.1.4), and of a key that counts now: it has the
-- login's request, name, index and attributes.
pub record IsSessionOf (issued : List Signed) (config : SpConfig) (now : ℕ) (session : NewSession) : Type 0 where
  pub login : Login
  pub key : Key
  pub origin : IsLoginOf issued login
  pub audience : IsTrue (is_for config login)
  pub counts : Contains (usable config now) key
  pub is : session ≡ session_of config now key.number login

-- the canonical form, with a list of prefixes, of the first signed element that a form brings, without its own Signature
abbrev pub covered_text : Brought → List (List ℕ) → List ℕ
covered_text b prefixes = canonical b.carried.tree b.e (own_signature b.carried.tree b.e) prefixes
