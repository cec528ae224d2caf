-- What a user agent keeps.
use Rattle.std.specs.Prelude.{ℕ, List, Option}
use Rattle.post_agent.specs.declared.seen.AutoForm.{AutoForm}
use Rattle.post_agent.specs.declared.seen.LoginPage.{LoginPage}
use Rattle.post_agent.specs.declared.seen.Location.{Location}

-- a cookie for each node, the form of the last page that had one, the last login page, and the last Location
pub record State : Type 0 where
  pub sp_cookie : Option (List ℕ)
  pub idp_cookie : Option (List ℕ)
  pub form : Option AutoForm
  pub login : Option LoginPage
  pub location : Option Location

abbrev pub kept : Option (List ℕ) → Option (List ℕ) → Option AutoForm → Option LoginPage → Option Location → State
kept sp_cookie idp_cookie form login location =
    record { sp_cookie = sp_cookie; idp_cookie = idp_cookie; form = form; login = login; location = location }
