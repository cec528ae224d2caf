-- The pages of both providers, as a user agent tells them apart.
use Rattle.std.specs.Prelude.{◌≡◌, ℕ, Bool, List, ◌++◌, codes, decimal, IfSome, IsUtf8}
use Rattle.base64.specs.GeneralPurpose.{IsBytes}
use Rattle.verdict_codes.specs.declared.codes.Verdict.{Verdict}
use Rattle.verdict_codes.specs.Codes.{number_of, name_of}
use Rattle.post_binding.specs.Pages.{auto_form, login_page, end_page}
use Rattle.http_wire.specs.Answers.{page}
use Rattle.post_agent.specs.declared.seen.AutoForm.{AutoForm}
use Rattle.post_agent.specs.declared.seen.Page.{Page}
use Rattle.post_agent.specs.declared.seen.Page.TheVariants.{Form, Login, End, Code, Status, Other}

-- the page that submits a form
abbrev pub form_page : AutoForm → List ℕ
form_page form = auto_form form.url form.field form.message form.relay

-- its texts are texts, and its message is bytes
pub record IsForm (form : AutoForm) : Type 0 where
  pub url : IsUtf8 form.url
  pub message : IsBytes form.message
  pub relay : IfSome form.relay IsUtf8

-- the page of a verdict
abbrev pub refusal_page : Verdict → List ℕ
refusal_page verdict = page (codes "Refused: " ++ decimal (number_of verdict) ++ codes " " ++ name_of verdict)

-- the page of a status
abbrev pub status_page : ℕ → List ℕ
status_page status = page (decimal status)

-- the body of an answer with this status is this page, one that a user agent tells from the others
abbrev pub IsPage : ℕ → List ℕ → Page → Type 0
IsPage status body (Form form) = IsForm form × (body ≡ form_page form)
IsPage status body (Login pending) = IsUtf8 pending × (body ≡ login_page pending)
IsPage status body End = (partial : Bool) × (body ≡ end_page partial)
IsPage status body (Code code) = (verdict : Verdict) × (code ≡ number_of verdict) × (body ≡ refusal_page verdict)
IsPage status body Status = body ≡ status_page status
IsPage status body Other = ⊥

-- the page that the body of an answer with this status is: another where it is none that is told apart
abbrev pub Shows : ℕ → List ℕ → Page → Type 0
Shows status body Other = (page : Page) → ¬ (IsPage status body page)
Shows status body page = IsPage status body page
