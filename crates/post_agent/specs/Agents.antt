-- What a user agent sends, and what it keeps of an answer.
use Rattle.std.specs.Prelude.{ℕ, List, [], codes, Option, None, Some, option_and_then}
use Rattle.std.specs.Option.{option_map}
use Rattle.post_binding.specs.Form.{post_body}
use Rattle.post_agent.specs.declared.seen.AutoForm.{AutoForm}
use Rattle.post_agent.specs.declared.seen.LoginPage.{LoginPage}
use Rattle.post_agent.specs.declared.seen.Outgoing.{Outgoing}
use Rattle.post_agent.specs.declared.seen.Page.{Page}
use Rattle.post_agent.specs.declared.seen.Page.TheVariants.{Form, Login}
use Rattle.post_agent.specs.declared.site.Site.{Site}
use Rattle.post_agent.specs.declared.site.Site.TheVariants.{Sp, Idp}
use Rattle.post_agent.specs.Sites.{place_of}
use Rattle.post_agent.specs.Requests.{get, post, login_form}
use Rattle.post_agent.specs.States.{State}

-- an agent that has seen nothing
abbrev pub fresh : State
fresh = record { sp_cookie = None; idp_cookie = None; form = None; login = None; location = None }

-- ---- what is sent

-- the cookie that a node set
abbrev pub cookie_at : Site → State → Option (List ℕ)
cookie_at Sp state = state.sp_cookie
cookie_at Idp state = state.idp_cookie

abbrev pub got : Site → List ℕ → State → Outgoing
got site path state = record { site = site; bytes = get site (cookie_at site state) path }

-- a path of the service provider
abbrev pub visited : List ℕ → State → Outgoing
visited path state = got Sp path state

-- a body is posted to a path of a node
abbrev pub posted : Site → List ℕ → List ℕ → State → Outgoing
posted site path body state = record { site = site; bytes = post site (cookie_at site state) path body }

-- SAML Bindings 3.5.4: a form is posted to its URL, with its message and its relay
abbrev pub posted_to : State → AutoForm → Site × List ℕ → Outgoing
posted_to state form (site, path) = posted site path (post_body form.field form.message form.relay) state

-- the form of the last page that had one; none where no form was seen, or its URL is neither node's
abbrev pub submitted : State → Option Outgoing
submitted state = option_and_then (λ form. option_map (posted_to state form) (place_of form.url)) state.form

-- the last login page, filled in, at the node that sent it
abbrev pub filled_in : List ℕ → List ℕ → State → LoginPage → Outgoing
filled_in user password state page = posted page.site (codes "/login") (login_form page.pending user password) state

abbrev pub logged_in : List ℕ → List ℕ → State → Option Outgoing
logged_in user password state = option_map (filled_in user password state) state.login

-- the last Location, at the node that sent it
abbrev pub followed : State → Option Outgoing
followed state = option_map (λ location. got location.site location.path state) state.location

-- an empty form at `/logout`
abbrev pub left : Site → State → Outgoing
left site state = posted site (codes "/logout") [] state

-- ---- what is kept

-- RFC 6265, 5.3: the cookie of a node takes the place of the one before; without one it stays
abbrev pub with_cookie : Site → Option (List ℕ) → State → State
with_cookie site None state = state
with_cookie Sp (Some cookie) state = record state { sp_cookie = Some cookie }
with_cookie Idp (Some cookie) state = record state { idp_cookie = Some cookie }

abbrev pub with_location : Site → Option (List ℕ) → State → State
with_location site None state = state
with_location site (Some path) state = record state { location = Some (record { site = site; path = path }) }

-- the form of a page that has one, and the pending login of a login page
abbrev pub with_page : Site → Page → State → State
with_page site (Form form) state = record state { form = Some form }
with_page site (Login pending) state = record state { login = Some (record { site = site; pending = pending }) }
with_page site page state = state
