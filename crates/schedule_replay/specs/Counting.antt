-- What the last line counts.
use Rattle.std.specs.Prelude.{ℕ, ◌+◌, ◌-◌, ◌^◌, ◌==◌, ◌&&◌, ◌||◌, min, Bool, true, false, List, codes, Option, if◌then◌else◌}
use Rattle.std.specs.Option.{option_map_or}
use Rattle.std.specs.Str.{bytes_eq}
use Rattle.post_binding.specs.declared.posted.Field.TheVariants.{Response}
use Rattle.post_agent.specs.declared.seen.Seen.{Seen}
use Rattle.post_agent.specs.declared.seen.What.{What}
use Rattle.post_agent.specs.declared.seen.What.TheVariants as whats
use Rattle.schedule_replay.specs.declared.tally.Tally.{Tally}

-- one more where it counts; a count stays at its end
abbrev pub more_if : Bool → ℕ → ℕ
more_if is count = if is then min (count + 1) (2 ^ 32 - 1) else count

-- the request was for this path
abbrev pub is_at : List ℕ → Option (List ℕ) → Bool
is_at path asked = option_map_or (λ its. bytes_eq its path) asked false

-- SAML Bindings 3.5.4: a form that carries a Response
abbrev pub is_response : What → Bool
is_response (whats.Form Response) = true
is_response what = false

abbrev pub is_code : What → Bool
is_code (whats.Code number) = true
is_code what = false

-- an answer 303 at `/acs` opens a session
abbrev pub opens : Option (List ℕ) → Seen → Bool
opens path seen = is_at (codes "/acs") path && seen.status == 303

-- an answer 200 with a Response, at `/sso` or `/login`
abbrev pub responds : Option (List ℕ) → Seen → Bool
responds path seen = (is_at (codes "/sso") path || is_at (codes "/login") path) && seen.status == 200 && is_response seen.what

-- one answer more, to a request for a path, where it was one
abbrev pub counted : Option (List ℕ) → Seen → Tally → Tally
counted path seen tally = record tally {
  opened = more_if (opens path seen) tally.opened;
  responses = more_if (responds path seen) tally.responses;
  refused = more_if (is_code seen.what) tally.refused;
}

-- one restart more
abbrev pub restarted : Tally → Tally
restarted tally = record tally { restarts = more_if true tally.restarts }

abbrev pub nothing_counted : Tally
nothing_counted = record { opened = 0; responses = 0; refused = 0; restarts = 0 }
