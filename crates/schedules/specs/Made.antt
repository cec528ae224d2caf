-- Schedules of many logins.
use Rattle.std.specs.Prelude.{ℕ, zero, suc, ◌+◌, ◌*◌, ◌%◌, ◌==◌, List, [], ◌∷◌, ◌++◌, codes, if◌then◌else◌}
use Rattle.post_agent.specs.declared.site.Site.TheVariants.{Sp}
use Rattle.schedules.specs.declared.step.Step.{Step}
use Rattle.schedules.specs.declared.step.Step.TheVariants.{Now, Visit, Submit, Login, Fresh, Restart}

-- 'a'
abbrev pub the_agent : ℕ
the_agent = 97

-- ---- the numbers that choose

-- a linear congruential generator of 31 bits
abbrev pub next : ℕ → ℕ
next number = (number * 1103515245 + 12345) % 2147483648

-- the number of a login, from the start on
abbrev pub drawn : ℕ → ℕ → ℕ
drawn start zero = start
drawn start (suc i) = next (drawn start i)

-- ---- the steps

-- an odd number chooses alice
abbrev pub login_by : ℕ → Step
login_by number = Login the_agent (if number % 2 == 1 then codes "alice" else codes "bob") (codes "password")

-- a login of an agent that has seen nothing
abbrev pub login_at : ℕ → ℕ → List Step
login_at moment number =
    Now moment ∷ Fresh the_agent ∷ Visit the_agent (codes "/app") ∷ Submit the_agent ∷ login_by number
    ∷ Submit the_agent ∷ []

-- every fifth number posts the form once more; and every fourth restarts the service provider, and posts it then
abbrev pub more_by : ℕ → List Step
more_by number =
    (if number % 5 == 0 then Submit the_agent ∷ [] else [])
    ++ (if number % 4 == 2 then Restart Sp ∷ Submit the_agent ∷ [] else [])

-- the steps of the login of this number, one second behind the one before
abbrev pub login_steps : ℕ → ℕ → List Step
login_steps i number = login_at (1704067200000 + 1000 * i) number ++ more_by number

-- the steps of so many logins
abbrev pub made : ℕ → ℕ → List Step
made zero start = []
made (suc n) start = made n start ++ login_steps (suc n) (drawn start (suc n))
