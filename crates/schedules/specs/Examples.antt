-- The definitions at worked examples.
use Rattle.std.specs.Prelude.{◌≡◌, [], ◌∷◌, codes, None, Some, Ok, Err, refl}
use Rattle.std.specs.Str.{chars}
use lib.Utf8.{encode}
use Rattle.post_agent.specs.declared.site.Site.TheVariants.{Sp, Idp}
use Rattle.schedules.specs.declared.step.Pick.TheVariants.{Marked}
use Rattle.schedules.specs.declared.step.Step.TheVariants.{Now, Visit, Submit, Login, Leave, Pair, Fresh, Restart, Crash, Compact}
use Rattle.schedules.specs.Line.{step_of}
use Rattle.schedules.specs.Made.{next, made}
use Rattle.schedules.specs.Schedules.{agents, schedule}

-- the last moment, the greatest call and the longest piece; and one more of each
numbers : (step_of (codes "now 253402300799999") ≡ Some (Now 253402300799999))
    × (step_of (codes "now 253402300800000") ≡ None)
    × (step_of (codes "crash idp 1000000000000000000 2") ≡ Some (Crash Idp 1000000000000000000 Marked))
    × (step_of (codes "crash idp 1000000000000000001 2") ≡ None) × (step_of (codes "crash idp 1 3") ≡ None)
    × (step_of (codes "pair a a 65536") ≡ Some (Pair 97 97 65536)) × (step_of (codes "pair a a 65537") ≡ None)
    × (step_of (codes "fail sp 0") ≡ None)
numbers = (refl, refl, refl, refl, refl, refl, refl, refl)

-- a node is no agent, and words may be anything
words : (step_of (codes "leave b sp") ≡ Some (Leave 98 Sp)) × (step_of (codes "leave sp sp") ≡ None)
    × (step_of (codes "submit sp") ≡ None) × (step_of (codes "compact idp") ≡ Some (Compact Idp))
    × (step_of (codes "visit a x?y=") ≡ Some (Visit 97 (codes "x?y="))) × (step_of (codes "visit A /app") ≡ None)
    × (step_of (codes "fresh a b") ≡ None) × (step_of (codes "submit  a") ≡ None)
words = (refl, refl, refl, refl, refl, refl, refl, refl)

-- comments and empty lines are counted, and a schedule may have no step
texts : (schedule [] ≡ Ok []) × (schedule (codes "# c\n\nfresh a\nsubmit a") ≡ Ok (Fresh 97 ∷ Submit 97 ∷ []))
    × (schedule (codes "# c\n\nfresh a\nsubmit a \n") ≡ Err 4)
unfolding chars encode
texts = (refl, refl, refl)

-- two agents of three steps
named : agents (Pair 98 97 1 ∷ Fresh 97 ∷ Restart Sp ∷ []) ≡ 98 ∷ 97 ∷ []
named = refl

-- the first numbers behind 0
drawn : (next 0 ≡ 12345) × (next 12345 ≡ 1406932606) × (next 1406932606 ≡ 654583775)
drawn = (refl, refl, refl)

-- 12345 is odd and a multiple of 5
first_login : made 1 0
    ≡ Now 1704067201000 ∷ Fresh 97 ∷ Visit 97 (codes "/app") ∷ Submit 97
    ∷ Login 97 (codes "alice") (codes "password") ∷ Submit 97 ∷ Submit 97 ∷ []
first_login = refl
