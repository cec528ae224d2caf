-- The definitions at worked examples.
use Rattle.std.specs.Prelude.{◌≡◌, true, false, [], ◌∷◌, None, Some, Ok, Err, codes, refl}
use Rattle.std.specs.Str.{chars, is_utf8}
use lib.Utf8.{encode}
use Rattle.access_policy.specs.declared.rule.Condition.TheVariants.{Has, Lacks, User}
use Rattle.access_policy.specs.Conditions.{unescaped, text_of}
use Rattle.access_policy.specs.Decide.{holds, matches, decide}
use Rattle.access_policy.specs.Line.{pattern_of, rule_of}
use Rattle.access_policy.specs.Rules.{policy}

-- a value is one of some attribute of its name; names compare with case
has_reader : (holds (codes "alice") (record { name = codes "role"; values = codes "reader" ∷ [] } ∷ []) (Has (codes "role") (codes "reader")) ≡ true)
    × (holds (codes "alice") [] (Has (codes "role") (codes "reader")) ≡ false)
    × (holds (codes "alice") (record { name = codes "Role"; values = codes "reader" ∷ [] } ∷ []) (Has (codes "role") (codes "reader")) ≡ false)
has_reader = (refl, refl, refl)

lacks_reader : (holds (codes "alice") [] (Lacks (codes "role") (codes "reader")) ≡ true)
    × (holds (codes "alice") (record { name = codes "role"; values = codes "writer" ∷ codes "reader" ∷ [] } ∷ []) (Lacks (codes "role") (codes "reader")) ≡ false)
lacks_reader = (refl, refl)

user_alice : (holds (codes "alice") [] (User (codes "alice")) ≡ true) × (holds (codes "Alice") [] (User (codes "alice")) ≡ false)
user_alice = (refl, refl)

-- a star stands for what is below a path, and not for the path
patterns : (pattern_of (codes "/app/*") ≡ Some (record { path = codes "/app/"; is_prefix = true })) × (pattern_of (codes "/app/x") ≡ Some (record { path = codes "/app/x"; is_prefix = false }))
    × (pattern_of (codes "/app*") ≡ None) × (pattern_of (codes "/app/x*") ≡ None) × (pattern_of (codes "/app/*/*") ≡ None) × (pattern_of (codes "/apps") ≡ None)
patterns = (refl, refl, refl, refl, refl, refl)

below : (matches (codes "/app/") (record { path = codes "/app/"; is_prefix = true }) ≡ true) × (matches (codes "/app") (record { path = codes "/app/"; is_prefix = true }) ≡ false)
below = (refl, refl)

-- `\` and two digits stand for a byte
escapes : (unescaped (codes "a\\5cb") ≡ Some (codes "a\\b")) × (unescaped (codes "\\4A") ≡ None) × (unescaped (codes "\\4") ≡ None) × (unescaped (codes "\\") ≡ None)
    × (unescaped (codes "\\ff") ≡ Some (255 ∷ []))
escapes = (refl, refl, refl, refl, refl)

-- what they stand for is UTF-8
utf8 : (text_of (codes "\\c3\\bc") ≡ Some (195 ∷ 188 ∷ [])) × (text_of (codes "\\ff") ≡ None)
unfolding is_utf8 chars encode
utf8 = (refl, refl)

a_rule : (rule_of (codes "staff allow /app/* user al\\69ce") ≡ Some (record { name = codes "staff"; allows = true; pattern = record { path = codes "/app/"; is_prefix = true }; conditions = User (codes "alice") ∷ [] }))
    × (rule_of (codes "default allow /app") ≡ None) × (rule_of (codes "a permit /app") ≡ None) × (rule_of (codes "a allow /app has role") ≡ None)
unfolding is_utf8 chars encode
a_rule = (refl, refl, refl, refl)

-- of two rules of a name the later line is bad
doubled : (policy (codes "a deny /app\n# c\na deny /app\n") ≡ Err 3) × (policy (codes "a deny /app\nx\n") ≡ Err 2)
unfolding chars encode
doubled = (refl, refl)

-- without rules all is denied
no_rules : (policy [] ≡ Ok []) × (decide [] (codes "/app") (codes "alice") [] ≡ record { allowed = false; rule = codes "default" })
no_rules = (refl, refl)
