-- The definitions at worked examples.
use Rattle.std.specs.Prelude.{◌≡◌, true, false, [], ◌∷◌, ◌++◌, None, Some, codes, refl}
use Rattle.verdict_codes.specs.declared.codes.Verdict.TheVariants.{WrongIssuer, NotOneAssertion, RequestSpent}
use Rattle.sp_rules.specs.declared.config.NextKey.{NextKey}
use Rattle.sp_rules.specs.Keys.{first_key, second_key}
use Rattle.sp_rules.specs.Meant.{is_if_any, is_destination, is_before_with, is_from_with}
use Rattle.sp_rules.specs.Outstanding.{is_relayed}
use Rattle.sp_rules.specs.Shown.{session_end}
use Rattle.sp_rules.specs.Verdict.{number_refusal, first_failing}

-- a key that takes over from 10 on, and alone from 20 on
next : NextKey
next = record { key = 2 ∷ []; from = 10; until = 20 }

keys : (first_key (1 ∷ []) (Some next) 9 ++ second_key (Some next) 9 ≡ record { number = 1; bytes = 1 ∷ [] } ∷ [])
    × (first_key (1 ∷ []) (Some next) 10 ++ second_key (Some next) 10 ≡ record { number = 1; bytes = 1 ∷ [] } ∷ record { number = 2; bytes = 2 ∷ [] } ∷ [])
    × (first_key (1 ∷ []) (Some next) 20 ++ second_key (Some next) 20 ≡ record { number = 2; bytes = 2 ∷ [] } ∷ [])
unfolding next
keys = (refl, refl, refl)

-- an end at 00:05:00 with a skew of a minute, and a start at 00:00:00
moments : (is_before_with 60000 1704067559999 (Some 1704067500000) ≡ true) × (is_before_with 60000 1704067560000 (Some 1704067500000) ≡ false)
    × (is_from_with 60000 1704067140000 (Some 1704067200000) ≡ true) × (is_from_with 60000 1704067139999 (Some 1704067200000) ≡ false)
    × (is_before_with 60000 1704067560000 None ≡ true)
moments = (refl, refl, refl, refl, refl)

-- a signed Response has to name its Destination, and an empty one names nothing
destinations : (is_destination (codes "a") false None ≡ true) × (is_destination (codes "a") true None ≡ false) × (is_destination (codes "a") true (Some []) ≡ false)
    × (is_destination (codes "a") true (Some (codes "a")) ≡ true) × (is_destination (codes "a") false (Some (codes "b")) ≡ false)
destinations = (refl, refl, refl, refl, refl)

-- an InResponseTo that stands and is empty is another one
texts : (is_if_any (codes "_r1") None ≡ true) × (is_if_any (codes "_r1") (Some []) ≡ false) × (is_if_any (codes "_r1") (Some (codes "_r1")) ≡ true)
texts = (refl, refl, refl)

-- a relay that is not there is not the one that was given
relays : is_relayed None None ≡ false
relays = refl

-- the first condition that fails
first : (first_failing ((true, WrongIssuer) ∷ (false, RequestSpent) ∷ (false, WrongIssuer) ∷ []) ≡ Some RequestSpent) × (first_failing ((true, WrongIssuer) ∷ []) ≡ None)
first = (refl, refl)

numbers : (number_refusal [] ≡ Some NotOneAssertion) × (number_refusal (3 ∷ []) ≡ None) × (number_refusal (3 ∷ 9 ∷ []) ≡ Some NotOneAssertion)
numbers = (refl, refl, refl)

-- a session ends after eight hours, or when the identity provider says
ends : (session_end 1704067200000 None ≡ 1704096000000) × (session_end 1704067200000 (Some 1704067200001) ≡ 1704067200001)
ends = (refl, refl)
