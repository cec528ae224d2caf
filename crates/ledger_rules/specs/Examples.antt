-- The definitions at worked examples.
use Rattle.std.specs.Prelude.{◌≡◌, ℕ, ◌-◌, ◌^◌, ◌==◌, Bool, true, false, List, [], ◌∷◌, ◌++◌, codes, Option, None, Some, refl}
use mathlib.Core.Logic.{inl, inr}
use Rattle.std.specs.Str.{chars}
use Rattle.hex.specs.Hex.{encode_with}
use Rattle.ledger_rules.specs.Numbers.{Drawn, number_text, has_number, above, are_fresh, is_xml_text}
use Rattle.std.proofs.Common.{lit<}
use Rattle.ledger_rules.specs.Kept.{IsKept, is_link, along, AreOrdered, selected}

three : number_text 3 ≡ codes "_0000000000000003"
unfolding encode_with
three = refl

-- an ID that begins with it, one of another number, one in other digits, and one that is too short
begins : (has_number 3 (codes "_0000000000000003af") ≡ true) × (has_number 3 (codes "_0000000000000004af") ≡ false)
    × (has_number 171 (codes "_00000000000000AB") ≡ false) × (has_number 3 (codes "_000000000000003") ≡ false)
unfolding has_number encode_with
begins = (refl, refl, refl, refl)

-- an ID of a number, that number and nothing behind it
abbrev drawn : ℕ → Drawn
drawn n = record { number = n; id = number_text n }

least_above : (above [] ≡ 0) × (above (drawn 4 ∷ drawn 9 ∷ drawn 7 ∷ []) ≡ 10)
least_above = (refl, refl)

-- the last number is one below the end, and none is less than the least one that is free
fresh : (are_fresh 5 (drawn 5 ∷ drawn 6 ∷ []) ≡ true) × (are_fresh 5 (drawn 5 ∷ drawn 4 ∷ []) ≡ false)
    × (are_fresh 5 (drawn (2 ^ 63 - 1) ∷ []) ≡ true) × (are_fresh 5 (drawn (2 ^ 63) ∷ []) ≡ false)
    × (are_fresh 5 (record { number = 5; id = number_text 6 } ∷ []) ≡ false)
unfolding has_number encode_with
fresh = (refl, refl, refl, refl, refl)

-- a document may hold no character 1 (XML 1.0, 2.2)
xml_texts : (is_xml_text (codes "a" ++ 195 ∷ 164 ∷ []) ≡ true) × (is_xml_text (codes "a" ++ 1 ∷ []) ≡ false)
unfolding is_xml_text chars lib.Utf8.encode
xml_texts = (refl, refl)

-- of three records the first is linked to the second
abbrev links : List (Option ℕ)
links = Some 1 ∷ None ∷ None ∷ []

-- links lead from it to the second, and from the others nowhere else
led : (along links 1 0 ≡ 1) × (along links 2 0 ≡ 1) × (along links 5 2 ≡ 2)
led = (refl, refl, refl)

-- two records are not linked to each other
no_circle : ¬ (AreOrdered (Some 1 ∷ Some 0 ∷ []))
no_circle ordered = ordered.start 1 0 0 refl (lit< tt) refl

-- where the second has a visible row it is kept, and by one step the first
abbrev seen : ℕ → Bool
seen k = k == 1

first_kept : IsKept seen (is_link links) 0 × IsKept seen (is_link links) 1
unfolding is_link
first_kept = ((1, inr (1, inl refl, refl)), (0, refl))

kept_items : selected (true ∷ true ∷ false ∷ []) (codes "abc") ≡ codes "ab"
kept_items = refl
