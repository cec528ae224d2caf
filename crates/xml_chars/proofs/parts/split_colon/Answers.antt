use Rattle.std.proofs.Common.{◌≡◌, ◌≢◌, ◌==◌, ℕ, suc, ◌<◌, List, [], ◌∷◌, ◌++◌, length, get_or, Option, Some, None, MatchOption, Bor, sym, refl, ap, ◌∙◌, arith}
use Rattle.std.specs.Option.{option_map}
use Rattle.std.proofs.lemmas.Bool.{cond-false, ne_eqb}
use Rattle.std.proofs.lemmas.Str.Pattern.{split_parts}
use Rattle.xml_spec.specs.Characters.{at_colon}
use Rattle.xml_chars.proofs.parts.split_colon.Goals as goal

abbrev Parts : Type 0
Parts = List ℕ × List ℕ

none_at_colon : (name : List ℕ) → ((i : ℕ) → i < length name → get_or name i 0 ≢ 58) → at_colon name ≡ None
none_at_colon [] h = refl
none_at_colon (b ∷ name) h =
    let here : b ≢ 58 = h 0 (omega arith) in
    cond-false (b == 58) _ _ (ne_eqb b 58 here)
    ∙ ap (option_map (λ (parts : Parts). (b ∷ parts.0, parts.1))) (none_at_colon name (λ i less. h (suc i) (omega arith)))

found_at_colon : (front back : List ℕ) → ((i : ℕ) → i < length front → get_or front i 0 ≢ 58) → at_colon (front ++ 58 ∷ back) ≡ Some (front, back)
found_at_colon [] back h = refl
found_at_colon (b ∷ front) back h =
    let here : b ≢ 58 = h 0 (omega arith) in
    cond-false (b == 58) _ _ (ne_eqb b 58 here)
    ∙ ap (option_map (λ (parts : Parts). (b ∷ parts.0, parts.1))) (found_at_colon front back (λ i less. h (suc i) (omega arith)))

by_parts : (name : List ℕ) (r : Option (Bor (List ℕ) × Bor (List ℕ))) →
    MatchOption r ((i : ℕ) → i < length name → get_or name i 0 ≢ 58)
    (λ x. (name ≡ x.0.now ++ (58 ∷ x.1.now)) × ((i : ℕ) → i < length x.0.now → get_or x.0.now i 0 ≢ 58)) →
    option_map (λ parts. (parts.0.now, parts.1.now)) r ≡ at_colon name
by_parts name None h = sym (none_at_colon name h)
by_parts name (Some x) h = sym (ap at_colon h.0 ∙ found_at_colon x.0.now x.1.now h.1)

pub returns : goal.returns
returns c =
    by_parts c.args.name.now c.split_once.result
    (split_parts 58 c.args.name.now c.split_once.result c.split_once.ensures.cases (omega arith))
