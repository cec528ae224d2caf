-- The definitions at worked examples.
use Rattle.std.specs.Prelude.{◌≡◌, ℕ, true, false, List, [], ◌∷◌, codes, refl}
use Rattle.logout_turns.specs.declared.part.Part.{Part}
use Rattle.logout_fanout.specs.declared.round.Next.TheVariants.{Ask, Done}
use Rattle.logout_fanout.specs.Plan.{once, once_after, firsts, firsts_after}
use Rattle.logout_fanout.specs.Round.{next, after_answers, round_at}

abbrev part : List ℕ → List ℕ → Part
part peer index = record { peer = peer; name = codes "alice"; index = index }

each_once : once (codes "_2" ∷ codes "_1" ∷ codes "_2" ∷ []) ≡ codes "_2" ∷ codes "_1" ∷ []
unfolding once_after
each_once = refl

the_first_of_each : firsts (part (codes "b") (codes "_1") ∷ part (codes "a") (codes "_1") ∷ part (codes "b") (codes "_2") ∷ [])
    ≡ part (codes "b") (codes "_1") ∷ part (codes "a") (codes "_1") ∷ []
unfolding firsts_after
the_first_of_each = refl

-- three providers: two confirm, and the one between them does not
the_second_is_asked : next (after_answers (true ∷ []) (round_at 3 false 0 0)) ≡ Ask 1
the_second_is_asked = refl

one_did_not : next (after_answers (true ∷ false ∷ true ∷ []) (round_at 3 false 0 0)) ≡ Done true
one_did_not = refl

all_did : next (after_answers (true ∷ true ∷ true ∷ []) (round_at 3 false 0 0)) ≡ Done false
all_did = refl
