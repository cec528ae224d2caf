-- A round: the providers of a plan are asked in turn, and each answers that it confirms or not.
use Rattle.std.specs.Prelude.{◌≡◌, ℕ, ◌+◌, ◌<◌, Bool, not, ◌||◌, nat_lt, List, [], ◌∷◌, length, if◌then◌else◌}
use Rattle.std.specs.List.{list_all}
use Rattle.logout_fanout.specs.declared.round.Next.{Next}
use Rattle.logout_fanout.specs.declared.round.Next.TheVariants.{Ask, Done}

-- how many turns there are, whether a provider could not be asked, how many answered, and how many of these confirmed
pub record RoundView : Type 0 where
  pub turns : ℕ
  pub skipped : Bool
  pub told : ℕ
  pub confirmed : ℕ

-- a round behind so many answers, of which so many confirmed
abbrev pub round_at : (turns : ℕ) (skipped : Bool) (told confirmed : ℕ) → RoundView
round_at turns skipped told confirmed = record { turns = turns; skipped = skipped; told = told; confirmed = confirmed }

-- a round behind one answer more
abbrev pub after_answer : (confirms : Bool) → RoundView → RoundView
after_answer confirms round = record round { told = round.told + 1; confirmed = if confirms then round.confirmed + 1 else round.confirmed }

-- What follows: while a turn is left its provider is asked. SAML Core, 3.2.2.2, PartialLogout: the authority could not "propagate the
-- logout request to all other session participants": one was skipped, or did not confirm.
abbrev pub next : RoundView → Next
next round =
    if nat_lt round.told round.turns then Ask round.told
    else Done (round.skipped || nat_lt round.confirmed round.turns)

-- a round behind these answers
abbrev pub after_answers : List Bool → RoundView → RoundView
after_answers [] round = round
after_answers (confirms ∷ answers) round = after_answers answers (after_answer confirms round)

-- Behind an answer of each provider the round is done, and it is partial where one was skipped or one did not confirm, and only there.
abbrev pub SucceedsWhereEachConfirms : Type 0
SucceedsWhereEachConfirms =
    (skipped : Bool) (answers : List Bool)
    → next (after_answers answers (round_at (length answers) skipped 0 0)) ≡ Done (skipped || not (list_all (λ confirms. confirms) answers))

-- Before that the provider at the place of the next answer is asked, so each is asked once and in order.
abbrev pub AsksInOrder : Type 0
AsksInOrder =
    (turns : ℕ) (skipped : Bool) (answers : List Bool) → length answers < turns
    → next (after_answers answers (round_at turns skipped 0 0)) ≡ Ask (length answers)
