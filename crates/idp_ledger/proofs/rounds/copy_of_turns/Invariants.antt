use Rattle.std.proofs.Common.{◌≡◌, take}
use Rattle.idp_ledger.proofs.rounds.copy_of_turns.Given as goal

-- the turns before the index are copied
abbrev pub invariant-loop-turn : goal.invariant-loop-turn
invariant-loop-turn l = l.copy ≡ take l.turn-index l.turns
