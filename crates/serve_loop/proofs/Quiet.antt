-- What a turn does to the node, by whether it asks the node: an induction over turns has two cases, not nine.
use Rattle.std.specs.Prelude.{◌≡◌, List, []}
use Rattle.std.proofs.Common.{refl, sym, subst}
use Rattle.conn_table.specs.Table.{Table}
use Rattle.serve_loop.specs.Turns.{Answered, Answers, Asked, Does, Full, Over, Refused, StarvedPiece, StarvedStart}
use Rattle.serve_loop.specs.Turns.{Taken, Turn, Unknown, Waiting, asked_by}
use Rattle.serve_loop.specs.Worlds.{NodeStep, World}

module _ {N : Type 0} where
  -- all but the link is as it was
  abbrev pub IsButTheLink : (before after : World N) → Type 0
  IsButTheLink before after = after ≡ record before { link = after.link; send_faults = after.send_faults }

  but_same : (before after : World N) → after ≡ before → IsButTheLink before after
  but_same before after same = subst (IsButTheLink before) (sym same) refl

module _ {N : Type 0} (step : NodeStep N) (before : World N) (new : Table) (after : World N) where
  -- it asks nothing, and all but the link stays; or it is the answer to one request
  pub data Goes : Turn N → Type 0 where
    Quiet : {turn : Turn N} → asked_by turn ≡ [] → IsButTheLink before after → Goes turn
    Asking : (piece : List _) (one : Asked N) (old : Table)
        → Answers step old before one new after → Goes (Answered piece one)

  pub goes : (turn : Turn N) (old : Table) → Does step old before turn new after → Goes turn
  goes (Taken conn) old does = Quiet refl (but_same before after does.1)
  goes (Full conn) old does = Quiet refl does.1.same
  goes (StarvedStart conn) old does = Quiet refl does.1.same
  goes (Over conn) old does = Quiet refl (but_same before after does.1)
  goes (Unknown conn piece) old does = Quiet refl (but_same before after does.1)
  goes (Waiting conn piece) old does = Quiet refl (but_same before after does.1)
  goes (Answered piece one) old does = Asking piece one does.0 does.2
  goes (Refused conn piece status) old does = Quiet refl does.2.sends.same
  goes (StarvedPiece conn piece) old does = Quiet refl does.2.sends.same
