-- That the disk's count of faults never falls from turn to turn, and rises only at those that are answered by 50.
use Rattle.std.specs.Prelude.{◌≡◌, ◌≢◌, ◌≤◌, [], ◌∷◌}
use Rattle.std.specs.List.{AllByRecursion}
use Rattle.std.proofs.Common.{ap, arith, ◌∙◌}
use Rattle.http_wire.specs.declared.answer.Answer.TheVariants.{Fixed}
use Rattle.conn_table.specs.Table.{Table}
use Rattle.serve_loop.specs.Laws.{FaultsAreAnswered, FaultsNeverFall}
use Rattle.serve_loop.specs.Turns.{Turn, asked_by}
use Rattle.serve_loop.specs.Worlds.{NodeStep, World}
use Rattle.serve_loop.proofs.Quiet.{Asking, Goes, Quiet, goes}

module _ {N : Type 0} (step : NodeStep N) where
  turn_counts : (turn : Turn N) (before : World N) (new : Table) (after : World N)
      → Goes step before new after turn → before.disk_faults ≤ after.disk_faults
  turn_counts turn before new after (Quiet none same) = omega (arith, ap (λ (w : World N). w.disk_faults) same)
  turn_counts turn before new after (Asking piece one old answers) =
      omega (arith, answers.asks.disk_faults.never_falls, ap (λ (w : World N). w.disk_faults) answers.sends.same)

  turn_keeps : (turn : Turn N) (before : World N) (new : Table) (after : World N) → Goes step before new after turn
      → AllByRecursion (λ asked. asked.answer ≢ Fixed 50) (asked_by turn) → after.disk_faults ≡ before.disk_faults
  turn_keeps turn before new after (Quiet none same) well = ap (λ (w : World N). w.disk_faults) same
  turn_keeps turn before new after (Asking piece one old answers) well =
      ap (λ (w : World N). w.disk_faults) answers.sends.same ∙ answers.asks.disk_faults.kept well.0

  pub faults_are_answered : FaultsAreAnswered step
  faults_are_answered first [] kept last run well = ap (λ (w : World N). w.disk_faults) run.1
  faults_are_answered first (turn ∷ past) kept last (old, before, given, did, next, does) well =
      turn_keeps turn given kept last (goes step given kept last turn old does) well.0
      ∙ ap (λ (w : World N). w.disk_faults) next.same ∙ faults_are_answered first past old before did well.1

  pub faults_never_fall : FaultsNeverFall step
  faults_never_fall first [] kept last run = omega (arith, ap (λ (w : World N). w.disk_faults) run.1)
  faults_never_fall first (turn ∷ past) kept last (old, before, given, did, next, does) = omega (
    arith,
    faults_never_fall first past old before did,
    ap (λ (w : World N). w.disk_faults) next.same,
    turn_counts turn given kept last (goes step given kept last turn old does),
  )
