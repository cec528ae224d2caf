-- What stays true of the disk from turn to turn.
use Rattle.std.specs.Prelude.{◌≡◌, List, [], ◌∷◌, Option, is_some, IsSome, IfSome}
use Rattle.std.specs.List.{AllByRecursion}
use Rattle.std.proofs.Common.{sym, ap, ◌∙◌, subst}
use Rattle.crash_disk.specs.Disk.{DiskState, MayLeave, image_of}
use Rattle.conn_table.specs.Table.{Table}
use Rattle.serve_loop.specs.Laws.{ADiskThatTellsGoesOnTelling, ADiskGoesOnReadingAnImage}
use Rattle.serve_loop.specs.Turns.{Asked, Turn, AreTold, Asks, Run, asked_by}
use Rattle.serve_loop.specs.Worlds.{NodeStep, NodeRules, World, IsAnswered}
use Rattle.serve_loop.proofs.Quiet.{Asking, Goes, Quiet, goes}

-- what stays true of the disk when a request is answered stays true from turn to turn
module _ {N : Type 0} (step : NodeStep N) (P : Option DiskState → Type 0) (stays : (asked : Asked N)
    (before after : World N) → Asks step asked before after → P before.disk → P after.disk) where
  same_disk : (before after : World N) → after.disk ≡ before.disk → P before.disk → P after.disk
  same_disk before after same holds = subst P (sym same) holds

  turn_keeps : (turn : Turn N) (before : World N) (new : Table) (after : World N)
      → Goes step before new after turn → P before.disk → P after.disk
  turn_keeps turn before new after (Quiet none same) holds =
      same_disk before after (ap (λ (w : World N). w.disk) same) holds
  turn_keeps turn before new after (Asking piece one old answers) holds = same_disk answers.told after
      (ap (λ (w : World N). w.disk) answers.sends.same) (stays one before answers.told answers.asks holds)

  pub run_keeps : (first : World N) (turns : List (Turn N)) (kept : Table) (last : World N)
      → Run step first turns kept last → P first.disk → P last.disk
  run_keeps first [] kept last run holds = same_disk first last (ap (λ (w : World N). w.disk) run.1) holds
  run_keeps first (turn ∷ past) kept last (old, before, given, did, next, does) holds =
      turn_keeps turn given kept last (goes step given kept last turn old does)
      (same_disk before given (ap (λ (w : World N). w.disk) next.same) (run_keeps first past old before did holds))

module _ {N : Type 0} (rules : NodeRules N) where
  abbrev Answering : NodeStep N
  Answering = IsAnswered rules

  -- the disk tells when this turn's request comes
  told_in : (turn : Turn N) (before : World N) (new : Table) (after : World N) → Goes Answering before new after turn
      → IsSome before.disk → AllByRecursion (λ (asked : Asked N). IsSome asked.disk) (asked_by turn)
  told_in turn before new after (Quiet none same) tells =
      subst (AllByRecursion (λ (asked : Asked N). IsSome asked.disk)) (sym none) tt
  told_in turn before new after (Asking piece one old answers) tells = (ap is_some answers.asks.disk ∙ tells, tt)

  last_tells : (first : World N) (turns : List (Turn N)) (kept : Table) (last : World N)
      → Run Answering first turns kept last → IsSome first.disk → IsSome last.disk
  last_tells = run_keeps Answering IsSome (λ asked before after asks tells. asks.answers.tells ∙ tells)

  are_told : (first : World N) (turns : List (Turn N)) (kept : Table) (last : World N)
      → Run Answering first turns kept last → IsSome first.disk → AreTold turns
  are_told first [] kept last run tells = tt
  are_told first (turn ∷ past) kept last (old, before, given, did, next, does) tells = (
    told_in turn given kept last (goes Answering given kept last turn old does)
        (ap is_some (ap (λ (w : World N). w.disk) next.same) ∙ last_tells first past old before did tells),
    are_told first past old before did tells,
  )

  pub goes_on_telling : ADiskThatTellsGoesOnTelling rules
  goes_on_telling first turns kept last run tells =
      (are_told first turns kept last run tells, last_tells first turns kept last run tells)

  pub goes_on_reading : ADiskGoesOnReadingAnImage rules
  goes_on_reading = run_keeps Answering
      (λ disk. IfSome disk (λ d. MayLeave d (image_of d))) (λ asked before after asks reads. asks.answers.reads_later)
