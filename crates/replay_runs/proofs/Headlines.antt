-- The whole sentence, over a run of the deployment.
use Rattle.std.specs.Prelude.{ℕ, Bool, Option, Result, Ok, Err}
use Rattle.std.proofs.Common.{◌≡◌, List, [], refl, subst, sym, ◌∙◌}
use Rattle.crash_disk.specs.Disk.{empty_image}
use Rattle.gate_journal.specs.Format.{file_of}
use Rattle.record_ledger.specs.Laws.{ImagesHoldRecords}
use Rattle.record_ledger.specs.Ledger.{Held, empty_ledger, ledger_in, taken}
use Rattle.record_ledger.specs.Rules.{RecordRules}
use Rattle.provider_node.specs.Starts.{AreStarts, Start}
use Rattle.provider_node.specs.Step.{AnswersBy, Provider}
use Rattle.request_ledger.specs.Record.{request_rules}
use Rattle.sp_server.specs.Step as sp
use Rattle.idp_ledger.specs.Record.{idp_rules}
use Rattle.idp_server.specs.Step as idp
use Rattle.schedules.specs.declared.step.Step.{Step}
use Rattle.schedule_replay.specs.declared.fault.ReplayFault.{ReplayFault}
use Rattle.schedule_replay.specs.declared.fault.ReplayFault.TheVariants.{NoMemory}
use Rattle.schedule_replay.specs.declared.tally.Tally.{Tally}
use Rattle.schedule_replay.specs.Deployments.{Deployment}
use Rattle.schedule_replay.specs.Runs.{Ends, Ran}
use Rattle.replay_starts.specs.Replayed.{AReplayIsStarts}
use Rattle.both_providers.specs.Together.{TheHeadlineHoldsOfBoth}
use Rattle.replay_runs.specs.Runs.{Begun, Carries, Goes, IsBeginning, NotBegun, idp_rules_of, sp_rules}

-- what two empty files are opened as
opens_empty : {R : Type 0} (rules : RecordRules R) → taken (ledger_in rules empty_image) ≡ Ok empty_ledger
unfolding file_of
opens_empty rules = refl

from_empty : {Setup R : Type 0} (rules : RecordRules R) (Answers : AnswersBy Setup R) (held : Held R)
    (starts : List (Start (Provider Setup R))) → taken (ledger_in rules empty_image) ≡ Ok held
    → AreStarts rules Answers held starts → AreStarts rules Answers empty_ledger starts
from_empty {R = R} rules Answers held starts opened are =
    let same : held ≡ empty_ledger = (let e = sym opened ∙ opens_empty rules in cc) in
    subst (λ (h : Held R). AreStarts rules Answers h starts) same are

module _ (headline : TheHeadlineHoldsOfBoth) where
  abbrev Went : List Step → Bool → Result Tally ReplayFault → (before after : Option (List ℕ)) → Type 0
  Went steps quiet result before after =
      (sp_starts : List (Start sp.Provider)) × (idp_starts : List (Start idp.Provider))
      × Goes steps quiet sp_starts idp_starts result before after × Carries sp_starts idp_starts

  pub not_begun : (steps : List Step) (quiet : Bool) (result : Result Tally ReplayFault) (before after : Option (List ℕ))
      → result ≡ Err NoMemory → after ≡ before → Went steps quiet result before after
  not_begun steps quiet result before after starved same =
      ([], [], NotBegun starved refl refl same, headline empty_ledger [] empty_ledger [] tt tt tt)

  pub begun : AReplayIsStarts request_rules sp.Answers idp_rules idp.Answers → ImagesHoldRecords request_rules
      → ImagesHoldRecords idp_rules → (steps : List Step) (quiet : Bool) (first : Deployment sp.Provider idp.Provider)
      (result : Result Tally ReplayFault) (before after : Option (List ℕ)) → IsBeginning first
      → (ran : Ran sp_rules idp_rules_of steps first) → Ends sp_rules idp_rules_of ran quiet result before after
      → Went steps quiet result before after
  begun law sp_hold idp_hold steps quiet first result before after begins ran ends =
      let (sp_starts, idp_starts, at_sp, at_idp) = law sp_hold idp_hold steps first empty_image empty_image
      (record { opened = begins.sp.opened; whole = begins.sp.whole; own = begins.sp.own })
      (record { opened = begins.idp.opened; whole = begins.idp.whole; own = begins.idp.own }) ran in (
        sp_starts,
        idp_starts,
        Begun first begins ran ends at_sp at_idp,
        headline empty_ledger sp_starts empty_ledger idp_starts tt
            (from_empty request_rules sp.Answers first.sp.node.ledger.held sp_starts begins.sp.opened at_sp.are)
            (from_empty idp_rules idp.Answers first.idp.node.ledger.held idp_starts begins.idp.opened at_idp.are),
      )
