-- A node that can be run serves, where no fault keeps it from that.
use Rattle.std.proofs.Common.{◌≡◌, ◌≢◌, ◌⊎◌, ℕ, List, Option, None, Some, IfSome, IsSomeAnd, IsOk, Result, Ok, Err, inl}
use Rattle.std.proofs.Common.{inr, refl, sym, subst}
use Rattle.saml_outside.specs.Files.{File}
use Rattle.crash_disk.specs.Disk.{DiskState, Image, image_of}
use Rattle.gate_journal.specs.Format.{Fault}
use Rattle.serve_loop.specs.declared.served.Served.{Served}
use Rattle.serve_loop.specs.declared.served.ServeFault.{ServeFault}
use Rattle.serve_loop.specs.declared.served.ServeFault.TheVariants as serve_faults
use Rattle.serve_loop.specs.Turns.{Turn}
use Rattle.serve_loop.specs.Worlds.{NodeStep, NodeLeaves}
use Rattle.provider_run.specs.declared.ended.Ended.{Ended}
use Rattle.provider_run.specs.declared.ended.Ended.TheVariants as ends
use Rattle.provider_run.specs.declared.ended.RunFault.{RunFault}
use Rattle.provider_run.specs.declared.ended.RunFault.TheVariants as faults
use Rattle.provider_run.specs.Runs.{Outside, result_of, RunsBy, BadSetUp, NotSetUp, NotOpened, Deaf, Serving, IsServed}
use Rattle.provider_run.specs.Providers.{BadSetUpBy, Begins, IsDeaf, IsNotOpened, IsRunnable, OpeningFails, Runs, SetUpBy}
use Rattle.provider_node.specs.Histories.{IsProviders}
use Rattle.provider_node.specs.Step.{AnswersBy, Provider, StepLeaves}
use Rattle.record_ledger.specs.Ledger.{Held, ledger_in, taken}
use Rattle.record_ledger.specs.Rules.{RecordRules}

serving : (result : Result Ended RunFault) → result ≢ Err faults.LinkFault
    → (served : Result Served ServeFault) → result ≡ result_of served → IsServed result ⊎ (result ≡ Err faults.NoMemory)
serving result unlinked (Ok served) e = inl (subst IsServed (sym e) tt)
serving result unlinked (Err serve_faults.LinkFault) e = absurd (unlinked e)
serving result unlinked (Err serve_faults.NoMemory) e = inr e

-- no file is bad, the ledger is not opened for want of memory alone, and the link does not fail
module _ {N : Type 0} (step : NodeStep N) (leaves : NodeLeaves N) (left : ℕ → Image → Type 0) (IsBadFile : List ℕ
    → ℕ → Type 0) (IsNotOpened : Outside → Result Ended RunFault → Type 0) (IsDeaf Begins : N → Outside → Type 0)
    (budget : ℕ) (before after : Outside) (turns : List (Turn N)) (result : Result Ended RunFault) (unread : result
    ≢ Err faults.ReadFault) (unlinked : result ≢ Err faults.LinkFault) (none : (bad : List ℕ) (line : ℕ) →
    ¬ (IsBadFile bad line)) (opens : IsNotOpened after result → IsServed result ⊎ (result ≡ Err faults.NoMemory)) where
  complete_by : RunsBy step leaves left IsBadFile IsNotOpened IsDeaf Begins budget before turns result after
      → IsServed result ⊎ (result ≡ Err faults.NoMemory)
  complete_by (BadSetUp bad line is e bare same) = absurd (none bad line is)
  complete_by (NotSetUp (inl e) bare same) = absurd (unread e)
  complete_by (NotSetUp (inr e) bare same) = inr e
  complete_by (NotOpened why bare same) = opens why
  complete_by (Deaf node deaf e rose bare) = absurd (unlinked e)
  complete_by (Serving node last opened served begins serves e) = serving result unlinked served e

-- ---- a provider

not_foreign : {R : Type 0} (found : Result (Option (Held R)) Fault) (fault : Fault)
    → IsOk found → taken found ≡ Err fault → ⊥
not_foreign (Ok None) fault ok e = cc
not_foreign (Ok (Some held)) fault ok e = cc
not_foreign (Err other) fault ok e = cc

held_not_foreign : {R : Type 0} (rules : RecordRules R) (disk : Option DiskState) (fault : Fault) → IsSomeAnd disk
    (λ d. IsOk (ledger_in rules (image_of d))) → IfSome disk (λ d. taken (ledger_in rules (image_of d)) ≡ Err fault) → ⊥
held_not_foreign rules None fault holds foreign = holds
held_not_foreign rules (Some d) fault holds foreign = not_foreign (ledger_in rules (image_of d)) fault holds foreign

-- told files never set a provider up and fail to
abbrev pub NeverBoth : {Setup : Type 0} → SetUpBy Setup → BadSetUpBy → Type 0
NeverBoth {Setup} SetsUp IsBad = (files : List File) (config : List ℕ) (one : Setup) (file : List ℕ) (line : ℕ)
    → SetsUp (Some files) config one → ¬ (IsBad (Some files) config file line)

module _ {Setup R : Type 0} (SetsUp : SetUpBy Setup) (IsBad : BadSetUpBy) (address key : Setup → List ℕ) (rules : RecordRules R)
    (Answers : AnswersBy Setup R) (result : Result Ended RunFault) (unread : result ≢ Err faults.ReadFault)
    (undisked : result ≢ Err faults.DiskFault) (unlinked : result ≢ Err faults.LinkFault) where
  not_opened : (before after : Outside) (known : Result Ended RunFault)
      → known ≡ result → IsSomeAnd before.disk (λ d. IsOk (ledger_in rules (image_of d)))
      → OpeningFails rules before after known → IsServed result ⊎ (result ≡ Err faults.NoMemory)
  not_opened before after (Ok (ends.BadFile file line)) e holds why = absurd why
  not_opened before after (Ok (ends.Foreign file place)) e holds why =
      absurd (held_not_foreign rules before.disk _ holds why.0)
  not_opened before after (Ok (ends.Served served)) e holds why = absurd why
  not_opened before after (Err faults.ReadFault) e holds why = absurd why
  not_opened before after (Err faults.DiskFault) e holds why = absurd (undisked (sym e))
  not_opened before after (Err faults.LinkFault) e holds why = absurd why
  not_opened before after (Err faults.NoMemory) e holds why = inr (sym e)

  pub complete : NeverBoth SetsUp IsBad
      → (left : ℕ → Image → Type 0) (told : Option (List File)) (file : List ℕ) (budget : ℕ) (before after : Outside)
      (turns : List (Turn (Provider Setup R))) → IsRunnable SetsUp rules told file before.disk → Runs SetsUp IsBad address key
      rules Answers left told file budget before turns result after → IsServed result ⊎ (result ≡ Err faults.NoMemory)
  complete law left told file budget before after turns can runs =
      complete_by (IsProviders rules Answers) (StepLeaves rules Answers) left (IsBad told file) (IsNotOpened SetsUp
      rules told file before) (IsDeaf SetsUp address key rules told file before)
      (Begins SetsUp address key rules told file before) budget before after turns result unread
      unlinked (λ bad line is. law can.files file can.setup bad line can.set_up (subst (λ (o : Option (List File)).
      IsBad o file bad line) can.tells is)) (λ not. not_opened before after result refl can.holds not.fails) runs
