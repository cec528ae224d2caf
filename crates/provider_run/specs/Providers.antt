-- What a run of a provider does, of whatever role: it is set up by its config, opens its ledger, listens, and serves.
use Rattle.std.specs.Prelude.{◌≡◌, ◌≤◌, ℕ, false, List, Option, Some, is_some, IfSome, IsSomeAnd, IsOk, Result, Ok, Err}
use Rattle.std.specs.Option.{option_map}
use Rattle.saml_outside.specs.Files.{File}
use Rattle.crash_disk.specs.Counts.{Rose}
use Rattle.crash_disk.specs.Disk.{Image, DiskState, MayLeave, image_of}
use Rattle.event_link.specs.Links.{LinkState, ListenFailed, listening, noted}
use Rattle.serve_loop.specs.Turns.{Turn}
use Rattle.provider_run.specs.declared.ended.Ended.{Ended}
use Rattle.provider_run.specs.declared.ended.Ended.TheVariants as ends
use Rattle.provider_run.specs.declared.ended.RunFault.{RunFault}
use Rattle.provider_run.specs.declared.ended.RunFault.TheVariants as faults
use Rattle.provider_run.specs.Runs.{IsButTheDisk, Outside, RunsBy, RunLeavesBy}
use Rattle.provider_node.specs.Calls as calls
use Rattle.provider_node.specs.Calls.{Makes, OpeningLeaves}
use Rattle.provider_node.specs.Histories.{IsProviders}
use Rattle.provider_node.specs.Step.{AnswersBy, IsFound, OwnsDisk, Provider, StepLeaves}
use Rattle.record_ledger.specs.Rules.{RecordRules}
use Rattle.record_ledger.specs.Calls.{opening}
use Rattle.record_ledger.specs.Ledger.{ledger_in, taken}

-- What says that the config in a file sets a provider up as this, and that this is its first bad file with its line.
abbrev pub SetUpBy : Type 0 → Type 1
SetUpBy Setup = Option (List File) → (config : List ℕ) → Setup → Type 0

abbrev pub BadSetUpBy : Type 1
BadSetUpBy = Option (List File) → (config file : List ℕ) → (line : ℕ) → Type 0

module _ {Setup R : Type 0}
    (key : Setup → List ℕ) (rules : RecordRules R) (disk : Option DiskState) (provider : Provider Setup R) where
  -- A provider that draws IDs by this key, whose ledger is whole: that which is opened from the disk, as far as the
  -- disk tells.
  pub record IsStarted : Type 0 where
    pub key_is : provider.ledger.key ≡ key provider.setup
    pub whole : provider.ledger.broken ≡ false
    pub holds : IsFound rules disk provider.ledger.held

module _ {Setup R : Type 0} (SetsUp : SetUpBy Setup) (key : Setup → List ℕ) (rules : RecordRules R)
    (told : Option (List File)) (file : List ℕ) (before but_the_disk : Outside) (provider : Provider Setup R)
    (opened : Outside) where
  -- The config in this file sets such a provider up, its ledger was opened, by all calls of an opening on the disk and
  -- no other, and all but the disk is like this. From then on the disk is the provider's own; it tells as it did, reads
  -- as an image that it may leave, and its count of faults is as it was.
  pub record IsReady : Type 0 where
    pub set_up : SetsUp told file provider.setup
    pub started : IsStarted key rules before.disk provider
    pub opens : Makes (opening rules) before.disk opened.disk
    pub own : OwnsDisk rules provider opened.disk
    pub tells : is_some opened.disk ≡ is_some before.disk
    pub reads : IfSome opened.disk (λ d. MayLeave d (image_of d))
    pub disk_faults : opened.disk_faults ≡ before.disk_faults
    pub same : IsButTheDisk but_the_disk opened

module _ {Setup R : Type 0} (SetsUp : SetUpBy Setup) (address key : Setup → List ℕ) (rules : RecordRules R)
    (told : Option (List File)) (file : List ℕ) (before : Outside) (provider : Provider Setup R) where
  -- so it is once its ledger was opened: else all is as it was
  abbrev pub IsOpened : Outside → Type 0
  IsOpened opened = IsReady SetsUp key rules told file before before provider opened

  -- and so behind a call of `listen`: what the link tells is as this makes it, and else all but its count of faults is
  -- as it was
  abbrev pub IsHeard : (LinkState → LinkState) → Outside → Type 0
  IsHeard made now = let link = option_map made before.link in
      IsReady SetsUp key rules told file before (record before { link = link; link_faults = now.link_faults }) provider now

  -- the link could not listen at its address
  abbrev pub IsDeaf : Outside → Type 0
  IsDeaf after = IsHeard (noted (ListenFailed (address provider.setup))) after

  -- it begins to serve: the link listens at its address
  abbrev pub Begins : Outside → Type 0
  Begins begun = IsHeard (listening (address provider.setup)) begun

-- Why no ledger was opened: what the disk holds is none, and this is the fault that it has, as far as the disk tells;
-- the disk failed; there was no memory. Where the disk did not fail, its count of faults is as it was.
abbrev pub OpeningFails : {R : Type 0} → RecordRules R → Outside → Outside → Result Ended RunFault → Type 0
OpeningFails rules before after (Ok (ends.Foreign file place)) =
    IfSome before.disk (λ d. taken (ledger_in rules (image_of d)) ≡ Err (record { file = file; place = place }))
    × (after.disk_faults ≡ before.disk_faults)
OpeningFails rules before after (Err faults.DiskFault) = Rose before.disk_faults after.disk_faults
OpeningFails rules before after (Err faults.NoMemory) = after.disk_faults ≡ before.disk_faults
OpeningFails rules before after other = ⊥

module _ {Setup R : Type 0} (SetsUp : SetUpBy Setup) (rules : RecordRules R)
    (told : Option (List File)) (file : List ℕ) (before after : Outside) (result : Result Ended RunFault) where
  -- The config in this file sets a provider up, and its ledger is not opened: no more than a beginning of the calls of
  -- an opening was made.
  pub record IsNotOpened : Type 0 where
    pub setup : Setup
    pub set_up : SetsUp told file setup
    pub fails : OpeningFails rules before after result
    pub calls : calls.Begins (opening rules) before.disk after.disk

module _ {Setup R : Type 0} (SetsUp : SetUpBy Setup) (IsBad : BadSetUpBy) (address key : Setup → List ℕ)
    (rules : RecordRules R) (Answers : AnswersBy Setup R) (left : ℕ → Image → Type 0) (told : Option (List File))
    (file : List ℕ) (budget : ℕ) (before : Outside) (turns : List (Turn (Provider Setup R)))
    (result : Result Ended RunFault) (after : Outside) where
  -- How a run by the config in this file goes, with this budget of events: the turns of its provider, and what the run
  -- comes to. `left` says of each moment, seen from the end of the run, what a crash since then might have left.
  abbrev pub Runs : Type 0
  Runs = RunsBy (IsProviders rules Answers) (StepLeaves rules Answers) left (IsBad told file)
      (IsNotOpened SetsUp rules told file before) (IsDeaf SetsUp address key rules told file before)
      (Begins SetsUp address key rules told file before) budget before turns result after

module _ {Setup R : Type 0} (rules : RecordRules R) (Answers : AnswersBy Setup R) where
  -- What a crash at a moment of a run may leave: what one inside the opening of the ledger may, or one inside the
  -- answer to a request.
  abbrev pub RunLeaves : Option DiskState → List (Turn (Provider Setup R)) → Image → Type 0
  RunLeaves disk turns image = RunLeavesBy (OpeningLeaves rules disk) (StepLeaves rules Answers) turns image

module _ {Setup R : Type 0} (SetsUp : SetUpBy Setup)
    (rules : RecordRules R) (told : Option (List File)) (file : List ℕ) (disk : Option DiskState) where
  -- A provider can be run: the files tell, its config sets it up, and the disk tells that it holds a ledger, or no
  -- journal yet.
  pub record IsRunnable : Type 0 where
    pub files : List File
    pub tells : told ≡ Some files
    pub setup : Setup
    pub set_up : SetsUp (Some files) file setup
    pub holds : IsSomeAnd disk (λ d. IsOk (ledger_in rules (image_of d)))
