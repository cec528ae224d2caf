-- How a run goes on once a node was started.
use Rattle.std.proofs.Common.{◌≡◌, ◌⊎◌, ℕ, List, [], Option, Result, ap, ◌∙◌, inl, inr}
use Rattle.std.specs.Option.{option_map}
use Rattle.saml_outside.specs.Files.{File}
use Rattle.crash_disk.specs.Disk.{Image}
use Rattle.crash_disk.specs.Moments.{DiskShown}
use Rattle.event_link.specs.Links.{LinkShown, LinkState}
use Rattle.serve_loop.specs.declared.served.Served.{Served}
use Rattle.serve_loop.specs.declared.served.ServeFault.{ServeFault}
use Rattle.serve_loop.specs.Serving.{Serves}
use Rattle.serve_loop.specs.Turns.{Turn}
use Rattle.serve_loop.specs.Worlds.{NodeStep, NodeLeaves}
use Rattle.provider_run.specs.declared.ended.Ended.{Ended}
use Rattle.provider_run.specs.declared.ended.RunFault.{RunFault}
use Rattle.provider_node.specs.Step.{Provider}
use Rattle.record_ledger.specs.Rules.{RecordRules}
use Rattle.provider_run.specs.Providers.{IsHeard, IsOpened, SetUpBy}
use Rattle.provider_run.specs.Runs.{Outside, outside, world_of, RunsBy, BadSetUp, NotSetUp, NotOpened, Deaf, Serving}

-- A call of `listen` changes what the link tells in this way, and its count of faults. So it is from then on.
module _ {Setup R : Type 0} (SetsUp : SetUpBy Setup) (address key : Setup → List ℕ) (rules : RecordRules R)
    (told : Option (List File)) (file : List ℕ) (before : Outside) (provider : Provider Setup R)
    (disk : DiskShown) (old new : LinkShown) (clock : Option (List ℕ)) (made : LinkState → LinkState) where
  only_heard : new.told ≡ option_map made old.told → new.send_faults ≡ old.send_faults
      → outside disk new clock ≡ record (outside disk old clock) { link = option_map made old.told; link_faults = new.faults }
  only_heard listens sends = ap (λ (l : Option LinkState). record (outside disk new clock) { link = l }) listens
      ∙ ap (λ (n : ℕ). record (outside disk new clock) { link = option_map made old.told; send_faults = n }) sends

  pub ready_then : IsOpened SetsUp address key rules told file before provider (outside disk old clock)
      → new.told ≡ option_map made old.told → new.send_faults ≡ old.send_faults
      → IsHeard SetsUp address key rules told file before provider made (outside disk new clock)
  ready_then opens listens sends = record {
    set_up = opens.set_up;
    started = opens.started;
    opens = opens.opens;
    own = opens.own;
    tells = opens.tells;
    reads = opens.reads;
    disk_faults = opens.disk_faults;
    same = only_heard listens sends ∙ ap (λ (o : Outside). record o {
      link = option_map made o.link;
      link_faults = new.faults;
    }) opens.same;
  }

-- what a run did: nothing, or its node was started, and served
module _ {N : Type 0}
    {step : NodeStep N} {leaves : NodeLeaves N} {left : ℕ → Image → Type 0} {IsBadFile : List ℕ → ℕ → Type 0}
    {IsNotOpened : Outside → Result Ended RunFault → Type 0} {IsDeaf Begins : N → Outside → Type 0}
    {budget : ℕ} {before : Outside} {turns : List (Turn N)} {result : Result Ended RunFault} {after : Outside} where
  pub did : RunsBy step leaves left IsBadFile IsNotOpened IsDeaf Begins budget before turns result after
      → (turns ≡ []) ⊎ ((node last : N) × (opened : Outside) × (served : Result Served ServeFault) × Begins node opened
      × Serves step leaves left budget turns (world_of node opened) served (world_of last after))
  did (BadSetUp bad line is e bare same) = inl bare
  did (NotSetUp why bare same) = inl bare
  did (NotOpened why bare same) = inl bare
  did (Deaf node deaf e rose bare) = inl bare
  did (Serving node last opened served begins serves e) = inr (node, last, opened, served, begins, serves)
