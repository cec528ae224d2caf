-- What the answers of a run acknowledged is kept behind it, once.
use Rattle.std.specs.Prelude.{IsSome, Option}
use Rattle.std.proofs.Common.{ℕ, List}
use Rattle.saml_outside.specs.Files.{File}
use Rattle.crash_disk.specs.Disk.{Image}
use Rattle.serve_loop.specs.Turns.{Turn}
use Rattle.hub_ledger.specs.Laws.{ImagesHoldRecords}
use Rattle.hub_ledger.specs.Record.{hub_rules}
use Rattle.provider_node.proofs.Histories.{kept_then}
use Rattle.provider_run.specs.Runs.{Outside, world_of}
use Rattle.provider_run.specs.Headlines.{ServedRun}
use Rattle.provider_run.proofs.Headlines.{left_then, of_service}
use Rattle.identity_hub.specs.Histories.{AreKeptOnce, WhatIsAcknowledgedIsKeptOnce}
use Rattle.identity_hub.specs.Step.{Answers, Provider}
use Rattle.hub_setup.specs.Setup.{IsSetUp}
use Rattle.hub_runs.specs.Headline.{address, key}

module _ (hold : ImagesHoldRecords) (left : ℕ → Image → Type 0) (told : Option (List File)) (file : List ℕ)
    (before : Outside) (turns : List (Turn Provider)) (after : Outside)
    (run : ServedRun IsSetUp address key hub_rules Answers left told file before turns after) (tells : IsSome before.disk) where
  pub kept_once : WhatIsAcknowledgedIsKeptOnce → AreKeptOnce (world_of run.provider run.opened)
      (world_of run.last after) turns
  kept_once law =
      let is =
      of_service IsSetUp address key hub_rules Answers hold left told file before turns after run tells AreKeptOnce law in
      record {
        all = kept_then hub_rules Answers _ run.serves.last turns is.all (world_of run.last after)
            (left_then IsSetUp address key hub_rules Answers hold left told file before turns after run tells);
        once = is.once;
      }
