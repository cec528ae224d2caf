-- What the answers of a run acknowledged is kept behind it.
use Rattle.std.specs.Prelude.{IsSome, Option}
use Rattle.std.proofs.Common.{ℕ, List}
use Rattle.crash_disk.specs.Disk.{Image}
use Rattle.crash_disk.specs.Moments.{Leaves}
use Rattle.idp_ledger.specs.Laws.{ImagesHoldRecords}
use Rattle.idp_ledger.specs.Record.{idp_rules}
use Rattle.serve_loop.specs.Turns.{Turn}
use Rattle.provider_run.specs.Runs.{Outside, world_of}
use Rattle.provider_run.specs.Headlines.{ServedRun}
use Rattle.provider_run.proofs.Headlines.{left_then, of_service, points_so}
use Rattle.saml_outside.specs.Files.{File}
use Rattle.provider_node.specs.Points.{points}
use Rattle.provider_node.proofs.Histories.{kept_then}
use Rattle.idp_server.specs.Histories.{AreKept, SessionsStayEndedInAService, StayEnded, WhatIsAcknowledgedIsKept}
use Rattle.idp_server.specs.Step.{Provider, Answers}
use Rattle.idp_setup.specs.Setup.{IsSetUp}
use Rattle.idp_runs.specs.Headline.{address, key}

module _ (hold : ImagesHoldRecords) (left : ℕ → Image → Type 0) (told : Option (List File)) (file : List ℕ)
    (before : Outside) (turns : List (Turn Provider)) (after : Outside)
    (run : ServedRun IsSetUp address key idp_rules Answers left told file before turns after) (tells : IsSome before.disk) where
  left_before : (image : Image) → Leaves after.disk image → Leaves run.serves.last.disk image
  left_before = left_then IsSetUp address key idp_rules Answers hold left told file before turns after run tells

  pub kept_behind : WhatIsAcknowledgedIsKept → AreKept (world_of run.provider run.opened) (world_of run.last after)
      turns
  kept_behind law =
      let is = of_service IsSetUp address key idp_rules Answers hold left told file before turns after run tells AreKept law in
      record {
        all = kept_then idp_rules Answers _ run.serves.last turns is.all (world_of run.last after) left_before;
        ended = λ r cookie has ends image may. is.ended r cookie has ends image (left_before image may);
        stays = λ cookie was image may. is.stays cookie was image (left_before image may);
      }

  pub ended_behind : SessionsStayEndedInAService
      → StayEnded (points (world_of run.provider run.opened) turns (world_of run.last after))
  ended_behind law =
      points_so IsSetUp address key idp_rules Answers hold left told file before turns after run tells StayEnded
      (of_service IsSetUp address key idp_rules Answers hold left told file before turns after run tells
      (λ first last served. StayEnded (points first served last)) law)
