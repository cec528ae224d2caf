-- What a run acknowledged is kept, once.
use Rattle.std.specs.Prelude.{Option}
use Rattle.std.proofs.Common.{subst}
use Rattle.crash_disk.specs.Disk.{DiskState}
use Rattle.crash_disk.specs.Moments.{Leaves}
use Rattle.request_ledger.specs.Record.{request_rules}
use Rattle.request_ledger.specs.Laws.{ImagesHoldRecords}
use Rattle.sp_server.specs.Step.{Answers}
use Rattle.sp_server.specs.Histories.{WhatIsAcknowledgedIsKeptOnce}
use Rattle.sp_server.specs.Logouts.{SessionsStayClosedInAService, StayClosed}
use Rattle.provider_node.proofs.Histories.{kept_then}
use Rattle.provider_run.specs.Runs.{world_of}
use Rattle.provider_run.proofs.Ending.{at_end}
use Rattle.provider_run.proofs.Kept as any
use Rattle.sp_runs.specs.Laws.{SessionsStayClosedInARun, WhatARunAcknowledgedIsKeptOnce}
use Rattle.sp_runs.specs.Runs.{IsServedBy, address, key}

pub kept_once : ImagesHoldRecords → WhatIsAcknowledgedIsKeptOnce → WhatARunAcknowledgedIsKeptOnce
kept_once hold acknowledged told file budget before opened after provider last turns kept behind served tells begins run
    ends =
    let is = acknowledged (world_of provider opened) behind turns kept
    (any.started IsServedBy address key request_rules Answers hold told file before opened provider tells begins)
    (any.still_tells IsServedBy address key request_rules Answers hold told file before opened provider tells begins) run in
    let same = at_end budget turns behind (world_of last after) served ends in
    record {
      all = kept_then request_rules Answers _ behind turns is.all (world_of last after)
          (λ image left. subst (λ (d : Option DiskState). Leaves d image) same.1 left);
      once = is.once;
    }

pub stay_closed : ImagesHoldRecords → SessionsStayClosedInAService → SessionsStayClosedInARun
stay_closed hold closed told file budget before opened after provider last turns kept behind served tells begins run
    ends =
    any.points_behind StayClosed (world_of provider opened) turns behind (world_of last after)
    (at_end budget turns behind (world_of last after) served ends)
    (closed (world_of provider opened) behind turns kept
    (any.started IsServedBy address key request_rules Answers hold told file before opened provider tells begins)
    (any.still_tells IsServedBy address key request_rules Answers hold told file before opened provider tells begins) run)
