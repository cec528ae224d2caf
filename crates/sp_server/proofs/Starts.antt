-- What is kept over several starts of a provider.
use Rattle.std.proofs.Common.{ℕ}
use Rattle.provider_node.proofs.Starts.{kept_over_at, kept_over_so}
use Rattle.request_ledger.specs.Laws.{ImagesHoldRecords, NoRequestOpensTwiceInARun}
use Rattle.request_ledger.specs.Record.{request_rules}
use Rattle.request_ledger.specs.Runs.{requests_opened}
use Rattle.sp_server.specs.Histories.{OpenOnce}
use Rattle.sp_server.specs.Starts.{WhatIsAcknowledgedIsKeptOnceOverStarts}
use Rattle.sp_server.specs.Step.{Answers}
use Rattle.sp_server.proofs.Histories.{draws_above}
use Rattle.sp_server.proofs.Services.{still_differ}

pub kept_once_over : ImagesHoldRecords → NoRequestOpensTwiceInARun → (IsMoment : ℕ → Type 0)
    → WhatIsAcknowledgedIsKeptOnceOverStarts IsMoment
kept_once_over law never_twice IsMoment start starts are begun =
    let is = kept_over_at request_rules Answers law draws_above IsMoment start starts begun in
    let (found, came) = is.history in
    record {
      all = kept_over_so request_rules Answers OpenOnce IsMoment start starts
          (λ held events leads. never_twice start held events are leads) is;
      once = still_differ came.events is.records (requests_opened start.records) came.includes
          (never_twice start found came.events are came.leads);
    }
