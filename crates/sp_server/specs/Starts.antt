-- What became of a ledger over several starts of its provider: what was acknowledged is kept, and no request opens two
-- sessions, wherever a crash stops.
use Rattle.std.specs.Prelude.{ℕ, List, ◌++◌}
use Rattle.std.specs.List.{flat_map}
use Rattle.request_ledger.specs.Ledger.{Held}
use Rattle.request_ledger.specs.Record.{request_rules, AreRecords}
use Rattle.request_ledger.specs.RowsOf.{closes}
use Rattle.request_ledger.specs.Runs.{AreDifferent, request_opened, requests_opened}
use Rattle.provider_node.specs.Histories.{AnyMoment}
use Rattle.provider_node.specs.Starts.{AreKeptOverSo, AreStartsAt, LeftBehindAt, OpensWhatCameSo, Start}
use Rattle.provider_node.specs.Starts.{StayClosedOverStarts}
use Rattle.sp_server.specs.Histories.{OpenOnce}
use Rattle.sp_server.specs.Logouts.{IsClosed, IsOver}
use Rattle.sp_server.specs.Step.{Provider, Answers}

-- `IsMoment` says of the moments of starts, at each of which a request was asked or a compaction was begun.
module _ (IsMoment : ℕ → Type 0) where
  -- Of the records for which the answers of starts stand: each is in the history of every ledger that may be opened
  -- behind them, whatever a crash left; in this each compaction was at one of their moments, and no two sessions of
  -- such a history are of one request; so no two of their sessions, with those at the start, are.
  pub record AreKeptOnceOverAt (start : Held) (starts : List (Start Provider)) : Type 0 where
    pub all : AreKeptOverSo request_rules Answers (LeftBehindAt request_rules Answers IsMoment start starts)
        (OpensWhatCameSo request_rules OpenOnce IsMoment start) starts
    pub once : AreDifferent (flat_map request_opened all.records ++ requests_opened start.records)

  abbrev pub WhatIsAcknowledgedIsKeptOnceOverStarts : Type 0
  WhatIsAcknowledgedIsKeptOnceOverStarts =
      (start : Held) (starts : List (Start Provider)) → AreRecords start.records
      → AreStartsAt request_rules Answers IsMoment start starts → AreKeptOnceOverAt start starts

-- and so it is at whatever moments
abbrev pub AreKeptOnceOver : (start : Held) → (starts : List (Start Provider)) → Type 0
AreKeptOnceOver = AreKeptOnceOverAt AnyMoment

-- And a session that was closed, at first or by what was acknowledged, is live in no ledger that may be opened behind
-- them.
abbrev pub SessionsStayClosedOverStarts : Type 0
SessionsStayClosedOverStarts = StayClosedOverStarts request_rules Answers IsClosed closes IsOver
