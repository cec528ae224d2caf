-- What became of a ledger over a service, and over several starts with crashes between: what was acknowledged is kept,
-- and no request upwards backs two logins.
use Rattle.std.specs.Prelude.{ℕ, List, ◌++◌, Contains, IsSome}
use Rattle.std.specs.List.{flat_map}
use Rattle.conn_table.specs.Table.{Table}
use Rattle.serve_loop.specs.Worlds.{World}
use Rattle.serve_loop.specs.Turns.{Turn, Run}
use Rattle.hub_ledger.specs.Ledger.{Held}
use Rattle.hub_ledger.specs.Record.{AreRecords, hub_rules}
use Rattle.hub_ledger.specs.Runs.{AreDifferent, Event, request_backed, requests_backed, requests_of_run}
use Rattle.provider_node.specs.Histories as any
use Rattle.provider_node.specs.Histories.{AnyMoment, IsAtStart, moments_of, IsProviders}
use Rattle.provider_node.specs.Starts.{AreKeptOverSo, AreStartsAt, LeftBehindAt, OpensWhatCameSo, Start}
use Rattle.identity_hub.specs.Step.{Answers, Provider}

-- No two of the logins that were passed in a history or stood at its start answer one request upwards, those that were
-- let go, and those whose answer was lost, included.
abbrev pub PassOnce : Held → List Event → Type 0
PassOnce start events = AreDifferent (requests_of_run start events)

-- Of the records for which the answers of a service stand: each is in the history of every ledger that a crash may
-- leave behind it, in which each compaction was at the moment of one of its requests, and no two logins of such a
-- history answer one request upwards; so no two of their logins, with those of the ledger at the start, do.
pub record AreKeptOnce (first last : World Provider) (turns : List (Turn Provider)) : Type 0 where
  pub all : any.AreKeptSo hub_rules Answers
      (any.HoldsWhatCameSo hub_rules PassOnce (Contains (moments_of turns)) first.node.ledger.held) last turns
  pub once : AreDifferent (flat_map request_backed all.records ++ requests_backed first.node.ledger.held.records)

abbrev pub WhatIsAcknowledgedIsKeptOnce : Type 0
WhatIsAcknowledgedIsKeptOnce =
    (first last : World Provider) (turns : List (Turn Provider)) (kept : Table) → IsAtStart hub_rules first
    → IsSome first.disk → Run (IsProviders hub_rules Answers) first turns kept last → AreKeptOnce first last turns

-- `IsMoment` says of the moments of starts, at each of which a request was asked or a compaction was begun.
module _ (IsMoment : ℕ → Type 0) where
  -- And of those for which the answers of starts stand, of which each opens what a crash of the one before it may have
  -- left: each is in the history of every ledger that may be opened behind them; in this each compaction was at one of
  -- their moments, and no two logins of such a history answer one request upwards; so no two of their logins, with
  -- those at the start, do.
  pub record AreKeptOnceOverAt (start : Held) (starts : List (Start Provider)) : Type 0 where
    pub all : AreKeptOverSo hub_rules Answers (LeftBehindAt hub_rules Answers IsMoment start starts)
        (OpensWhatCameSo hub_rules PassOnce IsMoment start) starts
    pub once : AreDifferent (flat_map request_backed all.records ++ requests_backed start.records)

  abbrev pub WhatIsAcknowledgedIsKeptOnceOverStarts : Type 0
  WhatIsAcknowledgedIsKeptOnceOverStarts =
      (start : Held) (starts : List (Start Provider)) → AreRecords start.records
      → AreStartsAt hub_rules Answers IsMoment start starts → AreKeptOnceOverAt start starts

-- and so it is at whatever moments
abbrev pub AreKeptOnceOver : (start : Held) → (starts : List (Start Provider)) → Type 0
AreKeptOnceOver = AreKeptOnceOverAt AnyMoment
