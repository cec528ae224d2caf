-- What became of a ledger over a service: what was acknowledged is kept, and no request opens two sessions.
use Rattle.std.specs.Prelude.{List, ◌++◌, Contains, IsSome}
use Rattle.std.specs.List.{flat_map}
use Rattle.conn_table.specs.Table.{Table}
use Rattle.serve_loop.specs.Worlds.{World}
use Rattle.serve_loop.specs.Turns.{Turn, Run}
use Rattle.request_ledger.specs.Ledger.{Held}
use Rattle.request_ledger.specs.Record.{request_rules}
use Rattle.request_ledger.specs.Runs.{AreDifferent, Event, request_opened, requests_of_run, requests_opened}
use Rattle.provider_node.specs.Histories.{AreKeptSo, HoldsWhatCameSo, moments_of, IsAtStart, IsProviders}
use Rattle.sp_server.specs.Step.{Provider, Answers}

-- No two of the sessions that were opened in a history or stood at its start are of one request, those that were let
-- go, and those whose answer was lost, included.
abbrev pub OpenOnce : Held → List Event → Type 0
OpenOnce start events = AreDifferent (requests_of_run start events)

-- Of the records for which the answers of a service stand: each is in the history of every ledger that a crash may
-- leave behind it, in which each compaction was at the moment of one of its requests, and no two sessions of such a
-- history are of one request; so no two of their sessions, with those of the ledger at the start, are.
pub record AreKeptOnce (first last : World Provider) (turns : List (Turn Provider)) : Type 0 where
  pub all : AreKeptSo request_rules Answers
      (HoldsWhatCameSo request_rules OpenOnce (Contains (moments_of turns)) first.node.ledger.held) last turns
  pub once : AreDifferent (flat_map request_opened all.records ++ requests_opened first.node.ledger.held.records)

abbrev pub WhatIsAcknowledgedIsKeptOnce : Type 0
WhatIsAcknowledgedIsKeptOnce =
    (first last : World Provider) (turns : List (Turn Provider)) (kept : Table) → IsAtStart request_rules first
    → IsSome first.disk
    → Run (IsProviders request_rules Answers) first turns kept last → AreKeptOnce first last turns
