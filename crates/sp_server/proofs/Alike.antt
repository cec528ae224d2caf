-- What a compaction leaves as it was: the answers at its moment.
use Rattle.std.specs.Prelude.{codes}
use Rattle.std.specs.Option.{option_and_then}
use Rattle.std.proofs.Common.{◌≡◌, ℕ, List, refl}
use Rattle.http_wire.specs.Requests.{Request}
use Rattle.http_wire.specs.Cookies.{cookie_value}
use Rattle.request_rows.specs.declared.row.AskedRow.{AskedRow}
use Rattle.request_ledger.specs.RowsOf.{rows_of}
use Rattle.request_ledger.specs.Record.{AreRecords, request_rules}
use Rattle.request_ledger.specs.Ledger.{Held}
use Rattle.request_ledger.specs.Compacting.{Compacts}
use Rattle.request_ledger.specs.Laws.{AnswerAlike, CompactionsChangeNoAnswer}
use Rattle.sp_rules.specs.declared.accepted.Accepted.{Accepted}
use Rattle.sp_rules.specs.declared.config.SpConfig.{SpConfig}
use Rattle.sp_rules.specs.Opening.{Brought, Opens}
use Rattle.sp_rules.specs.Shown.{IsOpening}
use Rattle.sp_answers.specs.Judging.{RowsAnswerAlike}
use Rattle.sp_answers.proofs.Alike.{open_alike}
use Rattle.provider_node.proofs.Alike as any
use Rattle.provider_node.proofs.Alike.{followed_alike}
use Rattle.sp_server.specs.Step.{rows_seen, session_for}

pub alike_self : (now : ℕ) (held : Held) → AnswerAlike now held held
alike_self now held = record {
  asked = λ request. refl;
  spent = λ request is. refl;
  seen = λ issuer assertion. refl;
  session = λ token. refl;
  ending = λ issuer name indexes. refl;
  waiting = λ request. refl;
}

pub alike : (now : ℕ) (old new : Held) → CompactionsChangeNoAnswer → AreRecords old.records → Compacts now old new
    → AnswerAlike now new old
alike now old new law = any.alike request_rules AnswerAlike alike_self law now old new

-- the session of a cookie
pub session_alike : (now : ℕ) (one other : Held) (request : Request) → AnswerAlike now one other
    → session_for one now request ≡ session_for other now request
session_alike now one other request like =
    followed_alike _ _ (option_and_then (λ header. cookie_value header (codes "sp_sid")) request.cookie) like.session

-- the rows of ledgers that answer alike do so
rows_alike : (now : ℕ) (one other : Held) → AnswerAlike now one other
    → RowsAnswerAlike now (rows_seen (rows_of one.records)) one.header.horizon (rows_seen (rows_of other.records))
    other.header.horizon
rows_alike now one other like = record { asked = like.asked; spent = like.spent; seen = like.seen }

-- a form that opens a session
pub opens_alike : (config : SpConfig) (now : ℕ) (one other : Held) (body : List ℕ) (b : Brought) (row : AskedRow)
    → AnswerAlike now one other
    → Opens config (rows_seen (rows_of other.records)) other.header.horizon now body b row
    → Opens config (rows_seen (rows_of one.records)) one.header.horizon now body b row
opens_alike config now one other body b row like opens =
    open_alike config now (rows_seen (rows_of one.records)) one.header.horizon (rows_seen (rows_of other.records))
    other.header.horizon body b row (rows_alike now one other like) opens

pub opening_alike : (config : SpConfig) (now : ℕ) (one other : Held) (body : List ℕ) (accepted : Accepted)
    → AnswerAlike now one other
    → IsOpening config (rows_seen (rows_of other.records)) other.header.horizon now body accepted
    → IsOpening config (rows_seen (rows_of one.records)) one.header.horizon now body accepted
opening_alike config now one other body accepted like opening = record {
  brought = opening.brought;
  asked = opening.asked;
  opens = opens_alike config now one other body opening.brought opening.asked like opening.opens;
  is = opening.is;
}
