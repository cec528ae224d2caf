-- What a compaction leaves as it was: the answers at its moment.
use Rattle.std.specs.Prelude.{codes}
use Rattle.std.specs.Option.{option_and_then}
use Rattle.std.proofs.Common.{◌≡◌, ℕ, refl}
use Rattle.http_wire.specs.Requests.{Request}
use Rattle.http_wire.specs.Cookies.{cookie_value}
use Rattle.idp_ledger.specs.Record.{AreRecords, idp_rules}
use Rattle.idp_ledger.specs.Ledger.{Held}
use Rattle.record_ledger.specs.Compacting.{Compacts}
use Rattle.idp_ledger.specs.Laws.{AnswerAlike, CompactionsChangeNoAnswer}
use Rattle.provider_node.proofs.Alike as any
use Rattle.provider_node.proofs.Alike.{followed_alike}
use Rattle.idp_server.specs.Step.{session_for}

pub alike_self : (now : ℕ) (held : Held) → AnswerAlike now held held
alike_self now held = record {
  pending = λ id. refl;
  session = λ cookie. refl;
  ending = λ peer name indexes. refl;
  partial = λ peer name indexes. refl;
  last_peer = λ cookie live. refl;
  parts = λ cookies live. refl;
  waiting = λ request. refl;
  round = λ request. refl;
  turn = λ request peer. refl;
}

pub alike : CompactionsChangeNoAnswer → (now : ℕ) (old new : Held) → AreRecords old.records
    → Compacts idp_rules now old new
    → AnswerAlike now new old
alike = any.alike idp_rules AnswerAlike alike_self

-- the session of a cookie
pub session_alike : (now : ℕ) (one other : Held) (request : Request) → AnswerAlike now one other
    → session_for one now request ≡ session_for other now request
session_alike now one other request like =
    followed_alike _ _ (option_and_then (λ header. cookie_value header (codes "idp_sid")) request.cookie) like.session
