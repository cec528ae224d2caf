-- What is answered to a form that opens a session.
use Rattle.std.specs.Prelude.{IsSome, IsTrue, not, Option, Some}
use Rattle.std.proofs.Common.{◌≡◌, ℕ, Bool, true, false, List, sym, subst, refl, ap, ◌∙◌}
use Rattle.http_wire.specs.declared.answer.Answer.TheVariants.{Full}
use Rattle.http_wire.specs.Requests.{Request}
use Rattle.ledger_records.specs.declared.sp_record.SpRecord.{SpRecord}
use Rattle.request_rows.specs.Rows.{asked_row, is_spent}
use Rattle.request_rows.specs.declared.row.AskedRow.{AskedRow}
use Rattle.request_rows.specs.declared.row.NewSession.{NewSession}
use Rattle.request_ledger.specs.Drafts.{opened}
use Rattle.request_ledger.specs.Laws.{AnswerAlike}
use Rattle.request_ledger.specs.Ledger.{Held, next_number}
use Rattle.request_ledger.specs.RowsOf.{rows_of}
use Rattle.sp_answers.specs.Answers.{opened_answer}
use Rattle.sp_rules.specs.declared.accepted.Accepted.{Accepted}
use Rattle.sp_rules.specs.Shown.{session_of}
use Rattle.sp_server.specs.Replies.{IsOpeningAnswer, OpensSession}
use Rattle.sp_server.specs.Step.{Setup, Answers, ByOpening, HasId}
use Rattle.sp_server.proofs.Alike.{opening_alike}

-- the answer with the session that a form opens
pub opens_own : (setup : Setup) (held : Held) (request : Request) (now : ℕ) (accepted : Accepted) (bytes : List ℕ)
    → OpensSession setup held request now accepted
    → IsOpeningAnswer accepted (opened setup.config.id_key (next_number held) now accepted.session) bytes
    → Answers setup held request now (Full bytes) (Some (opened setup.config.id_key (next_number held) now
    accepted.session))
opens_own setup held request now accepted bytes may page =
    let b = may.opens.brought in
    let r : opened setup.config.id_key (next_number held) now accepted.session ≡ opened setup.config.id_key
    (next_number held) now (session_of setup.config now b.key.number b.login) =
    ap (λ (s : NewSession). opened setup.config.id_key (next_number held) now s) may.opens.is.session in
    ByOpening b may.opens.asked may.to may.unexpired may.opens.opens page.token (ap Some r)
    (subst (λ (x : SpRecord). HasId x page.token) r page.has)
    (ap Full (page.is ∙ ap (λ (t : List ℕ). opened_answer t page.token) may.opens.is.target))

-- ---- its request was asked, and is not spent

pub its_request : (setup : Setup) (held : Held) (request : Request) (now : ℕ) (accepted : Accepted)
    → OpensSession setup held request now accepted
    → IsSome (asked_row (rows_of held.records).asked accepted.session.request now held.header.horizon)
its_request setup held request now accepted may =
    subst (λ (r : List ℕ). IsSome (asked_row (rows_of held.records).asked r now held.header.horizon))
    (sym (ap (λ (s : NewSession). s.request) may.opens.is.session))
    (subst (λ (o : Option AskedRow). IsSome o) (sym may.opens.opens.request) refl)

not_so : (b : Bool) → IsTrue (not b) → b ≡ false
not_so true h = cc
not_so false h = refl

pub its_unspent : (setup : Setup) (held : Held) (request : Request) (now : ℕ) (accepted : Accepted)
    → OpensSession setup held request now accepted
    → is_spent (rows_of held.records).opened accepted.session.request ≡ false
its_unspent setup held request now accepted may =
    subst (λ (r : List ℕ). is_spent (rows_of held.records).opened r ≡ false)
    (sym (ap (λ (s : NewSession). s.request) may.opens.is.session))
    (not_so (is_spent (rows_of held.records).opened may.opens.brought.login.request) may.opens.opens.unspent)

-- ---- behind a compaction it opens one as before

pub opens_still : (setup : Setup) (anew old : Held) (request : Request) (now : ℕ) (accepted : Accepted)
    → AnswerAlike now anew old → OpensSession setup old request now accepted
    → OpensSession setup anew request now accepted
opens_still setup anew old request now accepted like opens = record {
  to = opens.to;
  unexpired = opens.unexpired;
  opens = opening_alike setup.config now anew old request.body accepted like opens.opens;
  recordable = opens.recordable;
}
