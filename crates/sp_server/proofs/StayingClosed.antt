-- That a closed session stays closed.
use Rattle.std.proofs.Common.{◌≡◌, ℕ, true, false, ◌++◌, List, [], ◌∷◌, sym, subst, refl}
use Rattle.std.specs.Str.{bytes_eq}
use Rattle.std.proofs.lemmas.Bool.{false≢true}
use Rattle.ledger_records.specs.declared.sp_record.SpRecord.{SpRecord}
use Rattle.ledger_records.specs.declared.sp_record.SpRecord.TheVariants as kinds
use Rattle.request_rows.specs.declared.row.OpenedRow.{OpenedRow}
use Rattle.request_ledger.specs.Laws.{CompactionsChangeNoAnswer}
use Rattle.request_ledger.specs.Record.{drawn, is_open, is_record, request_rules}
use Rattle.request_ledger.specs.RowsOf.{SpRows, closed_if, closes, is_among, opened_row, opened_rows, rows_after, rows_of}
use Rattle.request_ledger.proofs.KeptRecords.{kept_are_records}
use Rattle.request_ledger.proofs.LawWords.{parts}
use Rattle.request_ledger.proofs.RowLaws.{rows_of-push}
use Rattle.request_ledger.proofs.RuleLaws.{freshly_drawn}
use Rattle.record_ledger.proofs.Words.{same_text}
use Rattle.provider_node.proofs.Sessions.{IsShut, Sessions, all_among, open_there, sessions_by, shut_among, shut_one}
use Rattle.provider_node.proofs.Starts.{StayOver}
use Rattle.provider_node.proofs.StayingShut.{Becomes, KeepsSessions, More, Same, Shut, keeps_sessions, shut_behind, stays_shut}
use Rattle.sp_server.specs.Logouts.{AClosedSessionStaysClosed, IsClosed, IsOver}

-- a session is found by its token until it ends, unless it is closed
abbrev pub opened_sessions : Sessions OpenedRow
opened_sessions =
    sessions_by (λ row. row.token) (λ row. row.closed) (λ row. row.until) closed_if (λ now row. (refl, refl, refl))

becomes : (records : List SpRecord) (r : SpRecord)
    → Becomes opened_sessions (drawn r) (opened_rows records) (opened_rows (records ++ r ∷ []))
becomes records r =
    subst (λ (rows : SpRows). Becomes opened_sessions (drawn r) (opened_rows records) rows.opened)
    (sym (rows_of-push records r)) (after r)
  where
    after : (r : SpRecord)
        → Becomes opened_sessions (drawn r) (opened_rows records) (rows_after (rows_of records) r).opened
    after (kinds.Opened r) = More (opened_row false r) 0 r.first refl refl
    after (kinds.Left r) = Shut (λ row. bytes_eq r.token row.token) refl
    after (kinds.Ended r) = Shut (λ row. is_among row.token r.tokens) refl
    after other = Same refl

keeps : CompactionsChangeNoAnswer → KeepsSessions request_rules opened_sessions opened_rows
keeps law =
    keeps_sessions request_rules opened_sessions opened_rows kept_are_records freshly_drawn refl becomes
    (λ now later old new key are made from. (law now later old new are made from).session key)

pub stays_closed : CompactionsChangeNoAnswer → AClosedSessionStaysClosed
stays_closed law =
    stays_shut request_rules opened_sessions opened_rows (keeps law) IsClosed
    (λ held token closed. record { there = closed.there; shut = closed.shut })

-- ---- a record that closes a session

shut_behind_it : (records : List SpRecord) (r : SpRecord) (token : List ℕ)
    → IsShut opened_sessions (rows_after (rows_of records) r).opened token
    → IsShut opened_sessions (opened_rows (records ++ r ∷ [])) token
shut_behind_it records r token is =
    subst (λ (rows : SpRows). IsShut opened_sessions rows.opened token) (sym (rows_of-push records r)) is

-- what it closes is closed behind it
closes_it : (records : List SpRecord) (r : SpRecord) (token : List ℕ) → is_record records r ≡ true
    → closes token r ≡ true → IsShut opened_sessions (opened_rows (records ++ r ∷ [])) token
closes_it records (kinds.Ended r) token is closing =
    let rows = opened_rows records in
    let free = all_among (is_open rows) r.tokens token (parts records (kinds.Ended r) is).free closing in
    shut_behind_it records (kinds.Ended r) token
    (shut_among opened_sessions rows _ token r.tokens refl (open_there opened_sessions rows token free) closing)
closes_it records (kinds.Left r) token is closing =
    let rows = opened_rows records in
    let free = (parts records (kinds.Left r) is).free in
    subst (IsShut opened_sessions (opened_rows (records ++ kinds.Left r ∷ []))) (same_text r.token token closing)
    (shut_behind_it records (kinds.Left r) r.token
    (shut_one opened_sessions rows _ r.token refl (open_there opened_sessions rows r.token free)))
closes_it records other token is closing = absurd (false≢true closing)

-- and stays closed over a history in which the record was added
pub stays_over : CompactionsChangeNoAnswer → StayOver request_rules closes IsOver
stays_over law start are r token closing =
    shut_behind request_rules opened_sessions opened_rows (keeps law) start are r token
    (λ before is. closes_it before.records r token is closing)
