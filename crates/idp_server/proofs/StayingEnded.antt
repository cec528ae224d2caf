-- That a session that is ended stays ended.
use Rattle.std.specs.Prelude.{Contains, Option, None, Some}
use Rattle.std.proofs.Common.{◌≡◌, ℕ, ◌+◌, true, false, List, [], ◌∷◌, ◌++◌, append-nil, sym, subst, refl}
use Rattle.std.specs.Str.{bytes_eq}
use Rattle.std.proofs.lemmas.Bool.{false≢true}
use Rattle.ledger_records.specs.declared.idp_record.Issued.{Issued}
use Rattle.ledger_records.specs.declared.idp_record.IdpRecord.{IdpRecord}
use Rattle.ledger_records.specs.declared.idp_record.IdpRecord.TheVariants as kinds
use Rattle.idp_rows.specs.declared.row.SessionRow.{SessionRow}
use Rattle.idp_ledger.specs.Laws.{CompactionsChangeNoAnswer}
use Rattle.idp_ledger.specs.Ledger.{Held}
use Rattle.record_ledger.specs.Ledger.{held_with}
use Rattle.idp_ledger.specs.Record.{AreRecords, idp_rules, is_record}
use Rattle.idp_rows.specs.Record.{drawn, is_unended}
use Rattle.idp_rows.specs.RowsOf.{IdpRows, ended_if, ends, if_pending, is_among, rows_after, rows_of, session_row, session_rows}
use Rattle.idp_ledger.proofs.KeptRecords.{kept_are_records}
use Rattle.idp_ledger.proofs.LawWords.{parts}
use Rattle.idp_ledger.proofs.RowLaws.{rows_of-push}
use Rattle.idp_ledger.proofs.RuleLaws.{freshly_drawn}
use Rattle.record_ledger.specs.Runs.{Event, Leads}
use Rattle.record_ledger.proofs.Words.{same_text}
use Rattle.provider_node.specs.Histories.{Includes}
use Rattle.provider_node.proofs.Sessions.{IsShut, Sessions, all_among, open_there, sessions_by, shut_among, shut_one}
use Rattle.provider_node.proofs.StayingShut.{Becomes, KeepsSessions, More, Same, Shut, keeps_sessions, shut_behind, stays_shut}
use Rattle.idp_server.specs.Histories.{AnEndedSessionStaysEnded, IsDead, IsEnded}

-- a session is found by its cookie until it ends, unless it was ended
abbrev pub begun_sessions : Sessions SessionRow
begun_sessions =
    sessions_by (λ row. row.cookie) (λ row. row.ended) (λ row. row.until) ended_if (λ now row. (refl, refl, refl))

-- an Issued begins a session where a login was pending
issued : (old : List SessionRow) (r : Issued) (p : Option (List ℕ))
    → Becomes begun_sessions
    (record { number = r.first; id = r.assertion } ∷ record { number = r.first + 1; id = r.message }
    ∷ if_pending p (record { number = r.first + 2; id = r.cookie } ∷ record { number = r.first + 3; id = r.index }
    ∷ [])) old (old ++ if_pending p (session_row false r ∷ []))
issued old r None = Same (append-nil old)
issued old r (Some pending) = More (session_row false r) 2 (r.first + 2) refl refl

becomes : (records : List IdpRecord) (r : IdpRecord)
    → Becomes begun_sessions (drawn r) (session_rows records) (session_rows (records ++ r ∷ []))
becomes records r =
    subst (λ (rows : IdpRows). Becomes begun_sessions (drawn r) (session_rows records) rows.sessions)
    (sym (rows_of-push records r)) (after r)
  where
    after : (r : IdpRecord)
        → Becomes begun_sessions (drawn r) (session_rows records) (rows_after (rows_of records) r).sessions
    after (kinds.Issued r) = issued (session_rows records) r r.pending
    after (kinds.Ended r) = Shut (λ row. is_among row.cookie r.cookies) refl
    after (kinds.Left r) = Shut (λ row. bytes_eq r.cookie row.cookie) refl
    after (kinds.Round r) = Shut (λ row. is_among row.cookie r.cookies) refl
    after other = Same refl

keeps : CompactionsChangeNoAnswer → KeepsSessions idp_rules begun_sessions session_rows
keeps law =
    keeps_sessions idp_rules begun_sessions session_rows kept_are_records freshly_drawn refl becomes
    (λ now later old new key are made from. (law now later old new are made from).session key)

pub stays_ended : CompactionsChangeNoAnswer → AnEndedSessionStaysEnded
stays_ended law =
    stays_shut idp_rules begun_sessions session_rows (keeps law) IsEnded
    (λ held cookie ended. record { there = ended.there; shut = ended.ended })

-- ---- a record that ends a session

shut_behind_it : (records : List IdpRecord) (r : IdpRecord) (cookie : List ℕ)
    → IsShut begun_sessions (rows_after (rows_of records) r).sessions cookie
    → IsShut begun_sessions (session_rows (records ++ r ∷ [])) cookie
shut_behind_it records r cookie is =
    subst (λ (rows : IdpRows). IsShut begun_sessions rows.sessions cookie) (sym (rows_of-push records r)) is

pub ended_behind : (held : Held) (r : IdpRecord) (cookie : List ℕ)
    → IsShut begun_sessions (rows_after (rows_of held.records) r).sessions cookie → IsEnded (held_with r held) cookie
ended_behind held r cookie is =
    let shut = shut_behind_it held.records r cookie is in record { there = shut.there; ended = shut.shut }

-- what it ends is ended behind it
ends_it : (records : List IdpRecord) (r : IdpRecord) (cookie : List ℕ) → is_record records r ≡ true
    → ends cookie r ≡ true → IsShut begun_sessions (session_rows (records ++ r ∷ [])) cookie
ends_it records (kinds.Ended r) cookie is ending =
    let rows = session_rows records in
    let free = all_among (is_unended rows) r.cookies cookie (parts records (kinds.Ended r) is).free ending in
    shut_behind_it records (kinds.Ended r) cookie
    (shut_among begun_sessions rows _ cookie r.cookies refl (open_there begun_sessions rows cookie free) ending)
ends_it records (kinds.Left r) cookie is ending =
    let rows = session_rows records in
    let free = (parts records (kinds.Left r) is).free in
    subst (IsShut begun_sessions (session_rows (records ++ kinds.Left r ∷ []))) (same_text r.cookie cookie ending)
    (shut_behind_it records (kinds.Left r) r.cookie
    (shut_one begun_sessions rows _ r.cookie refl (open_there begun_sessions rows r.cookie free)))
ends_it records (kinds.Round r) cookie is ending =
    let rows = session_rows records in
    let free = all_among (is_unended rows) r.cookies cookie (parts records (kinds.Round r) is).free ending in
    shut_behind_it records (kinds.Round r) cookie
    (shut_among begun_sessions rows _ cookie r.cookies refl (open_there begun_sessions rows cookie free) ending)
ends_it records other cookie is ending = absurd (false≢true ending)

-- and stays ended over a history in which the record was added
pub stays_dead : CompactionsChangeNoAnswer → (start : Held) → AreRecords start.records → (r : IdpRecord)
    (cookie : List ℕ) → ends cookie r ≡ true → (events : List (Event IdpRecord)) (records : List IdpRecord)
    (held : Held)
    → Includes events records → Contains records r → Leads idp_rules start events held → IsDead held cookie
stays_dead law start are r cookie ending =
    shut_behind idp_rules begun_sessions session_rows (keeps law) start are r cookie
    (λ before is. ends_it before.records r cookie is ending)
