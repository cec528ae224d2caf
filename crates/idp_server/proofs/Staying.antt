-- That a session which was begun is found as it was left.
use Rattle.std.specs.Prelude.{Contains}
use Rattle.std.specs.List.{list_any}
use Rattle.std.proofs.Common.{◌≡◌, ℕ, ◌<◌, Bool, false, List, [], ◌∷◌, ◌++◌, Option, Some, refl, sym, subst, arith}
use Rattle.std.proofs.lemmas.List.Elements.{Contains-append_right}
use Rattle.ledger_records.specs.declared.idp_record.Issued.{Issued}
use Rattle.ledger_records.specs.declared.idp_record.IdpRecord.{IdpRecord}
use Rattle.ledger_records.specs.declared.idp_record.IdpRecord.TheVariants as kinds
use Rattle.record_ledger.specs.Runs.{EndsBehind, added}
use Rattle.idp_rows.specs.Finding.{session_found}
use Rattle.idp_ledger.specs.Laws.{ImagesHoldRecords, SessionsStay as RowsStay}
use Rattle.idp_ledger.specs.Ledger.{Held}
use Rattle.record_ledger.specs.Ledger.{held_with}
use Rattle.idp_ledger.specs.Record.{AreRecords, idp_rules}
use Rattle.idp_rows.specs.RowsOf.{IdpRows, begun, ended_if, ends, if_pending, session_row, session_rows}
use Rattle.idp_ledger.proofs.RowLaws.{rows_of-push}
use Rattle.provider_node.specs.Histories.{CameFrom}
use Rattle.provider_node.proofs.Histories.{what_is_kept}
use Rattle.provider_node.proofs.Opened.{opened_records}
use Rattle.provider_node.proofs.Starts.{kept_over_at}
use Rattle.provider_node.proofs.Staying.{Stood, stood}
use Rattle.idp_server.specs.Staying.{Began, IsAsLeft}
use Rattle.provider_node.specs.Staying.{SessionsStayInAService, SessionsStayOverStarts, WhatWasOpenedIsAsLeft}
use Rattle.idp_server.specs.Step.{Answers}
use Rattle.idp_server.proofs.Cookies.{live_row}
use Rattle.idp_server.proofs.Histories.{draws_above}

-- ---- rows

-- the last record has its row
last_row : (before : List IdpRecord) (r : Issued) (pending : List ℕ) → r.pending ≡ Some pending
    → Contains (session_rows (before ++ kinds.Issued r ∷ [])) (session_row false r)
last_row before r pending has =
    subst (λ (rows : IdpRows). Contains rows.sessions (session_row false r))
    (sym (rows_of-push before (kinds.Issued r)))
    (Contains-append_right (session_rows before) (begun false r) (session_row false r)
    (subst (λ (o : Option (List ℕ)). Contains (if_pending o (session_row false r ∷ [])) (session_row false r)) (sym has)
    (0, omega arith, refl)))

-- ---- as it was left

module _ (rows_stay : RowsStay) (moments : List ℕ) (start held : Held) (records : List IdpRecord) (r : Issued)
    (came : CameFrom idp_rules (Contains moments) start records held)
    (began : Began records r) (are : AreRecords held.records) where
  since : Stood idp_rules moments start held came.events (kinds.Issued r)
  since = stood idp_rules moments start held records (kinds.Issued r) came began.there

  module _ (s : Stood idp_rules moments start held came.events (kinds.Issued r)) where
    abbrev ended : Bool
    ended = list_any (ends r.cookie) (added s.was.later)

    its_row : EndsBehind start.header.horizon moments r.session_end
        → Contains (session_rows held.records) (ended_if ended (session_row false r))
    its_row behind =
        rows_stay (held_with (kinds.Issued r) s.was.before) held s.was.later moments (session_row false r) s.was.leads
        s.at
        (last_row s.was.before.records r began.pending began.has) (s.ends r.session_end behind)

    its_life : EndsBehind start.header.horizon moments r.session_end → ended ≡ false → (now : ℕ) → now < r.session_end
        → held.header.horizon < r.session_end
        → session_found (session_rows held.records) r.cookie now held.header.horizon ≡ Some (session_row false r)
    its_life behind none now less also =
        live_row held.records (session_row false r) now held.header.horizon are
        (subst (λ (b : Bool). Contains (session_rows held.records) (ended_if b (session_row false r))) none
        (its_row behind)) refl less also

  pub as_left : IsAsLeft moments start r held
  as_left =
      record { events = came.events; leads = came.leads; was = since.was; row = its_row since; live = its_life since }

-- ---- the laws

module _ (rows_stay : RowsStay) (law : ImagesHoldRecords) where
  pub was_left : WhatWasOpenedIsAsLeft idp_rules Began IsAsLeft
  was_left moments start records r image (held, is, came) began =
      (held, is, as_left rows_stay moments start held records r came began (law image held is))

  pub sessions_stay_in_a_service : SessionsStayInAService idp_rules Began IsAsLeft Answers
  sessions_stay_in_a_service first last turns kept at tells run =
      let is = what_is_kept idp_rules Answers law draws_above first last turns kept at tells run in
      record {
        records = is.records;
        are = is.are;
        stay = λ r image began left. was_left _ first.node.ledger.held is.records r image (is.kept image left) began;
      }

  pub sessions_stay_over_starts : SessionsStayOverStarts idp_rules Began IsAsLeft Answers
  sessions_stay_over_starts moments start starts begun =
      let is = kept_over_at idp_rules Answers law draws_above (Contains moments) start starts begun in
      record {
        records = is.records;
        are = is.are;
        stay = λ r image began left. let opens = is.kept image left in (
          opens.held,
          opens.opens,
          as_left rows_stay moments start opens.held is.records r opens.came began
              (opened_records idp_rules law image opens.held opens.opens),
        );
      }
