-- Where sessions are closed.
use Rattle.std.specs.Prelude.{Option, Some}
use Rattle.std.proofs.Common.{◌≡◌, ℕ, Bool, true, List, sym, subst, refl, ap, ◌∙◌}
use Rattle.crash_disk.specs.Counts.{Rose}
use Rattle.http_wire.specs.declared.answer.Answer.{Answer}
use Rattle.http_wire.specs.Requests.{Request}
use Rattle.ledger_records.specs.declared.sp_record.SpRecord.{SpRecord}
use Rattle.ledger_records.specs.declared.sp_record.SpRecord.TheVariants as kinds
use Rattle.protocol_messages.specs.declared.logout.LogoutRequest.{LogoutRequest}
use Rattle.peer_keys.specs.declared.peers.LogoutPeer.{LogoutPeer}
use Rattle.verdict_codes.specs.declared.codes.Verdict.{Verdict}
use Rattle.request_rows.specs.declared.row.OpenedRow.{OpenedRow}
use Rattle.request_ledger.specs.Drafts.{is_empty, is_ending}
use Rattle.request_ledger.specs.Laws.{AnswerAlike, CompactionsChangeNoAnswer}
use Rattle.request_ledger.specs.Ledger.{Held}
use Rattle.record_ledger.specs.Ledger.{held_with}
use Rattle.request_ledger.specs.Record.{request_rules}
use Rattle.request_ledger.specs.RowsOf.{SpRows, is_among, opened_rows, rows_after, rows_of}
use Rattle.request_ledger.proofs.RowLaws.{rows_of-push}
use Rattle.logout_profile.specs.declared.logout.Logout.{Logout}
use Rattle.logout_profile.specs.Verdict.{IsAccepted, IsRefused}
use Rattle.sp_rules.specs.declared.config.SpConfig.{SpConfig}
use Rattle.provider_node.proofs.Sessions.{IsShut, chosen_there, found_itself, shut_among, shut_one, some_among}
use Rattle.provider_node.proofs.Wanted.{IsBehind, alike_behind, holds_of_wanted}
use Rattle.sp_server.specs.Step as steps
use Rattle.sp_server.specs.Step.{Setup, Answers, ended_by, ended_record, left_record, session_for}
use Rattle.sp_server.specs.Logouts.{LeavesOver, EndsOver, IsClosed, OnlyWhereAUserLeaves, OnlyWhereSessionsEnd, WhereverAUserLeaves, WhereverSessionsEnd}
use Rattle.sp_server.proofs.Alike.{alike_self, session_alike}
use Rattle.sp_server.proofs.StayingClosed.{opened_sessions}
use Rattle.sp_server.proofs.Told.{said}

-- ---- only there

pub only_left : OnlyWhereAUserLeaves
only_left setup held request now answer r
    (steps.ByLeaving row id bytes to unexpired live is has leaves shown) =
    let same : left_record setup.config held now row.token ≡ kinds.Left r = cc in
    (row, record { posted = to; unexpired = unexpired; live = live }, cc)
only_left setup held request now answer r other =
    absurd (let says = (said setup held request now answer (Some (kinds.Left r)) other).is in cc)

pub only_ended : OnlyWhereSessionsEnd
only_ended setup held request now answer r
    (steps.ByEnding asked relay id bytes to unexpired obeyed any is has ends shown) =
    let same : ended_record setup.config held now asked ≡ kinds.Ended r = cc in
    (asked, relay, record { posted = to; unexpired = unexpired; obeyed = obeyed }, cc)
only_ended setup held request now answer r other =
    absurd (let says = (said setup held request now answer (Some (kinds.Ended r)) other).is in cc)

-- ---- rows that are closed

closed_behind : (held : Held) (r : SpRecord) (token : List ℕ)
    → IsShut opened_sessions (rows_after (rows_of held.records) r).opened token → IsClosed (held_with r held) token
closed_behind held r token is =
    let shut =
    subst (λ (rows : SpRows). IsShut opened_sessions rows.opened token) (sym (rows_of-push held.records r)) is
    in
    record { there = shut.there; shut = shut.shut }

-- the session of a user who leaves
left_closes : (config : SpConfig) (held : Held) (now : ℕ) (request : Request) (row : OpenedRow)
    → session_for held now request ≡ Some row → IsClosed (held_with (left_record config held now row.token) held)
    row.token
left_closes config held now request row live =
    let rows = opened_rows held.records in
    closed_behind held (left_record config held now row.token) row.token
    (shut_one opened_sessions rows _ row.token refl
    (found_itself opened_sessions rows now held.header.horizon _ row live).there)

-- the sessions that are ended
ended_closes : (config : SpConfig) (held : Held) (now : ℕ) (asked : LogoutRequest) (token : List ℕ)
    → is_among token (ended_by config held now asked) ≡ true
    → IsClosed (held_with (ended_record config held now asked) held) token
ended_closes config held now asked token among =
    let rows = opened_rows held.records in
    let chosen : OpenedRow → Bool = is_ending now held.header.horizon config.idp.entity asked.name asked.indexes in
    closed_behind held (ended_record config held now asked) token
    (shut_among opened_sessions rows _ token (ended_by config held now asked) refl
    (chosen_there opened_sessions rows token chosen among) among)

-- ---- what is added wherever one leaves, or some are ended

left_added : (setup : Setup) (held : Held) (request : Request) (now : ℕ) (answer : Answer) (adds : Option SpRecord)
    (row : OpenedRow) → LeavesOver setup held request now row → Answers setup held request now answer adds
    → adds ≡ Some (left_record setup.config held now row.token)
left_added setup held request now answer adds row over
    (steps.ByLeaving other id bytes to unexpired live is has leaves shown) =
    let some : Some other ≡ Some row = sym live ∙ over.live in
    let same : other ≡ row = cc in
    is ∙ ap (λ (r : OpenedRow). Some (left_record setup.config held now r.token)) same
left_added setup held request now answer adds row over other =
    absurd (let says = (said setup held request now answer adds other).is in cc)

-- a form that is obeyed asks one thing, and is not refused
pub record IsOneLogout : Type 0 where
  pub obeyed : (peers : List LogoutPeer) (second : Option (List ℕ)) (address : List ℕ) (skew now : ℕ) (body : List ℕ)
      (logout : Logout) (verdict : Verdict) → IsAccepted peers second address skew now body logout
      → ¬ (IsRefused peers second address skew now body verdict)
  pub once : (peers : List LogoutPeer) (second : Option (List ℕ)) (address : List ℕ) (skew now : ℕ) (body : List ℕ)
      (one other : Logout) → IsAccepted peers second address skew now body one
      → IsAccepted peers second address skew now body other → one ≡ other

module _ (law : IsOneLogout) where
  ended_added : (setup : Setup) (held : Held) (request : Request) (now : ℕ) (answer : Answer) (adds : Option SpRecord)
      (asked : LogoutRequest) (relay : Option (List ℕ)) (token : List ℕ) → EndsOver setup request now asked relay
      → is_among token (ended_by setup.config held now asked) ≡ true → Answers setup held request now answer adds
      → adds ≡ Some (ended_record setup.config held now asked)
  ended_added setup held request now answer adds asked relay token over among
      (steps.ByLogoutVerdict verdict to unexpired refused is none) =
      absurd (law.obeyed _ _ _ _ now request.body _ verdict over.obeyed refused)
  ended_added setup held request now answer adds asked relay token over among
      (steps.ByEnding other r id bytes to unexpired obeyed any is has ends shown) =
      let one = law.once _ _ _ _ now request.body _ _ obeyed over.obeyed in
      let same : other ≡ asked = cc in
      is ∙ ap (λ (x : LogoutRequest). Some (ended_record setup.config held now x)) same
  ended_added setup held request now answer adds asked relay token over among
      (steps.ByNothingToEnd other r to unexpired obeyed none is nothing) =
      let one = law.once _ _ _ _ now request.body _ _ obeyed over.obeyed in
      let same : other ≡ asked = cc in
      absurd (some_among token (ended_by setup.config held now asked) among
      (subst (λ (x : LogoutRequest). is_empty (ended_by setup.config held now x) ≡ true) same none))
  ended_added setup held request now answer adds asked relay token over among
      (steps.ByConfirming response to unexpired obeyed waits is shown) =
      absurd (let one = law.once _ _ _ _ now request.body _ _ obeyed over.obeyed in cc)
  ended_added setup held request now answer adds asked relay token over among
      (steps.ByUnknownLogout response to unexpired obeyed none is nothing) =
      absurd (let one = law.once _ _ _ _ now request.body _ _ obeyed over.obeyed in cc)
  ended_added setup held request now answer adds asked relay token over among other =
      absurd (let says = (said setup held request now answer adds other).is in cc)

  pub wherever_ended : CompactionsChangeNoAnswer → WhereverSessionsEnd
  wherever_ended same found request now faults later answer old new asked relay token serves over among room calm =
      holds_of_wanted request_rules Answers found request now (Rose faults later) answer old new
      (λ held. ended_record old.setup.config held now asked)
      (λ held behind other adds answers. ended_added old.setup held request now other adds asked relay token over
      (still held behind) answers)
      (λ held. IsClosed held token) (λ held behind. ended_closes old.setup.config held now asked token
      (still held behind))
      room calm serves
    where
      still : (held : Held) → IsBehind request_rules found now held
          → is_among token (ended_by old.setup.config held now asked) ≡ true
      still held behind =
          let like = alike_behind request_rules found now AnswerAlike alike_self same held behind in
          subst (λ (tokens : List (List ℕ)). is_among token tokens ≡ true)
          (sym (like.ending old.setup.config.idp.entity asked.name asked.indexes)) among

-- and so for a user who leaves
pub wherever_left : CompactionsChangeNoAnswer → WhereverAUserLeaves
wherever_left same found request now faults later answer old new row serves over room calm =
    holds_of_wanted request_rules Answers found request now (Rose faults later) answer old new
    (λ held. left_record old.setup.config held now row.token)
    (λ held behind other adds answers. left_added old.setup held request now other adds row (leaves held behind)
    answers)
    (λ held. IsClosed held row.token)
    (λ held behind. left_closes old.setup.config held now request row (leaves held behind).live) room calm serves
  where
    leaves : (held : Held) → IsBehind request_rules found now held → LeavesOver old.setup held request now row
    leaves held behind = record {
      posted = over.posted;
      unexpired = over.unexpired;
      live =
          session_alike now held found request (alike_behind request_rules found now AnswerAlike alike_self same held
          behind)
          ∙ over.live;
    }
