use Rattle.std.proofs.Common.{◌≡◌, ◌∙◌, ◌+◌, List, sym, ap, subst}
use Rattle.ledger_records.specs.declared.idp_record.IdpRecord.{IdpRecord}
use Rattle.ledger_records.specs.declared.idp_record.IdpRecord.TheVariants as kinds
use Rattle.idp_rows.specs.RowsOf.{IdpRows, issued_rows, session_rows, rows_of}
use Rattle.idp_ledger.specs.Record.{AreRecords}
use Rattle.std.proofs.lemmas.Bool.{true≢false}
use Rattle.idp_rows.specs.Finding.{last_peer, session_found}
use Rattle.idp_ledger.specs.Drafts.{left, IsDraftable}
use Rattle.idp_ledger.proofs.RowTexts.{some_found, found_session, sessions_allowed}
use Rattle.idp_ledger.proofs.DraftedRecords.{left_draftable}
use Rattle.idp_ledger.proofs.drafts.draft_leave.Goals as goal

pub unreachable-requires : goal.unreachable-requires
unreachable-requires c =
    let held = c.args.ledger.now.held in
    let cookie = c.args.cookie.now in
    let are : AreRecords held.records = c.holds_records.ensures in
    let rows : c.rows.result.now.rows ≡ rows_of held.records = c.rows.ensures in
    let row = some_found (session_found (session_rows held.records) cookie c.args.now held.header.horizon) c.requires.live in
    let there = (found_session (session_rows held.records) cookie c.args.now held.header.horizon row.0 row.1 (sessions_allowed held.records are)).there in
    let none = subst (λ (r : IdpRows). Rattle.std.specs.List.list_any (λ s. Rattle.std.specs.Str.bytes_eq s.cookie cookie) r.sessions ≡ Rattle.std.proofs.Common.false) rows c.in_default.ensures.none in
    true≢false (sym there ∙ none)

pub draft-requires : goal.draft-requires
draft-requires c =
    let held = c.args.ledger.now.held in
    let key = c.key-key.result.now in
    let cookie = c.args.cookie.now in
    let first = c.next_number-first.result in
    let are : AreRecords held.records = c.holds_records.ensures in
    let rows : c.rows.result.now.rows ≡ rows_of held.records = c.rows.ensures in
    let row = some_found (session_found (session_rows held.records) cookie c.args.now held.header.horizon) c.requires.live in
    let to : c.in_ok-peer.peer ≡ last_peer (issued_rows held.records) cookie = c.in_ok-peer.ensures ∙ c.in-Some.ensures.some ∙ ap (λ (r : IdpRows). last_peer r.issues cookie) rows in
    let its = c.in_ok-of.ensures in
    let request = c.in_ok-of-2.ensures ∙ c.as_str.ensures.value ∙ c.id_of-request.ensures in
    let made : IdpRecord = kinds.Left (record { first = first; moment = c.args.now; until = c.args.now + 600000; cookie = c.in_ok-of.field-0; request = c.in_ok-of-2.field-0; peer = c.in_ok-peer.peer }) in
    let same : made ≡ left key first c.args.now cookie (last_peer (issued_rows held.records) cookie) =
    λ i. kinds.Left (record { first = first; moment = c.args.now; until = c.args.now + 600000; cookie = its i; request = request i; peer = to i }) in
    let is = same ∙ ap (λ n. left key n c.args.now cookie (last_peer (issued_rows held.records) cookie)) c.next_number-first.ensures in
    subst (IsDraftable held) (sym is) (left_draftable held key c.args.now cookie row.0 c.requires.moment are row.1)
