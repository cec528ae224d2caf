use Rattle.std.proofs.Common.{◌≡◌, ◌∙◌, Some, sym, ap, subst}
use Rattle.std.specs.Option.{IfSome}
use Rattle.ledger_records.specs.declared.idp_record.IdpRecord.{IdpRecord}
use Rattle.idp_rows.specs.RowsOf.{session_rows}
use Rattle.idp_ledger.specs.Record.{AreRecords}
use Rattle.idp_ledger.specs.Ledger.{next_number}
use Rattle.idp_rows.specs.Finding.{session_found}
use Rattle.idp_ledger.specs.Ids.{AreLoginIds}
use Rattle.idp_ledger.specs.Drafts.{issue, issue_with, Drafts, IsDraftable}
use Rattle.idp_ledger.proofs.DraftedRecords.{issue_draftable, issue_drafts}
use Rattle.idp_ledger.proofs.logins.draft_issue.Goals as goal

pub draft-requires : goal.draft-requires
draft-requires c =
    let held = c.args.ledger.now.held in
    let key = c.key-key.result.now in
    let ids = c.login_ids-ids.result in
    let row = c.in-Some.row.now in
    let records : AreRecords held.records = c.holds_records.ensures in
    let found : session_found (session_rows held.records) c.args.cookie.now c.args.now held.header.horizon ≡ Some row = sym c.in-Some.ensures in
    let are = subst (λ n. AreLoginIds key n ids) c.next_number-first.ensures c.login_ids-ids.ensures in
    let is = c.in_ok-entry.ensures ∙ ap (λ n. issue_with n c.args.now ids row c.args.ask.now) c.next_number-first.ensures in
    subst (IsDraftable held) (sym is) (issue_draftable held key ids are c.args.now c.args.cookie.now c.args.ask.now row c.requires.moment records found c.requires.texts)

pub returns-clause-drafts : goal.returns-clause-drafts
returns-clause-drafts c =
    let old = c.args.ledger.now in
    let held = old.held in
    let new = c.draft.new.ledger in
    let ids = c.login_ids-ids.result in
    let row = c.in-Some.row.now in
    let found : session_found (session_rows held.records) c.args.cookie.now c.args.now held.header.horizon ≡ Some row = sym c.in-Some.ensures in
    let are = subst (λ n. AreLoginIds c.key-key.result.now n ids) c.next_number-first.ensures c.login_ids-ids.ensures in
    let own = subst (λ k. AreLoginIds k (next_number held) ids) (c.key-key.ensures) are in
    let is = c.in_ok-entry.ensures ∙ ap (λ n. issue_with n c.args.now ids row c.args.ask.now) c.next_number-first.ensures in
    subst (λ o. IfSome o (λ r. Drafts old new (issue old.key (next_number held) c.args.now r c.args.ask.now) c.draft.result)) (sym found)
    (issue_drafts old new old.key (next_number held) c.args.now ids row c.args.ask.now c.draft.result own (subst (λ (e : IdpRecord). Drafts old new e c.draft.result) is c.draft.ensures.drafts))
