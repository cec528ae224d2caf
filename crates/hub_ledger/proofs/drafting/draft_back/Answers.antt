use Rattle.std.proofs.Common.{◌≡◌, ◌∙◌, Some, sym, ap, subst}
use Rattle.std.specs.Option.{IfSome}
use Rattle.ledger_records.specs.declared.hub_record.HubRecord.{HubRecord}
use Rattle.hub_ledger.specs.RowsOf.{rows_of}
use Rattle.hub_ledger.specs.Finding.{routed_row, routed_view}
use Rattle.hub_ledger.specs.Ledger.{next_number}
use Rattle.hub_ledger.specs.Ids.{AreLoginIds}
use Rattle.hub_ledger.specs.Drafts.{backed, backed_with, Drafts, IsDraftable}
use Rattle.hub_ledger.proofs.Drafted.{backed_draftable, backed_drafts}
use Rattle.hub_ledger.proofs.drafting.draft_back.Goals as goal

pub draft-requires : goal.draft-requires
draft-requires c =
    let held = c.args.ledger.now.held in
    let ids = c.login_ids-ids.result in
    let route = routed_view c.in-Some.row in
    let found : routed_row (rows_of held.records) c.args.new.now.request c.args.now held.header.horizon ≡ Some route =
    sym (c.in-Some.ensures ∙ ap (λ t. routed_row (rows_of held.records) t c.args.now held.header.horizon) c.as_str.ensures) in
    let are = subst (λ n. AreLoginIds c.key-key.result.now n ids) c.next_number-first.ensures c.login_ids-ids.ensures in
    let is = c.in_ok-entry.ensures ∙ ap (λ n. backed_with n c.args.now ids route.below c.args.new.now) c.next_number-first.ensures in
    subst (IsDraftable held) (sym is)
    (backed_draftable held c.key-key.result.now ids are c.args.now c.args.new.now route c.requires.moment c.holds_records.ensures c.requires.texts found)

pub returns-clause-drafts : goal.returns-clause-drafts
returns-clause-drafts c =
    let old = c.args.ledger.now in
    let held = old.held in
    let ids = c.login_ids-ids.result in
    let route = routed_view c.in-Some.row in
    let found : routed_row (rows_of held.records) c.args.new.now.request c.args.now held.header.horizon ≡ Some route =
    sym (c.in-Some.ensures ∙ ap (λ t. routed_row (rows_of held.records) t c.args.now held.header.horizon) c.as_str.ensures) in
    let are = subst (λ n. AreLoginIds c.key-key.result.now n ids) c.next_number-first.ensures c.login_ids-ids.ensures in
    let own = subst (λ k. AreLoginIds k (next_number held) ids) c.key-key.ensures are in
    let is = c.in_ok-entry.ensures ∙ ap (λ n. backed_with n c.args.now ids route.below c.args.new.now) c.next_number-first.ensures in
    subst (λ o. IfSome o (λ r. Drafts old c.draft.new.self (backed old.key (next_number held) c.args.now r.below c.args.new.now) c.draft.result)) (sym found)
    (backed_drafts old c.draft.new.self old.key (next_number held) c.args.now ids route.below c.args.new.now c.draft.result own
    (subst (λ (e : HubRecord). Drafts old c.draft.new.self e c.draft.result) is c.draft.ensures.drafts))
