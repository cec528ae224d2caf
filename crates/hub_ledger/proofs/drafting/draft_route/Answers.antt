use Rattle.std.proofs.Common.{◌∙◌, sym, ap, subst}
use Rattle.ledger_records.specs.declared.hub_record.HubRecord.{HubRecord}
use Rattle.hub_ledger.specs.Ledger.{next_number}
use Rattle.hub_ledger.specs.Ids.{AreRequestIds}
use Rattle.hub_ledger.specs.Drafts.{routed_with, Drafts, IsDraftable}
use Rattle.hub_ledger.proofs.Drafted.{routed_draftable, routed_drafts}
use Rattle.hub_ledger.proofs.drafting.draft_route.Goals as goal

pub draft-requires : goal.draft-requires
draft-requires c =
    let held = c.args.ledger.now.held in
    let ids = c.request_ids-ids.result in
    let are = subst (λ n. AreRequestIds c.key-key.result.now n ids) c.next_number-first.ensures c.request_ids-ids.ensures in
    let is = c.in_ok-entry.ensures ∙ ap (λ n. routed_with n c.args.now ids c.args.below.now) c.next_number-first.ensures in
    subst (IsDraftable held) (sym is) (routed_draftable held c.key-key.result.now ids are c.args.now c.args.below.now c.requires.moment c.requires.texts)

pub returns-clause-drafts : goal.returns-clause-drafts
returns-clause-drafts c =
    let old = c.args.ledger.now in
    let ids = c.request_ids-ids.result in
    let are = subst (λ n. AreRequestIds c.key-key.result.now n ids) c.next_number-first.ensures c.request_ids-ids.ensures in
    let own = subst (λ k. AreRequestIds k (next_number old.held) ids) c.key-key.ensures are in
    let is = c.in_ok-entry.ensures ∙ ap (λ n. routed_with n c.args.now ids c.args.below.now) c.next_number-first.ensures in
    routed_drafts old c.draft.new.self old.key (next_number old.held) c.args.now ids c.args.below.now c.draft.result own
    (subst (λ (e : HubRecord). Drafts old c.draft.new.self e c.draft.result) is c.draft.ensures.drafts)
