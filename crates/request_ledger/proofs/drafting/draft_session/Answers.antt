use Rattle.std.proofs.Common.{◌≡◌, ◌∙◌, sym, ap, subst}
use Rattle.request_ledger.specs.Ledger.{next_number}
use Rattle.request_ledger.specs.Drafts.{opened, opened_with, IsDraftable}
use Rattle.request_ledger.proofs.DraftedRecords.{opened_draftable}
use Rattle.request_ledger.proofs.drafting.draft_session.Goals as goal

pub draft-requires : goal.draft-requires
draft-requires c =
    let held = c.args.ledger.now.held in
    let key = c.key-key.result.now in
    let new = c.args.new.now in
    let is : c.in_ok-entry.entry ≡ opened key (next_number held) c.args.now new =
    c.in_ok-entry.ensures ∙ ap (λ t. opened_with c.next_number-first.result c.args.now t new) c.id_of-token.ensures
    ∙ ap (λ n. opened key n c.args.now new) c.next_number-first.ensures in
    subst (IsDraftable held) (sym is) (opened_draftable held key c.args.now new c.requires.moment c.requires.texts c.requires.asked c.requires.unspent)
