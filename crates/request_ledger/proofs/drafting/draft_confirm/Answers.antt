use Rattle.std.proofs.Common.{◌≡◌, ◌∙◌, sym, ap, subst}
use Rattle.request_ledger.specs.Record.{AreRecords}
use Rattle.request_ledger.specs.Drafts.{confirmed, IsDraftable}
use Rattle.request_ledger.proofs.DraftedRecords.{confirmed_draftable}
use Rattle.request_ledger.proofs.drafting.draft_confirm.Goals as goal

pub draft-requires : goal.draft-requires
draft-requires c =
    let held = c.args.ledger.now.held in
    let are : AreRecords held.records = c.holds_records.ensures in
    let same : confirmed c.args.now c.in_ok-of.field-0 ≡ confirmed c.args.now c.args.request.now = ap (confirmed c.args.now) c.in_ok-of.ensures in
    let waits = sym c.is_waiting.ensures ∙ c.if-not-is_waiting.false in
    subst (IsDraftable held) (sym same) (confirmed_draftable held c.args.now c.args.request.now c.requires.moment are waits)
