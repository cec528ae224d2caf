use Rattle.std.proofs.Common.{◌≡◌, ◌∙◌, sym, ap, subst}
use Rattle.idp_ledger.specs.Record.{AreRecords}
use Rattle.idp_ledger.specs.Drafts.{confirmed, IsDraftable}
use Rattle.idp_ledger.proofs.DraftedRecords.{confirmed_draftable}
use Rattle.idp_ledger.proofs.drafts.draft_confirm.Goals as goal

pub draft-requires : goal.draft-requires
draft-requires c =
    let held = c.args.ledger.now.held in
    let request = c.args.request.now in
    let are : AreRecords held.records = c.holds_records.ensures in
    let same : confirmed c.args.now c.in_ok-of.field-0 ≡ confirmed c.args.now request = ap (confirmed c.args.now) c.in_ok-of.ensures in
    subst (IsDraftable held) (sym same) (confirmed_draftable held c.args.now request c.requires.moment are (sym c.is_waiting.ensures ∙ c.if-not-is_waiting.false))
