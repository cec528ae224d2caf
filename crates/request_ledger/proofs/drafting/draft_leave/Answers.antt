use Rattle.std.proofs.Common.{◌≡◌, ◌∙◌, ◌+◌, sym, ap, subst}
use Rattle.ledger_records.specs.declared.sp_record.SpRecord.{SpRecord}
use Rattle.ledger_records.specs.declared.sp_record.SpRecord.TheVariants as kinds
use Rattle.request_ledger.specs.Record.{AreRecords}
use Rattle.request_ledger.specs.Drafts.{left, IsDraftable}
use Rattle.request_ledger.proofs.DraftedRecords.{left_draftable}
use Rattle.request_ledger.proofs.drafting.draft_leave.Goals as goal

pub draft-requires : goal.draft-requires
draft-requires c =
    let held = c.args.ledger.now.held in
    let key = c.key-key.result.now in
    let first = c.next_number-first.result in
    let are : AreRecords held.records = c.holds_records.ensures in
    let token = c.in_ok-of.ensures in
    let request = c.in_ok-of-2.ensures ∙ c.as_str.ensures.value ∙ c.id_of-request.ensures in
    let made : SpRecord = kinds.Left (record { first = first; moment = c.args.now; until = c.args.now + 600000; token = c.in_ok-of.field-0; request = c.in_ok-of-2.field-0 }) in
    let same : made ≡ left key first c.args.now c.args.token.now = λ i. kinds.Left (record { first = first; moment = c.args.now; until = c.args.now + 600000; token = token i; request = request i }) in
    let is = same ∙ ap (λ n. left key n c.args.now c.args.token.now) c.next_number-first.ensures in
    subst (IsDraftable held) (sym is) (left_draftable held key c.args.now c.args.token.now c.requires.moment are c.requires.live)
