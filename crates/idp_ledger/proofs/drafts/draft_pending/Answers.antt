use Rattle.std.proofs.Common.{◌≡◌, ◌∙◌, ◌+◌, sym, ap, subst}
use Rattle.ledger_records.specs.declared.idp_record.IdpRecord.{IdpRecord}
use Rattle.ledger_records.specs.declared.idp_record.IdpRecord.TheVariants as kinds
use Rattle.idp_ledger.specs.Drafts.{pending, IsDraftable}
use Rattle.idp_ledger.proofs.DraftedRecords.{pending_draftable}
use Rattle.idp_ledger.proofs.drafts.draft_pending.Goals as goal

pub draft-requires : goal.draft-requires
draft-requires c =
    let held = c.args.ledger.now.held in
    let key = c.key-key.result.now in
    let first = c.next_number-first.result in
    let ask = c.args.ask.now in
    let id = c.in_ok-of.ensures ∙ c.as_str.ensures.value ∙ c.id_of-pending.ensures in
    let made : IdpRecord = kinds.Pending (record {
      first = first;
      moment = c.args.now;
      until = c.args.now + 600000;
      pending = c.in_ok-of.field-0;
      request = c.in_ok-copy.field-0;
      peer = c.in_ok-copy-2.field-0;
      consumer = c.in_ok-copy-3.field-0;
      relay = c.in_ok-copy_if_any.field-0;
    }) in
    let request = c.in_ok-copy.ensures in
    let peer = c.in_ok-copy-2.ensures in
    let consumer = c.in_ok-copy-3.ensures in
    let relay = c.in_ok-copy_if_any.ensures in
    let same : made ≡ pending key first c.args.now ask = λ i. kinds.Pending (record {
      first = first;
      moment = c.args.now;
      until = c.args.now + 600000;
      pending = id i;
      request = request i;
      peer = peer i;
      consumer = consumer i;
      relay = relay i;
    }) in
    let is = same ∙ ap (λ n. pending key n c.args.now ask) c.next_number-first.ensures in
    subst (IsDraftable held) (sym is) (pending_draftable held key c.args.now ask c.requires.moment c.requires.texts)
