use Rattle.std.proofs.Common.{◌≡◌, ◌∙◌, sym, ap, subst}
use Rattle.ledger_records.specs.declared.hub_record.HubRecord.{HubRecord}
use Rattle.ledger_records.specs.declared.hub_record.HubRecord.TheVariants as kinds
use Rattle.hub_ledger.specs.Drafts.{spoke, IsDraftable}
use Rattle.hub_ledger.proofs.Drafted.{spoke_draftable}
use Rattle.hub_ledger.proofs.drafting.draft_speak.Goals as goal

pub draft-requires : goal.draft-requires
draft-requires c =
    let held = c.args.ledger.now.held in
    let key = c.key-key.result.now in
    let first = c.next_number-first.result in
    let below = c.args.below.now in
    let id = c.in_ok-of.ensures ∙ c.as_str.ensures.value ∙ c.id_of-message.ensures in
    let request = c.in_ok-copy.ensures in
    let peer = c.in_ok-copy-2.ensures in
    let made : HubRecord = kinds.Spoke (record { first = first; moment = c.args.now; message = c.in_ok-of.field-0; request = c.in_ok-copy.field-0; peer = c.in_ok-copy-2.field-0 }) in
    let same : made ≡ spoke key first c.args.now below = λ i. kinds.Spoke (record { first = first; moment = c.args.now; message = id i; request = request i; peer = peer i }) in
    let is = same ∙ ap (λ n. spoke key n c.args.now below) c.next_number-first.ensures in
    subst (IsDraftable held) (sym is) (spoke_draftable held key c.args.now below c.requires.moment c.requires.texts)
