use Rattle.std.specs.Prelude.{IfOk}
use Rattle.std.proofs.Common.{subst, sym}
use Rattle.ledger_records.specs.declared.hub_record.HubRecord.{HubRecord}
use Rattle.identity_hub.specs.Replies.{CanBeShown, IsPage}
use Rattle.identity_hub.proofs.Replies.{shown_of}
use Rattle.identity_hub.proofs.replying.HubRoleRole.page.Goals as goal

pub page_of-requires-clause-shown : goal.page_of-requires-clause-shown
page_of-requires-clause-shown c =
    let wanted = c.requires.wanted in
    subst (CanBeShown c.args.self.now c.args.reply.now) (sym c.entry.ensures)
    (shown_of c.args.self.now wanted.held wanted.request c.args.now c.args.self.now.upstream.id_key c.args.reply.now
    c.args.draft.now c.requires.moment wanted.wants wanted.is)

pub returns : goal.returns
returns c =
    subst (λ (r : HubRecord). IfOk c.page_of.result (IsPage c.args.self.now c.args.reply.now r c.args.now))
    c.entry.ensures
    c.page_of.ensures
