use Rattle.std.proofs.Common.{◌∙◌, subst, sym}
use Rattle.ledger_records.specs.declared.idp_record.IdpRecord.{IdpRecord}
use Rattle.idp_server.specs.Replies.{CanBeShown}
use Rattle.idp_server.proofs.Replies.{shown_of}
use Rattle.idp_server.proofs.replying.IdpRoleRole.page.Goals as goal

pub page_of-requires-clause-shown : goal.page_of-requires-clause-shown
page_of-requires-clause-shown c =
    let wanted = c.requires.wanted in
    subst (λ (r : IdpRecord). CanBeShown c.args.self.now c.args.reply.now r) (sym (c.entry-2.ensures ∙ c.entry.ensures))
    (shown_of c.args.self.now wanted.held wanted.request c.args.now c.args.self.now.id_key c.args.reply.now
    c.args.draft.now c.requires.moment wanted.wants wanted.is)
