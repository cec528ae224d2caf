use Rattle.std.proofs.Common.{subst, sym}
use Rattle.record_ledger.specs.Ledger.{CanCommit}
use Rattle.hub_ledger.specs.Record.{hub_rules}
use Rattle.hub_ledger.specs.Standing.{hub_row_rules}
use Rattle.provider_node.specs.Replies.{IsDrafted}
use Rattle.provider_node.proofs.Drafting.{seen_same}
use Rattle.identity_hub.specs.Replies.{record_for}
use Rattle.identity_hub.proofs.Replies.{can_draft, record_there}
use Rattle.identity_hub.proofs.Roles.{hub_drafted}
use Rattle.identity_hub.proofs.replying.HubRoleRole.draft.Goals as goal

pub draft-requires-clause-can : goal.draft-requires-clause-can
draft-requires-clause-can c =
    can_draft c.args.self.now c.args.ledger.now.held c.requires.wanted.0 c.args.now c.args.reply.now c.requires.wanted.1

pub returns-clause-drafts : goal.returns-clause-drafts
returns-clause-drafts c =
    let old = c.args.ledger.now in
    let found =
    record_there c.args.self.now old.held c.requires.wanted.0 c.args.now old.key c.args.reply.now c.requires.wanted.1 in
    subst (IsDrafted hub_rules old.held (CanCommit hub_rules hub_row_rules c.draft.new.ledger)
    (record_for c.args.self.now.upstream.id_key old.held c.args.now c.args.reply.now)) (sym c.of.ensures)
    (hub_drafted c.args.self.now.upstream.id_key old c.draft.new.ledger c.args.now c.args.reply.now found.0
    c.draft.result
    c.requires.key c.draft.ensures.same found.1 c.draft.ensures.drafts)

pub returns-clause-same : goal.returns-clause-same
returns-clause-same c = seen_same c.args.ledger.now c.draft.new.ledger c.draft.ensures.same
