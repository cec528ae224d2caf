use Rattle.std.proofs.Common.{subst, sym}
use Rattle.record_ledger.specs.Ledger.{CanCommit}
use Rattle.idp_ledger.specs.Record.{idp_rules}
use Rattle.idp_ledger.specs.Standing.{idp_row_rules}
use Rattle.provider_node.specs.Replies.{IsDrafted}
use Rattle.provider_node.proofs.Drafting.{seen_same}
use Rattle.idp_server.specs.Replies.{record_for}
use Rattle.idp_server.proofs.Replies.{found_record_of, record_found, reply_allowed}
use Rattle.idp_server.proofs.Roles.{idp_drafted}
use Rattle.idp_server.proofs.replying.IdpRoleRole.draft.Goals as goal

pub draft-requires-clause-texts : goal.draft-requires-clause-texts
draft-requires-clause-texts c =
    reply_allowed c.args.self.now c.args.ledger.now.held c.requires.wanted.0 c.args.now c.args.reply.now
    c.requires.wanted.1

pub draft-requires-clause-found : goal.draft-requires-clause-found
draft-requires-clause-found c =
    record_found c.args.self.now c.args.ledger.now.held c.requires.wanted.0 c.args.now c.args.ledger.now.key
    c.args.reply.now c.requires.wanted.1

pub returns-clause-drafts : goal.returns-clause-drafts
returns-clause-drafts c =
    let old = c.args.ledger.now in
    let found =
    found_record_of c.args.self.now old.held c.requires.wanted.0 c.args.now old.key c.args.reply.now
    c.requires.wanted.1 in
    subst (IsDrafted idp_rules old.held (CanCommit idp_rules idp_row_rules c.draft.new.ledger)
    (record_for c.args.self.now.id_key old.held c.args.now c.args.reply.now)) (sym c.of.ensures)
    (idp_drafted c.args.self.now.id_key old c.draft.new.ledger c.args.now c.args.reply.now found.0 c.draft.result
    c.requires.key c.draft.ensures.same found.1 c.draft.ensures.drafts)

pub returns-clause-same : goal.returns-clause-same
returns-clause-same c = seen_same c.args.ledger.now c.draft.new.ledger c.draft.ensures.same
