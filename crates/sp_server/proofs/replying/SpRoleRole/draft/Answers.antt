use Rattle.std.proofs.Common.{subst, sym, ap, ◌∙◌}
use Rattle.record_ledger.specs.Ledger.{CanCommit}
use Rattle.request_ledger.specs.Record.{request_rules}
use Rattle.request_ledger.specs.Standing.{request_row_rules}
use Rattle.provider_node.specs.Drafted.{drafted_of}
use Rattle.provider_node.specs.Replies.{IsDrafted}
use Rattle.provider_node.proofs.Drafting.{seen_same}
use Rattle.sp_server.specs.Replies.{stands_for}
use Rattle.sp_server.specs.Step.{Setup}
use Rattle.sp_server.proofs.Replies.{can_draft, sp_drafted}
use Rattle.sp_server.proofs.replying.SpRoleRole.draft.Goals as goal

pub draft-requires-clause-can : goal.draft-requires-clause-can
draft-requires-clause-can c =
    can_draft c.args.self.now c.args.ledger.now.held c.requires.wanted.0 c.args.now c.args.reply.now c.requires.wanted.1

pub returns-clause-drafts : goal.returns-clause-drafts
returns-clause-drafts c =
    let own : Setup =
    record {
      config = c.self.inside.config;
      policy = c.self.inside.policy;
      expiry = c.self.inside.expiry;
      guard =
          c.self.inside.guard;
    } in
    subst (IsDrafted request_rules c.args.ledger.now.held (CanCommit request_rules request_row_rules c.draft.new.ledger)
    (stands_for c.args.self.now c.args.ledger.now.held c.args.now c.args.reply.now)) (sym c.of.ensures)
    (subst (λ (s : Setup). IsDrafted request_rules c.args.ledger.now.held
    (CanCommit request_rules request_row_rules c.draft.new.ledger)
    (stands_for s c.args.ledger.now.held c.args.now c.args.reply.now) (drafted_of c.draft.result))
    c.self.view_is
    (sp_drafted own c.args.ledger.now c.draft.new.ledger c.args.now c.args.reply.now c.draft.result
    (c.requires.key ∙ ap (λ (s : Setup). s.config.id_key) (sym c.self.view_is)) c.draft.ensures.same
    c.draft.ensures.drafts))

pub returns-clause-same : goal.returns-clause-same
returns-clause-same c = seen_same c.args.ledger.now c.draft.new.ledger c.draft.ensures.same
