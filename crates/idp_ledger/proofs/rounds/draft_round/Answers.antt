use Rattle.std.proofs.Common.{◌∙◌, sym, ap, subst}
use Rattle.ledger_records.specs.declared.idp_record.IdpRecord.{IdpRecord}
use Rattle.idp_ledger.specs.Record.{AreRecords}
use Rattle.idp_ledger.specs.Ledger.{next_number}
use Rattle.idp_ledger.specs.Ids.{AreRoundIds}
use Rattle.idp_ledger.specs.Drafts.{round_with, Drafts, IsDraftable}
use Rattle.idp_ledger.proofs.RoundDrafts.{round_draftable, round_drafts}
use Rattle.idp_ledger.proofs.rounds.draft_round.Goals as goal
use Rattle.std.specs.Prelude.{option_copied}

pub draft-requires : goal.draft-requires
draft-requires c =
    let held = c.args.ledger.now.held in
    let key = c.key-key.result.now in
    let ids = c.round_ids-ids.result in
    let records : AreRecords held.records = c.holds_records.ensures in
    let are = subst (λ n. AreRoundIds key n ids) c.next_number-first.ensures c.round_ids-ids.ensures in
    let is = c.in_ok-entry.ensures ∙ ap (λ n. round_with n c.args.now ids c.args.cookies.now (option_copied c.args.asker) c.args.turns.now c.args.skipped) c.next_number-first.ensures in
    subst (IsDraftable held) (sym is)
    (round_draftable held key ids are c.args.now c.args.cookies.now (option_copied c.args.asker) c.args.turns.now c.args.skipped c.requires.moment records c.requires.live c.requires.asker c.requires.turns)

pub returns-clause-drafts : goal.returns-clause-drafts
returns-clause-drafts c =
    let old = c.args.ledger.now in
    let held = old.held in
    let ids = c.round_ids-ids.result in
    let are = subst (λ n. AreRoundIds c.key-key.result.now n ids) c.next_number-first.ensures c.round_ids-ids.ensures in
    let own = subst (λ k. AreRoundIds k (next_number held) ids) c.key-key.ensures are in
    let is = c.in_ok-entry.ensures ∙ ap (λ n. round_with n c.args.now ids c.args.cookies.now (option_copied c.args.asker) c.args.turns.now c.args.skipped) c.next_number-first.ensures in
    round_drafts old c.draft.new.ledger old.key (next_number held) c.args.now ids c.args.cookies.now (option_copied c.args.asker) c.args.turns.now c.args.skipped c.draft.result own
    (subst (λ (e : IdpRecord). Drafts old c.draft.new.ledger e c.draft.result) is c.draft.ensures.drafts)
