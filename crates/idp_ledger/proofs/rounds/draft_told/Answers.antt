use Rattle.std.proofs.Common.{◌∙◌, ℕ, List, Some, sym, ap, subst}
use Rattle.saml_ids.specs.IdText.{id_text}
use Rattle.saml_ids.specs.declared.Kind.TheVariants.{Request}
use Rattle.idp_ledger.specs.Record.{AreRecords}
use Rattle.idp_ledger.specs.Drafts.{told_with, IsDraftable}
use Rattle.idp_ledger.proofs.RoundDrafts.{told_draftable, last_draftable}
use Rattle.idp_ledger.proofs.rounds.draft_told.Goals as goal

pub draft-requires : goal.draft-requires
draft-requires c =
    let held = c.args.ledger.now.held in
    let key = c.key-key.result.now in
    let request = c.args.request.now in
    let records : AreRecords held.records = c.holds_records.ensures in
    let is = c.in_ok-entry.ensures
    ∙ ap (λ (id : List ℕ). told_with c.next_number-first.result c.args.now request c.args.confirmed (Some id)) c.id_of-next.ensures
    ∙ ap (λ n. told_with n c.args.now request c.args.confirmed (Some (id_text key Request n))) c.next_number-first.ensures in
    subst (IsDraftable held) (sym is)
    (told_draftable held request c.args.peer.now c.args.now c.in-Some.row.now c.requires.moment records (sym c.in-Some.ensures.found) c.in-Some.ensures.only key c.args.confirmed (sym c.if-is_turn_left.ensures))

pub draft-requires-else-is_turn_left : goal.draft-requires-else-is_turn_left
draft-requires-else-is_turn_left c =
    let held = c.args.ledger.now.held in
    let records : AreRecords held.records = c.holds_records.ensures in
    subst (IsDraftable held) (sym c.in_ok-entry-2.ensures)
    (last_draftable held c.args.request.now c.args.peer.now c.args.now c.in-Some.row.now c.requires.moment records (sym c.in-Some.ensures.found) c.in-Some.ensures.only c.args.confirmed (sym c.if-is_turn_left.ensures))
