use Rattle.std.proofs.Common.{◌≡◌, ◌∙◌, [], sym, ap, subst}
use Rattle.std.proofs.lemmas.Bool.{false≢true}
use Rattle.saml_ids.specs.IdText.{id_text}
use Rattle.saml_ids.specs.declared.Kind.TheVariants.{Message}
use Rattle.ledger_records.specs.declared.idp_record.IdpRecord.{IdpRecord}
use Rattle.ledger_records.specs.declared.idp_record.IdpRecord.TheVariants as kinds
use Rattle.idp_rows.specs.RowsOf.{rows_of}
use Rattle.idp_rows.specs.Finding.{ending, is_partial}
use Rattle.idp_ledger.specs.Record.{AreRecords}
use Rattle.idp_ledger.specs.Drafts.{ended, IsDraftable, IsDraftOf}
use Rattle.idp_ledger.proofs.DraftedRecords.{ended_draftable}
use Rattle.idp_ledger.proofs.RowTexts.{some_texts}
use Rattle.idp_ledger.proofs.drafts.draft_end.Goals as goal

pub draft-requires : goal.draft-requires
draft-requires c =
    let held = c.args.ledger.now.held in
    let key = c.key-key.result.now in
    let first = c.next_number-first.result in
    let now = c.args.now in
    let asker = c.args.peer.now in
    let ends = ending now held.header.horizon asker c.args.name.now c.args.indexes.now (rows_of held.records) in
    let some = is_partial now held.header.horizon asker c.args.name.now c.args.indexes.now (rows_of held.records) in
    let are : AreRecords held.records = c.holds_records.ensures in
    let cookies : c.in_ok-ends.ends.cookies ≡ ends = c.in_ok-ends.ensures.cookies in
    let message = c.in_ok-of.ensures ∙ c.as_str.ensures.value ∙ c.id_of-message.ensures in
    let request = c.in_ok-of-2.ensures in
    let peer = c.in_ok-of-3.ensures in
    let partial = c.in_ok-ends.ensures.partial in
    let made : IdpRecord = kinds.Ended (record { first = first; moment = now; cookies = c.in_ok-ends.ends.cookies; message = c.in_ok-of.field-0; request = c.in_ok-of-2.field-0; peer = c.in_ok-of-3.field-0; partial = c.in_ok-ends.ends.partial }) in
    let same : made ≡ ended key first now ends c.args.request.now asker some = λ i. kinds.Ended (record { first = first; moment = now; cookies = cookies i; message = message i; request = request i; peer = peer i; partial = partial i }) in
    let is = same ∙ ap (λ n. ended key n now ends c.args.request.now asker some) c.next_number-first.ensures in
    subst (IsDraftable held) (sym is) (ended_draftable held key now asker c.args.name.now c.args.indexes.now c.args.request.now some c.requires.moment c.requires.text c.requires.peer are)

pub returns-clause-drafts : goal.returns-clause-drafts
returns-clause-drafts c =
    let held = c.args.ledger.now.held in
    let key = c.args.ledger.now.key in
    let same_key = c.key-key.ensures in
    let first = c.next_number-first.result in
    let now = c.args.now in
    let asker = c.args.peer.now in
    let ends = ending now held.header.horizon asker c.args.name.now c.args.indexes.now (rows_of held.records) in
    let some = is_partial now held.header.horizon asker c.args.name.now c.args.indexes.now (rows_of held.records) in
    let cookies : c.in_ok-ends.ends.cookies ≡ ends = c.in_ok-ends.ensures.cookies in
    let message = c.in_ok-of.ensures ∙ c.as_str.ensures.value ∙ c.id_of-message.ensures ∙ ap (λ k. id_text k Message first) same_key in
    let request = c.in_ok-of-2.ensures in
    let peer = c.in_ok-of-3.ensures in
    let partial = c.in_ok-ends.ensures.partial in
    let made : IdpRecord = kinds.Ended (record { first = first; moment = now; cookies = c.in_ok-ends.ends.cookies; message = c.in_ok-of.field-0; request = c.in_ok-of-2.field-0; peer = c.in_ok-of-3.field-0; partial = c.in_ok-ends.ends.partial }) in
    let same : made ≡ ended key first now ends c.args.request.now asker some = λ i. kinds.Ended (record { first = first; moment = now; cookies = cookies i; message = message i; request = request i; peer = peer i; partial = partial i }) in
    let is = same ∙ ap (λ n. ended key n now ends c.args.request.now asker some) c.next_number-first.ensures in
    let nonempty : ends ≡ [] → ⊥ = λ none. false≢true (sym c.if-is_empty.false ∙ c.is_empty.ensures.1 (c.in_ok-ends.ensures.cookies ∙ none)) in
    (some_texts ends nonempty, subst (λ (e : IdpRecord). IsDraftOf c.args.ledger.now c.draft.new.ledger e c.in_ok-draft.field-0) is c.in_ok-draft.ensures.drafts)
