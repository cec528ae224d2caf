use Rattle.std.proofs.Common.{◌≡◌, ◌∙◌, [], sym, ap, subst}
use Rattle.std.proofs.lemmas.Bool.{false≢true}
use Rattle.saml_ids.specs.IdText.{id_text}
use Rattle.saml_ids.specs.declared.Kind.TheVariants.{Message}
use Rattle.ledger_records.specs.declared.sp_record.SpRecord.{SpRecord}
use Rattle.ledger_records.specs.declared.sp_record.SpRecord.TheVariants as kinds
use Rattle.request_ledger.specs.RowsOf.{opened_rows}
use Rattle.record_ledger.specs.Drafts.{IsDraftOf}
use Rattle.request_ledger.specs.Record.{AreRecords, request_rules}
use Rattle.request_ledger.specs.Standing.{request_row_rules}
use Rattle.request_ledger.specs.Drafts.{ended, ending, IsDraftable}
use Rattle.request_ledger.proofs.DraftedRecords.{ended_draftable}
use Rattle.request_ledger.proofs.RowTexts.{some_texts}
use Rattle.request_ledger.proofs.drafting.draft_end.Goals as goal

pub draft-requires : goal.draft-requires
draft-requires c =
    let held = c.args.ledger.now.held in
    let key = c.key-key.result.now in
    let first = c.next_number-first.result in
    let now = c.args.now in
    let ends = ending now held.header.horizon c.args.issuer.now c.args.name.now c.args.indexes.now (opened_rows held.records) in
    let are : AreRecords held.records = c.holds_records.ensures in
    let tokens : c.tokens.inside.items.items ≡ ends = c.tokens.view_is ∙ c.in_ok-tokens.ensures in
    let message = c.in_ok-of.ensures ∙ c.as_str.ensures.value ∙ c.id_of-message.ensures in
    let request = c.in_ok-of-2.ensures in
    let made : SpRecord = kinds.Ended (record { first = first; moment = now; tokens = c.tokens.inside.items.items; message = c.in_ok-of.field-0; request = c.in_ok-of-2.field-0 }) in
    let same : made ≡ ended key first now ends c.args.request.now = λ i. kinds.Ended (record { first = first; moment = now; tokens = tokens i; message = message i; request = request i }) in
    let is = same ∙ ap (λ n. ended key n now ends c.args.request.now) c.next_number-first.ensures in
    subst (IsDraftable held) (sym is) (ended_draftable held key now c.args.issuer.now c.args.name.now c.args.indexes.now c.args.request.now c.requires.moment c.requires.text are)

pub returns-clause-drafts : goal.returns-clause-drafts
returns-clause-drafts c =
    let held = c.args.ledger.now.held in
    let key = c.args.ledger.now.key in
    let same_key = c.key-key.ensures in
    let first = c.next_number-first.result in
    let now = c.args.now in
    let ends = ending now held.header.horizon c.args.issuer.now c.args.name.now c.args.indexes.now (opened_rows held.records) in
    let tokens : c.tokens.inside.items.items ≡ ends = c.tokens.view_is ∙ c.in_ok-tokens.ensures in
    let message = c.in_ok-of.ensures ∙ c.as_str.ensures.value ∙ c.id_of-message.ensures ∙ ap (λ k. id_text k Message first) same_key in
    let request = c.in_ok-of-2.ensures in
    let made : SpRecord = kinds.Ended (record { first = first; moment = now; tokens = c.tokens.inside.items.items; message = c.in_ok-of.field-0; request = c.in_ok-of-2.field-0 }) in
    let same : made ≡ ended key first now ends c.args.request.now = λ i. kinds.Ended (record { first = first; moment = now; tokens = tokens i; message = message i; request = request i }) in
    let is = same ∙ ap (λ n. ended key n now ends c.args.request.now) c.next_number-first.ensures in
    let some : ends ≡ [] → ⊥ = λ none. false≢true (sym c.if-is_empty.false ∙ c.is_empty.ensures.1 (c.in_ok-tokens.ensures ∙ none)) in
    (some_texts ends some, subst (λ (e : SpRecord). IsDraftOf request_rules request_row_rules c.args.ledger.now c.draft.new.self e c.in_ok-draft.field-0) is c.in_ok-draft.ensures.drafts)
